-- Heads that can't come any more.
use Rattle.std.proofs.Common.{◌≡◌, ℕ, ◌<◌, ◌≤◌, List, [], ◌∷◌, ◌++◌, length, drop, refl, ap, arith}
use Rattle.httparse.specs.Grammar.{RequestHead, HasNoRequest, ReadsRequest, print_request}
use Rattle.httparse.proofs.GrammarLemmas.{request_prefix_free}
use Rattle.metrics_http.specs.declared.request.TheConstants.{MAX_HEAD}
use Rattle.metrics_http.specs.Requests.{NeverBegins}

-- a text that more bytes begin with, and that isn't longer than the first of them, is a front of those
within : (input more text rest : List ℕ) → input ++ more ≡ text ++ rest → length text ≤ length input → input ≡ text ++ drop (length text) input
within input more [] rest e short = refl
within [] more (t ∷ text) rest e short = absurd (omega (arith, short))
within (i ∷ input) more (t ∷ text) rest e short =
    let first : i ≡ t = cc in
    let others : input ++ more ≡ text ++ rest = cc in
    cc (within input more text rest others (omega (arith, short)))

-- no head is there, and as many bytes as one may have
pub too_long : (input : List ℕ) → HasNoRequest input → MAX_HEAD ≤ length input → NeverBegins input
too_long input none long more h rest reads taken =
    none h (drop (length (print_request h)) input) (reads.0, within input more (print_request h) rest reads.1 (omega (arith, taken.0)))

-- the head that is there is longer than one may be
pub longer : (input : List ℕ) (h : RequestHead) (rest : List ℕ) → ReadsRequest input h rest → MAX_HEAD < length (print_request h) → NeverBegins input
longer input h rest reads long more k after later taken =
    omega (arith, taken.0, ap (λ (x : RequestHead). length (print_request x)) (request_prefix_free input more h k rest after reads later).0)
