-- What an end in memory hands out.
use Rattle.std.proofs.Common.{◌≡◌, ℕ, ◌+◌, ◌-◌, ◌≤◌, true, false, List, ◌++◌, length, take, drop, refl, sym, ap, ◌∙◌, arith, take_all, length-drop, length-take-le, subst, take-add}
use Rattle.std.proofs.lemmas.Bool.{true≢false}
use Rattle.std.proofs.Math.Seq.{take-append_seam}
use Rattle.link_model.specs.Standing.{ClientFacts}
use Rattle.server_end.specs.declared.Moved.TheVariants.{Count}
use Rattle.server_end.specs.Moves.{ClientReads}
use Rattle.memory_ends.specs.Clients.{ClientOf}

-- the slice from a place to the end is all that follows it
pub all_of : (n : ℕ) (bytes : List ℕ) → take (length bytes - n) (drop n bytes) ≡ drop n bytes
all_of n bytes = take_all (length bytes - n) (drop n bytes) (omega (arith, length-drop n bytes))

-- what was copied to the front of a slice stands there
pub copied : (n : ℕ) (from front back : List ℕ) → front ≡ take n from → n ≤ length from → take n (front ++ back) ≡ take n from
copied n from front back e h =
    let size : length front ≡ n = ap length e ∙ length-take-le n from h in
    (ap (λ (x : ℕ). take x (front ++ back)) (sym size) ∙ take-append_seam front back) ∙ e

abbrev facts_of : Rattle.std.specs.Prelude.Bool → List ℕ → List ℕ → ℕ → ℕ → ClientFacts
facts_of ended taken given faults waits = record { tells = true; ended = ended; taken = taken; given = given; faults = faults; read_waits = waits; write_waits = 0 }

-- a client that hadn't ended handed out the next bytes of its input
pub handed_out : (old : ClientOf) (e f : Rattle.std.specs.Prelude.Bool) (input given got : List ℕ) (at n faults waits : ℕ) → facts_of e (take at input) given faults waits ≡ old.facts → old.facts.ended ≡ false → got ≡ take n (drop at input)
    → ClientReads old.facts (facts_of f (take (at + n) input) given faults waits) got (Count n)
handed_out old e f input given got at n faults waits view living d =
    subst (λ (x : ClientFacts). ClientReads x (facts_of f (take (at + n) input) given faults waits) got (Count n)) view (record {
      tells = refl;
      taken = λ w. take-add at n input ∙ ap (λ (x : List ℕ). take at input ++ x) (sym d);
      given = λ w. refl;
      faults = omega arith;
      read_waits = omega arith;
      write_waits = refl;
      ended = λ w. cc;
      stays_ended = λ w. absurd (true≢false (sym w ∙ ap (λ (x : ClientFacts). x.ended) view ∙ living));
    })
