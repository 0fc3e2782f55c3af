-- A client with its link, under moves of bytes.
use Rattle.std.proofs.Common.{◌≡◌, ℕ, List, ◌++◌, sym, ap, ◌∙◌, append_assoc}
use Rattle.session_values.specs.State.{CatalogueOf}
use Rattle.login_core.specs.Talk.End.{Passed}
use Rattle.login_core.specs.Dialogue.{ToLink}
use Rattle.world_steps.proofs.Logins.{login_passed}
use Rattle.world_steps.proofs.Changes.{sends_bytes, took_in, took_out, forwarded, link_gets, link_gives, holds_more}
use Rattle.world_steps.specs.Clients.{Client}
use Rattle.world_steps.specs.Links.{Link}
use Rattle.world_steps.specs.Relation.{InService}

pub gives_out : (out held bytes rest all : List ℕ) → held ≡ bytes ++ rest → out ++ held ≡ all → (out ++ bytes) ++ rest ≡ all
gives_out out held bytes rest all e h = append_assoc out bytes rest ∙ ap (λ (l : List ℕ). out ++ l) (sym e) ∙ h

module _ {cat : CatalogueOf} {x : Client} {y : Link} where
  pub service_sends : (bytes : List ℕ) → InService cat x y → InService cat (sends_bytes x bytes) y
  service_sends bytes h =
      let p = login_passed x.row x.word x.sent bytes (ToLink y.key) (y.sent ++ (x.for_link ++ x.unread)) h.passed in
      record {
        base = h.base;
        is_fresh = h.is_fresh;
        passed = p.1 ∙ ap (Passed (ToLink y.key)) (append_assoc y.sent (x.for_link ++ x.unread) bytes ∙ ap (λ (l : List ℕ). y.sent ++ l) (append_assoc x.for_link x.unread bytes));
        told = rw p.0 h.told;
        quiet = h.quiet;
        struck = h.struck;
      }

  pub service_takes_in : (bytes rest : List ℕ) → x.unread ≡ bytes ++ rest → InService cat x y → InService cat (took_in x bytes rest) y
  service_takes_in bytes rest e h = record {
    base = h.base;
    is_fresh = h.is_fresh;
    passed = h.passed ∙ ap (λ (l : List ℕ). Passed (ToLink y.key) (y.sent ++ l)) (ap (λ (l : List ℕ). x.for_link ++ l) e ∙ sym (append_assoc x.for_link bytes rest));
    told = h.told;
    quiet = h.quiet;
    struck = h.struck;
  }

  pub service_forwards : (bytes rest : List ℕ) → x.for_link ≡ bytes ++ rest → InService cat x y → InService cat (forwarded x rest) (link_gets y bytes)
  service_forwards bytes rest e h = record {
    base = h.base;
    is_fresh = h.is_fresh;
    passed = h.passed ∙ ap (Passed (ToLink y.key)) (ap (λ (l : List ℕ). y.sent ++ (l ++ x.unread)) e ∙ ap (λ (l : List ℕ). y.sent ++ l) (append_assoc bytes rest x.unread) ∙ sym (append_assoc y.sent bytes (rest ++ x.unread)));
    told = h.told;
    quiet = h.quiet;
    struck = h.struck;
  }

  pub service_receives : (bytes rest : List ℕ) → InService cat x y → InService cat (holds_more x bytes) (link_gives y bytes rest)
  service_receives bytes rest h = record {
    base = h.base;
    is_fresh = h.is_fresh;
    passed = h.passed;
    told = sym (append_assoc x.out x.for_client bytes) ∙ ap (λ (l : List ℕ). l ++ bytes) h.told ∙ simp append_assoc;
    quiet = h.quiet;
    struck = h.struck;
  }

  pub service_gives_out : (bytes rest : List ℕ) → x.for_client ≡ bytes ++ rest → InService cat x y → InService cat (took_out x bytes rest) y
  service_gives_out bytes rest e h = record {
    base = h.base;
    is_fresh = h.is_fresh;
    passed = h.passed;
    told = gives_out x.out x.for_client bytes rest _ e h.told;
    quiet = h.quiet;
    struck = h.struck;
  }
