-- Bytes that are given in turns.
use Rattle.std.proofs.Common.{◌≡◌, ◌⊎◌, inl, inr, ℕ, ◌+◌, ◌<◌, ◌≤◌, true, List, [], ◌++◌, length, take, drop, refl, sym, ap, ◌∙◌, subst, arith, append_assoc, append-nil, length-drop}
use Rattle.std.proofs.Math.Seq.{take-add}
use Rattle.link_model.specs.Standing.{ClientFacts}
use Rattle.server_end.specs.declared.Moved.{Moved}
use Rattle.server_end.specs.declared.Moved.TheVariants.{Count, NotNow, Ended, Fault}
use Rattle.server_end.specs.Moves.{ClientWrites, moved}
use Rattle.time_limits.specs.declared.TheConstants.{CLIENT_TURNS}
use Rattle.pool_serve.specs.FinalMessages.{HasGiven}

-- so many bytes were given, in so many turns
pub record Gives (old new : ClientFacts) (bytes : List ℕ) (sent turns : ℕ) : Type 0 where
  pub tells : new.tells ≡ old.tells
  pub taken : old.tells ≡ true → new.taken ≡ old.taken
  pub given : old.tells ≡ true → new.given ≡ old.given ++ take sent bytes
  pub within : sent ≤ length bytes
  pub faults : old.faults ≤ new.faults
  pub tries : old.write_waits + turns ≤ new.write_waits + sent

pub gives_none : (c : ClientFacts) (bytes : List ℕ) → Gives c c bytes 0 0
gives_none c bytes = record { tells = refl; taken = λ t. refl; given = λ t. sym (append-nil c.given); within = omega arith; faults = omega arith; tries = omega arith }

pub some_left : (sent : ℕ) (bytes rest : List ℕ) → sent ≤ length bytes → (sent ≡ length bytes → ⊥) → rest ≡ drop sent bytes → 0 < length rest
some_left sent bytes rest w n e = omega (arith, w, n, ap (λ (l : List ℕ). length l) e, length-drop sent bytes)

pub gives_more : (old mid new : ClientFacts) (bytes rest : List ℕ) (sent turns n : ℕ) → Gives old mid bytes sent turns → rest ≡ drop sent bytes → (0 < n) × (n ≤ length rest) → ClientWrites mid new (take n rest) (Count n) → Gives old new bytes (sent + n) (turns + 1)
gives_more old mid new bytes rest sent turns n x e w k = record {
  tells = k.tells ∙ x.tells;
  taken = λ t. k.taken (x.tells ∙ t) ∙ x.taken t;
  given = λ t.
      k.given (x.tells ∙ t)
      ∙ (ap (λ (l : List ℕ). l ++ take n rest) (x.given t)
      ∙ (append_assoc old.given (take sent bytes) (take n rest) ∙ ap (λ (l : List ℕ). old.given ++ l) (ap (λ (l : List ℕ). take sent bytes ++ take n l) e ∙ sym (take-add sent n bytes))));
  within = omega (arith, w.1, ap (λ (l : List ℕ). length l) e, length-drop sent bytes, x.within);
  faults = omega (arith, k.faults, x.faults);
  tries = omega (arith, k.write_waits, x.tries, w.0);
}

pub gives_late : (old mid new : ClientFacts) (bytes rest : List ℕ) (sent turns : ℕ) → Gives old mid bytes sent turns → ClientWrites mid new [] NotNow → Gives old new bytes sent (turns + 1)
gives_late old mid new bytes rest sent turns x k = record {
  tells = k.tells ∙ x.tells;
  taken = λ t. k.taken (x.tells ∙ t) ∙ x.taken t;
  given = λ t. k.given (x.tells ∙ t) ∙ (append-nil mid.given ∙ x.given t);
  within = x.within;
  faults = omega (arith, k.faults, x.faults);
  tries = omega (arith, k.write_waits, x.tries);
}

pub gave_all : (old new : ClientFacts) (bytes : List ℕ) (sent turns : ℕ) → Gives old new bytes sent turns → sent ≡ length bytes → HasGiven old new bytes
gave_all old new bytes sent turns x e = record { tells = x.tells; taken = x.taken; count = sent; given = x.given; why = inl e }

pub gave_late : (old new : ClientFacts) (bytes : List ℕ) (sent turns : ℕ) → Gives old new bytes sent turns → CLIENT_TURNS ≤ turns → HasGiven old new bytes
gave_late old new bytes sent turns x e = record { tells = x.tells; taken = x.taken; count = sent; given = x.given; why = inr (inr (omega (arith, x.tries, e))) }

none_moved : (m : Moved) (bytes : List ℕ) → (m ≡ Ended) ⊎ (m ≡ Fault) → moved m bytes ≡ []
none_moved m bytes (inl e) = ap (λ (n : Moved). moved n bytes) e
none_moved m bytes (inr e) = ap (λ (n : Moved). moved n bytes) e

faulted : (old new : ClientFacts) (put : List ℕ) (m : Moved) → m ≡ Fault → ClientWrites old new put m → new.faults ≡ old.faults + 1
faulted old new put m e k = (subst (λ (n : Moved). ClientWrites old new put n) e k).faults

gone_over : (old mid new : ClientFacts) (put : List ℕ) (m : Moved) → (m ≡ Ended) ⊎ (m ≡ Fault) → old.faults ≤ mid.faults → ClientWrites mid new put m → (new.ended ≡ true) ⊎ (old.faults < new.faults)
gone_over old mid new put m (inl e) f k = inl (k.ended e)
gone_over old mid new put m (inr e) f k = inr (omega (arith, f, faulted mid new put m e k))

pub gave_part : (old mid new : ClientFacts) (bytes rest : List ℕ) (sent turns : ℕ) (m : Moved) → Gives old mid bytes sent turns → (m ≡ Ended) ⊎ (m ≡ Fault) → ClientWrites mid new (moved m rest) m → HasGiven old new bytes
gave_part old mid new bytes rest sent turns m x o k = record {
  tells = k.tells ∙ x.tells;
  taken = λ t. k.taken (x.tells ∙ t) ∙ x.taken t;
  count = sent;
  given = λ t. k.given (x.tells ∙ t) ∙ (ap (λ (l : List ℕ). mid.given ++ l) (none_moved m rest o) ∙ (append-nil mid.given ∙ x.given t));
  why = inr (inl (gone_over old mid new (moved m rest) m o x.faults k));
}
