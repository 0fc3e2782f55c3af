-- The key of a start message under settings and users.
use Rattle.std.proofs.Common.{◌≡◌, ◌⊎◌, inl, inr, ℕ, List, refl, sym, ap, ◌∙◌, subst, Result, Ok, Err}
use Rattle.std.specs.Prelude.{IsOk}
use Rattle.message_view.specs.declared.refusal.Refusal.{Refusal}
use Rattle.message_view.specs.declared.refusal.Refusal.TheVariants.{MalformedClientMessage, OutOfMemory}
use Rattle.message_view.specs.declared.ViewError.{ViewError}
use Rattle.message_view.specs.Reading.{startup_of}
use Rattle.ini_config.specs.declared.option_values.Settings.{Settings}
use Rattle.user_file.specs.Users.{UsersOf}
use Rattle.session_values.specs.State.{StartKeyOf}
use Rattle.param_track.specs.declared.StartKeyError.{StartKeyError}
use Rattle.param_track.specs.declared.StartKeyError.TheVariants.{NoUser, UnsupportedParameter, Replication, Memory}
use Rattle.param_track.specs.StartKeys.{Pair, Answers, start_key_under}
use Rattle.login_core.specs.Dialogue.{row_in, key_of, or_refusal, start_refusal}

module _ (s : Settings) (users : UsersOf) (text : List ℕ) where
  pub key_made : (pairs : List Pair) (key : StartKeyOf) → startup_of text ≡ Ok pairs → start_key_under s pairs ≡ Ok key → key_of (row_in s users) (startup_of text) ≡ Ok key
  unfolding row_in
  key_made pairs key e k = ap (key_of (row_in s users)) e ∙ ap or_refusal k

  pub not_read : (fault : ViewError) → startup_of text ≡ Err fault → key_of (row_in s users) (startup_of text) ≡ Err MalformedClientMessage
  not_read fault e = ap (key_of (row_in s users)) e

  pub made_or_not : (pairs : List Pair) → startup_of text ≡ Ok pairs → key_of (row_in s users) (startup_of text) ≡ or_refusal (start_key_under s pairs)
  unfolding row_in
  made_or_not pairs e = ap (key_of (row_in s users)) e

  by_memory : (d : Result StartKeyOf StartKeyError) → Answers (Err Memory) d → IsOk (or_refusal d)
  by_memory (Ok key) a = refl
  by_memory (Err fault) a = absurd a

  by_fault : (fault : StartKeyError) (d : Result StartKeyOf StartKeyError) → Answers (Err fault) d → (or_refusal d ≡ Err (start_refusal fault)) ⊎ ((start_refusal fault ≡ OutOfMemory) × IsOk (or_refusal d))
  by_fault NoUser d a = inl (ap or_refusal a)
  by_fault UnsupportedParameter d a = inl (ap or_refusal a)
  by_fault Replication d a = inl (ap or_refusal a)
  by_fault Memory d a = inr (refl, by_memory d a)

  pub refused : (pairs : List Pair) (fault : StartKeyError) (r : Refusal) → startup_of text ≡ Ok pairs → Answers (Err fault) (start_key_under s pairs) → r ≡ start_refusal fault →
      (key_of (row_in s users) (startup_of text) ≡ Err r) ⊎ ((r ≡ OutOfMemory) × IsOk (key_of (row_in s users) (startup_of text)))
  refused pairs fault r e a h =
      subst (λ (k : Result StartKeyOf Refusal). (k ≡ Err r) ⊎ ((r ≡ OutOfMemory) × IsOk k)) (sym (made_or_not pairs e))
      (subst (λ (q : Refusal). (or_refusal (start_key_under s pairs) ≡ Err q) ⊎ ((q ≡ OutOfMemory) × IsOk (or_refusal (start_key_under s pairs)))) (sym h) (by_fault fault (start_key_under s pairs) a))

  pub no_room : (pairs : List Pair) (key : StartKeyOf) → startup_of text ≡ Ok pairs → start_key_under s pairs ≡ Ok key →
      (key_of (row_in s users) (startup_of text) ≡ Err OutOfMemory) ⊎ ((OutOfMemory ≡ OutOfMemory) × IsOk (key_of (row_in s users) (startup_of text)))
  no_room pairs key e k = inr (refl, subst (λ (x : Result StartKeyOf Refusal). IsOk x) (sym (key_made pairs key e k)) refl)
