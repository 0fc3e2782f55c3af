-- Bytes taken into the buffer.
use Rattle.std.proofs.Common.{◌≡◌, inl, inr, ℕ, ◌≤◌, List, [], ◌∷◌, ◌++◌, length, take, refl, sym, ap, arith, ◌∙◌, subst, Bool, true, false, Option, append_assoc, append-nil, length-take}
use Rattle.message_view.specs.declared.KeyWord.{KeyWord}
use Rattle.ini_config.specs.declared.option_values.Settings.{Settings}
use Rattle.user_file.specs.Users.{UsersOf}
use Rattle.login_core.specs.declared.steps.LoginStep.{LoginStep}
use Rattle.login_core.specs.declared.steps.LoginStep.TheVariants as step
use Rattle.login_core.specs.Talk.{Cut}
use Rattle.login_core.specs.Talk.Cut.{Whole, Need, Bad}
use Rattle.param_track.specs.StartKeys.{Text}
use Rattle.login_core.specs.Dialogue.{Rows, row_in, Packet, Reason, Stage, packet, dialogue_from}
use Rattle.login_core.specs.Laws.{PacketsGrow}
use Rattle.login_core.specs.Logins.{Awaiting, AwaitsPacket, Arriving, Over, LoginView, revealing_view, rows_of, with_held, goes_from, Fits, FitsCut, missing, missing_of, StepMeans, StepIs, OrNoMemory, NeedsMemory, left_after, IsMore}

none_more : (bytes : List ℕ) → length bytes ≤ 0 → bytes ≡ []
none_more [] h = refl
none_more (b ∷ bytes) h = absurd (omega arith)

module _ (grow : PacketsGrow) where
  module _ (s : Stage) (held bytes : List ℕ) where
    after_need : (m : ℕ) → packet s held ≡ Need m → length bytes ≤ m → (c : Cut Packet Reason) → packet s (held ++ bytes) ≡ c → FitsCut c (length (held ++ bytes))
    after_need m e h (Whole p rest) w = none_more rest (let o = (grow s held bytes).own m p rest e w in omega (arith, o, h))
    after_need m e h (Need k) w = (grow s (held ++ bytes) []).room k w
    after_need m e h (Bad r) w = tt

    fits_from : (c : Cut Packet Reason) → packet s held ≡ c → Fits (AwaitsPacket s) held → length bytes ≤ missing_of c → Fits (AwaitsPacket s) (held ++ bytes)
    fits_from (Whole p rest) e f h = subst (λ (l : List ℕ). Fits (AwaitsPacket s) l) (sym (ap (λ (l : List ℕ). held ++ l) (none_more bytes h) ∙ append-nil held)) f
    fits_from (Need m) e f h = after_need m e h (packet s (held ++ bytes)) refl
    fits_from (Bad r) e f h = subst (λ (l : List ℕ). Fits (AwaitsPacket s) l) (sym (ap (λ (l : List ℕ). held ++ l) (none_more bytes h) ∙ append-nil held)) f

  fits_more : (h : Awaiting) (held bytes : List ℕ) → Fits h held → length bytes ≤ missing h held → Fits h (held ++ bytes)
  fits_more (AwaitsPacket s) held bytes f l = fits_from s held bytes (packet s held) refl f l
  fits_more (Arriving k) held bytes f l = ap (λ (x : List ℕ). held ++ x) (none_more bytes l) ∙ append-nil held ∙ f
  fits_more Over held bytes f l = ap (λ (x : List ℕ). held ++ x) (none_more bytes l) ∙ append-nil held ∙ f

  within : (h : Awaiting) (held piece : List ℕ) (w u : ℕ) → w ≡ missing h held → u ≤ w → length (take u piece) ≤ missing h held
  within h held piece w u e l = omega (arith, e, l, length-take u piece)

  taken_fits : (h : Awaiting) (held piece now : List ℕ) (w u : ℕ) → Fits h held → w ≡ missing h held → u ≤ w → now ≡ held ++ take u piece → Fits h now
  taken_fits h held piece now w u f e l n = subst (λ (x : List ℕ). Fits h x) (sym n) (fits_more h held (take u piece) f (within h held piece w u e l))

  pub held_fits : (h from : Awaiting) (held piece now read : List ℕ) (w u : ℕ) → from ≡ h → read ≡ now → Fits h held → w ≡ missing h held → u ≤ w → now ≡ held ++ take u piece → Fits from read
  held_fits h from held piece now read w u a r f e l n = subst (λ (x : Awaiting). Fits x read) (sym a) (subst (λ (x : List ℕ). Fits h x) (sym r) (taken_fits h held piece now w u f e l n))

-- ---- what is still said

said_after : (rows : Rows) (word : KeyWord) (h : Awaiting) (held bytes : List ℕ) → length bytes ≤ missing h held → (more : List ℕ) →
    goes_from rows word h held (bytes ++ more) ≡ goes_from rows word h (held ++ bytes) more
said_after rows word (AwaitsPacket s) held bytes l more = ap (dialogue_from rows word s) (sym (append_assoc held bytes more))
said_after rows word (Arriving k) held bytes l more = ap (λ (x : List ℕ). goes_from rows word (Arriving k) held (x ++ more)) (none_more bytes l)
said_after rows word Over held bytes l more = refl

pub or_changed : (s : LoginStep) (A B C D : Type 0) → (A → B) → (C → D) → OrNoMemory s A C → OrNoMemory s B D
or_changed (step.Refused r) A B C D f g (inl a) = inl (f a)
or_changed (step.Refused r) A B C D f g (inr c) = inr (c.0, g c.1)
or_changed step.More A B C D f g a = f a
or_changed (step.Arrived k) A B C D f g a = f a
or_changed (step.Ask q) A B C D f g a = f a
or_changed (step.Passed k told) A B C D f g a = f a
or_changed (step.Console told) A B C D f g a = f a
or_changed (step.Failed x) A B C D f g a = f a
or_changed (step.Cancel pid secret) A B C D f g a = f a
or_changed step.Left A B C D f g a = f a

-- a step on the bytes that were taken
heard_after : (old mid new : LoginView) (bytes : List ℕ) (s : LoginStep) → length bytes ≤ missing old.awaiting old.held → mid ≡ with_held old (old.held ++ bytes) → StepMeans mid [] s new → StepMeans old bytes s new
heard_after old mid new bytes s l e h = from (subst (λ (v : LoginView). StepMeans v [] s new) e h)
  where
    from : StepMeans (with_held old (old.held ++ bytes)) [] s new → StepMeans old bytes s new
    from x = record {
      said = or_changed s _ _ _ _
          (λ f more. said_after (rows_of old) old.word old.awaiting old.held bytes l more ∙ f more)
          (λ k. subst (λ (b : List ℕ). NeedsMemory (rows_of old) old.awaiting b) (append-nil (old.held ++ bytes)) k)
          x.said;
      leads = x.leads;
      settings = x.settings;
      users = x.users;
      word = x.word;
    }

turned_heard : (settings : Settings) (users : UsersOf) (word : KeyWord) (h : Awaiting) (held : List ℕ) (s : LoginStep) (to : Awaiting) (left : List ℕ) (was is : Option Text) (old : LoginView) →
    revealing_view settings users word h held was ≡ old → StepIs (row_in settings users) word h held s to left → StepMeans old [] s (revealing_view settings users word to left is)
turned_heard settings users word h held s to left was is old e t =
    subst (λ (v : LoginView). StepMeans v [] s (revealing_view settings users word to left is)) e
    (record {
      said = or_changed s _ _ _ _ (λ f. f) (λ k. subst (λ (b : List ℕ). NeedsMemory (row_in settings users) h b) (sym (append-nil held)) k) t.said;
      leads = t.leads;
      settings = refl;
      users = refl;
      word = refl;
    })

-- a step on what is held with the bytes that were taken, as far as those that were missing are there
pub heard : (settings : Settings) (users : UsersOf) (word : KeyWord) (h from to : Awaiting) (held piece now read left end : List ℕ) (was is : Option Text) (w u : ℕ) (s : LoginStep) (old : LoginView) →
    revealing_view settings users word h held was ≡ old → w ≡ missing h held → u ≤ w → now ≡ held ++ take u piece → from ≡ h → read ≡ now → left ≡ end →
    StepIs (row_in settings users) word from read s to left → StepMeans old (take u piece) s (revealing_view settings users word to end is)
heard settings users word h from to held piece now read left end was is w u s old e m l n a r x t =
    let step : StepIs (row_in settings users) word h now s to end =
    subst (λ (k : Awaiting). StepIs (row_in settings users) word k now s to end) a
    (subst (λ (b : List ℕ). StepIs (row_in settings users) word from b s to end) r (subst (λ (b : List ℕ). StepIs (row_in settings users) word from read s to b) x t)) in
    subst (λ (v : LoginView). StepMeans v (take u piece) s (revealing_view settings users word to end is)) e
    (heard_after (revealing_view settings users word h held was) (revealing_view settings users word h now was) (revealing_view settings users word to end is) (take u piece) s
    (omega (arith, m, l, length-take u piece))
    (ap (λ (b : List ℕ). revealing_view settings users word h b was) n)
    (turned_heard settings users word h now s to end was is (revealing_view settings users word h now was) refl step))

pub left_if : (s : LoginStep) (b : Bool) (held : List ℕ) → IsMore b s → b ≡ true → left_after s held ≡ held
left_if step.More b held m e = refl
left_if (step.Arrived k) b held m e = absurd cc
left_if (step.Ask q) b held m e = absurd cc
left_if (step.Passed k told) b held m e = absurd cc
left_if (step.Console told) b held m e = absurd cc
left_if (step.Refused r) b held m e = absurd cc
left_if (step.Failed f) b held m e = absurd cc
left_if (step.Cancel pid secret) b held m e = absurd cc
left_if step.Left b held m e = absurd cc

pub left_unless : (s : LoginStep) (b : Bool) (held : List ℕ) → IsMore b s → b ≡ false → left_after s held ≡ []
left_unless step.More b held m e = absurd cc
left_unless (step.Arrived k) b held m e = refl
left_unless (step.Ask q) b held m e = refl
left_unless (step.Passed k told) b held m e = refl
left_unless (step.Console told) b held m e = refl
left_unless (step.Refused r) b held m e = refl
left_unless (step.Failed f) b held m e = refl
left_unless (step.Cancel pid secret) b held m e = refl
left_unless step.Left b held m e = refl
