-- A link that is given back, by what it was started as: the three ways, and what is decided by them.
use Rattle.std.proofs.Common.{◌≡◌, ℕ, Bool, true, false, cond, not, Option, None, Some, refl, sym, ap, ◌∙◌}
use Rattle.std.specs.Prelude.{find, ◌==◌}
use Rattle.std.specs.List.{list_any}
use Rattle.std.proofs.lemmas.Bool.{true≢false}
use Rattle.message_view.specs.declared.refusal.Refusal.TheVariants.{LastDecision}
use Rattle.session_values.specs.State.{StartKeyOf}
use Rattle.book_model.specs.Book.{Book, Link, is_link}
use Rattle.book_model.specs.Outcomes.{Answer, Event, apply, apply_return, counted, decided, gives_back, is_started_as, is_strange, last_decision, outcome}
use Rattle.book_model.specs.Outcomes.Event.{GiveBack}
use Rattle.book_model.specs.declared.counts.Kind.TheVariants.{Return}
use Rattle.book_model.specs.declared.events.Reply.{Reply}
use Rattle.book_model.specs.declared.events.Reply.TheVariants.{Refuse, Stranger}
use Rattle.book_model.proofs.KeepingLists.{found_any}
use Rattle.book_register.specs.Choices.{Gives}
use Rattle.book_register.proofs.Decisions.{decided_so, goes_on, kind_is}

pub return_last : (b : Book) (n : ℕ) (key : StartKeyOf) (started_at : ℕ) → (b.decisions == last_decision) ≡ true → apply_return b n key started_at ≡ record { book = b; reply = Refuse LastDecision }
unfolding apply_return
return_last b n key started_at e = ap (λ (x : Bool). cond {A = Answer} x (record { book = b; reply = Refuse LastDecision }) (cond (is_started_as key started_at (find (is_link n) b.lent)) (apply b (GiveBack n)) (record { book = b; reply = Stranger }))) e

pub return_strange : (b : Book) (n : ℕ) (key : StartKeyOf) (started_at : ℕ) → (b.decisions == last_decision) ≡ false → is_started_as key started_at (find (is_link n) b.lent) ≡ false → apply_return b n key started_at ≡ record { book = b; reply = Stranger }
unfolding apply_return
return_strange b n key started_at e s =
    ap (λ (x : Bool). cond {A = Answer} x (record { book = b; reply = Refuse LastDecision }) (cond (is_started_as key started_at (find (is_link n) b.lent)) (apply b (GiveBack n)) (record { book = b; reply = Stranger }))) e
    ∙ ap (λ (x : Bool). cond {A = Answer} x (apply b (GiveBack n)) (record { book = b; reply = Stranger })) s

pub return_own : (b : Book) (n : ℕ) (key : StartKeyOf) (started_at : ℕ) → (b.decisions == last_decision) ≡ false → is_started_as key started_at (find (is_link n) b.lent) ≡ true → apply_return b n key started_at ≡ apply b (GiveBack n)
unfolding apply_return
return_own b n key started_at e s =
    ap (λ (x : Bool). cond {A = Answer} x (record { book = b; reply = Refuse LastDecision }) (cond (is_started_as key started_at (find (is_link n) b.lent)) (apply b (GiveBack n)) (record { book = b; reply = Stranger }))) e
    ∙ ap (λ (x : Bool). cond {A = Answer} x (apply b (GiveBack n)) (record { book = b; reply = Stranger })) s

-- ---- at the last decision and before it alike

apply_last : (b : Book) (e : Event) → (b.decisions == last_decision) ≡ true → apply b e ≡ record { book = b; reply = Refuse LastDecision }
unfolding apply
apply_last b e last = ap (λ (x : Bool). cond {A = Answer} x (record { book = b; reply = Refuse LastDecision }) (cond (is_strange b e) (record { book = b; reply = Stranger }) (decided b e (outcome b e)))) last

-- one that was started so is the event's own
pub own_return : (b : Book) (n : ℕ) (key : StartKeyOf) (started_at : ℕ) → is_started_as key started_at (find (is_link n) b.lent) ≡ true → apply_return b n key started_at ≡ apply b (GiveBack n)
own_return b n key started_at own = by_last (b.decisions == last_decision) refl
  where
    by_last : (last : Bool) → (b.decisions == last_decision) ≡ last → apply_return b n key started_at ≡ apply b (GiveBack n)
    by_last true is = return_last b n key started_at is ∙ sym (apply_last b (GiveBack n) is)
    by_last false is = return_own b n key started_at is own

-- one that wasn't changes nothing
pub stray_return : (b : Book) (n : ℕ) (key : StartKeyOf) (started_at : ℕ) → is_started_as key started_at (find (is_link n) b.lent) ≡ false → (apply_return b n key started_at).book ≡ b
stray_return b n key started_at stray = by_last (b.decisions == last_decision) refl
  where
    by_last : (last : Bool) → (b.decisions == last_decision) ≡ last → (apply_return b n key started_at).book ≡ b
    by_last true is = ap (λ (a : Answer). a.book) (return_last b n key started_at is)
    by_last false is = ap (λ (a : Answer). a.book) (return_strange b n key started_at is stray)

-- its link is lent, so it comes from nobody strange
pub returns_known : (b : Book) (n : ℕ) (key : StartKeyOf) (started_at : ℕ) → is_started_as key started_at (find (is_link n) b.lent) ≡ true → is_strange b (GiveBack n) ≡ false
returns_known b n key started_at own = go (find (is_link n) b.lent) refl own
  where
    go : (o : Option Link) → find (is_link n) b.lent ≡ o → is_started_as key started_at o ≡ true → not (list_any (is_link n) b.lent) ≡ false
    go None f s = absurd (true≢false (sym s))
    go (Some link) f s = ap not (found_any (is_link n) b.lent link f)

-- a return that is counted
pub return_counted : (before b mid after : Book) (n : ℕ) (key : StartKeyOf) (started_at : ℕ) (r : Reply) → before ≡ b → (before.decisions ≡ last_decision → ⊥) → is_started_as key started_at (find (is_link n) b.lent) ≡ true → Gives mid r (gives_back b (find (is_link n) b.lent)) → after ≡ counted mid (Some Return) → Gives after r (apply b (GiveBack n))
return_counted before b mid after n key started_at r same more own given done = goes_on before b after (GiveBack n) r same more (returns_known b n key started_at own) (decided_so b mid after (GiveBack n) r (Some Return) given (sym (kind_is b (GiveBack n) r)) done)
