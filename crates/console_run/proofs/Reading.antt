-- A text that is read once is answered as its command is, and as monitors are.
use Rattle.std.proofs.Common.{◌≡◌, ℕ, Bool, false, true, List, Option, Some, None, refl, sym, ap, ◌∙◌, subst, true≢false}
use Rattle.std.specs.Borrow.{Bor}
use Rattle.frame_view.specs.Frames.{FrameOf}
use Rattle.message_view.specs.Bodies.{Text}
use Rattle.ini_config.specs.declared.option_values.ConsoleStyle.{ConsoleStyle as Style}
use Rattle.ini_config.specs.declared.option_values.Settings.{Settings}
use Rattle.book_register.specs.Views.{View, view_of}
use Rattle.pool_figures.specs.Seen.{SeenOf}
use Rattle.console_core.specs.declared.commands.Action.{Action}
use Rattle.console_core.specs.declared.commands.Command.TheVariants as its
use Rattle.console_core.specs.Commands.{CommandOf, Act, Show, Await, command_of}
use Rattle.monitor_core.specs.declared.asking.Asked.{Asked}
use Rattle.monitor_core.specs.declared.asking.Request.{Request}
use Rattle.monitor_core.specs.declared.asking.Request.TheVariants as request
use Rattle.monitor_core.specs.Asking.{asked, asked_beside}
use Rattle.monitor_core.specs.Requests.{RequestOf, Own, Asks, request_in, request_of, request_view}
use Rattle.console_run.specs.declared.answering.Answered.{Answered}
use Rattle.console_run.specs.declared.answering.Answered.TheVariants as answered
use Rattle.console_run.specs.Passing.{Pass}
use Rattle.console_run.specs.Exchanges.{Asker, ForAdmins, IsActed, IsAnswer, IsClosed, IsSeen, IsShown, may_act, shown}
use Rattle.console_run.specs.Turns.{HasAnswered, IsEarly, IsSeenBy, IsShownBy, IsTold, Waits, shown_by}

is_own : RequestOf → Bool
is_own (Own c) = true
is_own (Asks what) = false

own_in : RequestOf → Option CommandOf
own_in (Own c) = c
own_in (Asks what) = None

-- ---- a command of the console's own

own_command : (c d : Option CommandOf) (x : Option Asked) → Own c ≡ request_in d x → d ≡ c
unfolding own_in is_own
own_command c d None e = sym (ap own_in e)
own_command c d (Some what) e = absurd (true≢false (ap is_own e))

command_is : (style : Style) (text : Text) (c : Option CommandOf) → Own c ≡ request_of style text → command_of text ≡ c
command_is style text c e = own_command c (command_of text) (asked style text) e

pub acted : (a : Asker) (text : Text) (action : Action) (x : Answered) (p q : Pass) → Own (Some (Act action)) ≡ request_of a.settings.console_style text → HasAnswered (ForAdmins (may_act a) (IsActed action)) ⊥ false x p q
    → HasAnswered (IsAnswer a p text (command_of text)) (Waits a p (command_of text)) false x p q
acted a text action x p q e h = subst (λ (c : Option CommandOf). HasAnswered (IsAnswer a p text c) (Waits a p c) false x p q) (sym (command_is a.settings.console_style text (Some (Act action)) e)) h

pub awaited : (a : Asker) (text : Text) (database : Option Text) (x : Answered) (p q : Pass) → Own (Some (Await database)) ≡ request_of a.settings.console_style text → HasAnswered (ForAdmins (may_act a) (IsClosed p database)) ((may_act a ≡ true) × IsEarly p database) false x p q
    → HasAnswered (IsAnswer a p text (command_of text)) (Waits a p (command_of text)) false x p q
awaited a text database x p q e h = subst (λ (c : Option CommandOf). HasAnswered (IsAnswer a p text c) (Waits a p c) false x p q) (sym (command_is a.settings.console_style text (Some (Await database)) e)) h

-- ---- what has nothing done

shown_same : (v : View) (known : SeenOf) (s : Settings) (text : Text) (x : Option Asked) → shown_by v known s (request_in (command_of text) x) ≡ shown v known s text x
shown_same v known s text None = refl
shown_same v known s text (Some what) = refl

shown_so : (s : Settings) (p : Pass) (text : Text) (told : List FrameOf) → IsShownBy s p (request_of s.console_style text) told → IsShown s p text told
shown_so s p text told i = record { book = i.book; kept = i.kept; counted = i.counted; known = i.known; told_is = i.told_is ∙ shown_same (view_of i.book) i.known s text (asked s.console_style text) }

seen_so : (s : Settings) (text : Text) (x : Answered) (p q : Pass) → HasAnswered (IsSeenBy s p (request_of s.console_style text)) ⊥ false x p q → HasAnswered (IsSeen s p text) ⊥ false x p q
seen_so s text (answered.Told reply dropping) p q h =
    (record { told = h.0.told; does = h.0.does; answers_it = (shown_so s p text h.0.told h.0.answers_it.0, h.0.answers_it.1); bytes_are = h.0.bytes_are; pass = h.0.pass }, h.1)
seen_so s text answered.NotYet p q h = absurd h.0
seen_so s text answered.Left p q h = absurd h
seen_so s text (answered.Refused r) p q h = h

-- what is asked for is in the place of no action
asked_for : (a : Asker) (text : Text) (what : Asked) (c : Option CommandOf) (x : Answered) (p q : Pass) → Asks what ≡ request_in c (asked_beside a.settings.console_style c text) → HasAnswered (IsSeen a.settings p text) ⊥ false x p q → HasAnswered (IsAnswer a p text c) (Waits a p c) false x p q
unfolding is_own
asked_for a text what None x p q e h = h
asked_for a text what (Some (Show t)) x p q e h = h
asked_for a text what (Some (Act action)) x p q e h = absurd (true≢false (sym (ap is_own e)))
asked_for a text what (Some (Await database)) x p q e h = absurd (true≢false (sym (ap is_own e)))

seen_as : (a : Asker) (text : Text) (c : Option CommandOf) (x : Answered) (p q : Pass) → command_of text ≡ c → HasAnswered (IsAnswer a p text c) (Waits a p c) false x p q → HasAnswered (IsAnswer a p text (command_of text)) (Waits a p (command_of text)) false x p q
seen_as a text c x p q e h = subst (λ (d : Option CommandOf). HasAnswered (IsAnswer a p text d) (Waits a p d) false x p q) (sym e) h

pub looked_at : (a : Asker) (text : Text) (r : Request) (x : Answered) (p q : Pass) → request_view r ≡ request_of a.settings.console_style text → ((action : Action) → r ≡ request.Own (its.Act action) → ⊥) → ((database : Option (Bor (List ℕ))) → r ≡ request.Own (its.Await database) → ⊥)
    → HasAnswered (IsSeenBy a.settings p (request_view r)) ⊥ false x p q → HasAnswered (IsAnswer a p text (command_of text)) (Waits a p (command_of text)) false x p q
looked_at a text r x p q e no_act no_await h = go r e no_act no_await (seen_so a.settings text x p q (subst (λ (w : RequestOf). HasAnswered (IsSeenBy a.settings p w) ⊥ false x p q) e h))
  where
    go : (r : Request) → request_view r ≡ request_of a.settings.console_style text → ((action : Action) → r ≡ request.Own (its.Act action) → ⊥) → ((database : Option (Bor (List ℕ))) → r ≡ request.Own (its.Await database) → ⊥) → HasAnswered (IsSeen a.settings p text) ⊥ false x p q
        → HasAnswered (IsAnswer a p text (command_of text)) (Waits a p (command_of text)) false x p q
    go (request.Own (its.Act action)) e no_act no_await h = absurd (no_act action refl)
    go (request.Own (its.Await database)) e no_act no_await h = absurd (no_await database refl)
    go (request.Own (its.Show t)) e no_act no_await h = seen_as a text (Some (Show t)) x p q (command_is a.settings.console_style text (Some (Show t)) e) h
    go (request.Asked what) e no_act no_await h = asked_for a text what (command_of text) x p q e h
    go request.Unknown e no_act no_await h = seen_as a text None x p q (command_is a.settings.console_style text None e) h
