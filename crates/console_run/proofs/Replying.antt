-- What a message came to.
use Rattle.std.proofs.Common.{◌≡◌, inl, inr, ℕ, Bool, false, true, List, [], ◌∷◌, Option, Some, None, refl, sym, ap, ◌∙◌, subst, true≢false}
use Rattle.std.specs.Prelude.{Result, Ok, Err, IfOk}
use Rattle.std.specs.Borrow.{Bor}
use Rattle.std.specs.List.{flat_map}
use Rattle.bytes.specs.Filled.{Filled}
use Rattle.frame_view.specs.Frames.{FrameOf, spelling}
use Rattle.message_view.specs.declared.refusal.Refusal.{Refusal}
use Rattle.message_view.specs.declared.refusal.Refusal.TheVariants as refusal
use Rattle.session_values.specs.declared.cause.Cause.TheVariants.{InvalidValue, MalformedMessage, NotSupported}
use Rattle.session_values.specs.Errors.{error}
use Rattle.ini_config.specs.declared.option_values.Settings.{Settings}
use Rattle.console_core.specs.declared.commands.Action.{Action}
use Rattle.console_core.specs.declared.commands.Action.TheVariants.{Pause, Resume, Reload, Reconnect, Shutdown}
use Rattle.console_core.specs.declared.messages.Response as its
use Rattle.console_core.specs.declared.messages.Response.TheVariants as response
use Rattle.console_core.specs.Commands.{tag}
use Rattle.console_core.specs.Messages.{Response}
use Rattle.console_core.specs.Replies.{done, not_allowed, ready, refused}
use Rattle.console_core.specs.Views.{response_view}
use Rattle.monitor_core.specs.Requests.{RequestOf}
use Rattle.console_run.specs.declared.acting.Acted.TheVariants as acted
use Rattle.console_run.specs.declared.answering.Answered.{Answered}
use Rattle.console_run.specs.declared.answering.Answered.TheVariants as answered
use Rattle.console_run.specs.Passing.{Pass}
use Rattle.console_run.specs.Exchanges.{Asker, ForAdmins, IsActed, drops_after}
use Rattle.console_run.specs.Talks.{IsRefused, IsRefusedBy}
use Rattle.console_run.specs.Turns.{HasActed, HasAnswered, HasResponded, IsNotAllowed, IsSaid, IsSeenBy, IsShownAs, IsTold, told_of}

-- ---- an action

acted_done : (a : Action) → IsActed a (done (tag a)) (Some a)
acted_done Pause = (refl, refl)
acted_done Resume = (refl, refl)
acted_done Reload = inl (refl, refl)
acted_done Reconnect = (refl, refl)
acted_done Shutdown = (refl, refl)

pub done_told : (a : Action) (bytes : List ℕ) (p q : Pass) → bytes ≡ flat_map spelling (done (tag a)) → HasActed acted.Done a p q → IsTold (IsActed a) bytes p q
done_told a bytes p q e h = record { told = done (tag a); does = Some a; answers_it = acted_done a; bytes_are = e; pass = h }

-- a file has a fault
faulty_told : {Z : Type 0} (a : Action) (reply : Result Filled Z) (p q : Pass) → IfOk reply (λ (out : Filled). out.items ≡ flat_map spelling (refused InvalidValue)) → HasActed acted.Faulty a p q → HasAnswered (IsActed a) ⊥ false (told_of reply false) p q
faulty_told Reload (Ok reply) p q e h = (record { told = refused InvalidValue; does = None; answers_it = inr (refl, refl); bytes_are = e; pass = h }, refl)
faulty_told Reload (Err z) p q e h = h
faulty_told Pause reply p q e h = absurd h
faulty_told Resume reply p q e h = absurd h
faulty_told Reconnect reply p q e h = absurd h
faulty_told Shutdown reply p q e h = absurd h

pub faulty_answered : {Z : Type 0} (a : Action) (reply : Result Filled Z) (x : Answered) (p q : Pass) → x ≡ told_of reply false → IfOk reply (λ (out : Filled). out.items ≡ flat_map spelling (refused InvalidValue)) → HasActed acted.Faulty a p q → HasAnswered (IsActed a) ⊥ false x p q
faulty_answered a reply x p q is e h = subst (λ (y : Answered). HasAnswered (IsActed a) ⊥ false y p q) (sym is) (faulty_told a reply p q e h)

-- ---- what is for admin users alone

pub not_told : (answers : List FrameOf → Option Action → Type 0) (early : Type 0) (b : Bool) (x : Answered) (p q : Pass) → b ≡ false → IsNotAllowed x → q ≡ p → HasAnswered (ForAdmins b answers) early false x p q
not_told answers early true x p q n h e = absurd (true≢false n)
not_told answers early false (answered.Told reply dropping) p q n h e = (record { told = not_allowed; does = None; answers_it = (refl, refl); bytes_are = h.0; pass = e }, h.1)
not_told answers early false (answered.Refused r) p q n h e = subst (λ (y : Refusal). IsRefusedBy y p q) (sym h) e
not_told answers early false answered.NotYet p q n h e = absurd h
not_told answers early false answered.Left p q n h e = absurd h

pub not_allowed_by : {Z : Type 0} (reply : Result Filled Z) (x : Answered) → x ≡ told_of reply false → IfOk reply (λ (out : Filled). out.items ≡ flat_map spelling not_allowed) → IsNotAllowed x
not_allowed_by (Ok out) x i o = subst IsNotAllowed (sym i) (o, refl)
not_allowed_by (Err z) x i o = subst IsNotAllowed (sym i) refl

-- ---- what has nothing done

pub looked : {Z : Type 0} (s : Settings) (request : RequestOf) (bytes : Result Filled Z) (x : Answered) (p q : Pass) → IfOk bytes (λ (out : Filled). IsShownAs s p request out.items) → x ≡ told_of bytes false → q ≡ p → HasAnswered (IsSeenBy s p request) ⊥ false x p q
looked s request bytes x p q o i e = subst (λ (y : Answered). HasAnswered (IsSeenBy s p request) ⊥ false y p q) (sym i) (go bytes o)
  where
    go : {Z : Type 0} (bytes : Result Filled Z) → IfOk bytes (λ (out : Filled). IsShownAs s p request out.items) → HasAnswered (IsSeenBy s p request) ⊥ false (told_of bytes false) p q
    go (Ok out) o = (record { told = o.told; does = None; answers_it = (o.shown, refl); bytes_are = o.bytes_are; pass = e }, refl)
    go (Err z) o = e

-- ---- a refusal of a whole message

pub refused_here : (limit : ℕ) (held : List ℕ) (r : Refusal) (p q : Pass) → IsRefusedBy r p q → IsRefused limit held r p q
refused_here limit held refusal.OutOfMemory p q h = h
refused_here limit held refusal.LastDecision p q h = h
refused_here limit held refusal.MalformedClientMessage p q h = absurd h
refused_here limit held refusal.ClientMessageTooLong p q h = absurd h
refused_here limit held refusal.TooManyClients p q h = absurd h
refused_here limit held refusal.UnsupportedProtocol p q h = absurd h
refused_here limit held refusal.UnsupportedParameter p q h = absurd h
refused_here limit held refusal.WaitedTooLong p q h = absurd h
refused_here limit held refusal.ServerFailed p q h = absurd h
refused_here limit held refusal.ServerNotReached p q h = absurd h
refused_here limit held refusal.ShuttingDown p q h = absurd h
refused_here limit held refusal.MalformedServerMessage p q h = absurd h

-- a response that is no command's answer, and whose client doesn't leave
simply_told : {Z : Type 0} (s : Asker) (drops : Bool) (r : its.Response) (reply : Result Filled Z) (p q : Pass) → ((text : Bor (List ℕ)) → r ≡ response.Answer text → ⊥) → (r ≡ response.Leave → ⊥) → IfOk reply (λ (out : Filled). IsSaid (response_view drops r) out.items) → q ≡ p
    → HasResponded s (response_view drops r) (told_of reply (drops_after (response_view drops r))) p q
simply_told s drops response.Malformed (Ok reply) p q a l e h = (record { told = refused MalformedMessage; does = None; answers_it = (refl, refl); bytes_are = e; pass = h }, refl)
simply_told s drops response.NotServed (Ok reply) p q a l e h = (record { told = error NotSupported ∷ []; does = None; answers_it = (refl, refl); bytes_are = e; pass = h }, refl)
simply_told s drops response.Ready (Ok reply) p q a l e h = (record { told = ready ∷ []; does = None; answers_it = (refl, refl); bytes_are = e; pass = h }, refl)
simply_told s drops response.Nothing (Ok reply) p q a l e h = (record { told = []; does = None; answers_it = (refl, refl); bytes_are = e; pass = h }, refl)
simply_told s drops (response.Answer text) reply p q a l e h = absurd (a text refl)
simply_told s drops response.Leave reply p q a l e h = absurd (l refl)
simply_told s drops response.Malformed (Err z) p q a l e h = h
simply_told s drops response.NotServed (Err z) p q a l e h = h
simply_told s drops response.Ready (Err z) p q a l e h = h
simply_told s drops response.Nothing (Err z) p q a l e h = h

pub simply_responded : {Z : Type 0} (s : Asker) (drops dropping : Bool) (r : its.Response) (view : Response) (reply : Result Filled Z) (x : Answered) (p q : Pass) → response_view drops r ≡ view → dropping ≡ drops_after (response_view drops r) → x ≡ told_of reply dropping
    → ((text : Bor (List ℕ)) → r ≡ response.Answer text → ⊥) → (r ≡ response.Leave → ⊥) → IfOk reply (λ (out : Filled). IsSaid (response_view drops r) out.items) → q ≡ p → HasResponded s view x p q
simply_responded s drops dropping r view reply x p q v d is a l e h =
    subst (λ (y : Answered). HasResponded s view y p q) (sym (is ∙ ap (λ (b : Bool). told_of reply b) d))
    (subst (λ (w : Response). HasResponded s w (told_of reply (drops_after (response_view drops r))) p q) v (simply_told s drops r reply p q a l e h))
