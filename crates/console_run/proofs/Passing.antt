-- What stays of a pass, whatever is done.
use Rattle.std.proofs.Common.{◌≡◌, ℕ, true≢false, List, [], ◌∷◌, Option, Some, None, refl, sym, ◌∙◌, subst, arith, le_refl}
use Rattle.message_view.specs.declared.refusal.Refusal.{Refusal}
use Rattle.message_view.specs.declared.refusal.Refusal.TheVariants as refusal
use Rattle.console_core.specs.declared.commands.Action.{Action}
use Rattle.console_run.specs.Passing.{Pass, after_action, after_doing, broken_by, Manages, IsSameHolder}
use Rattle.console_run.specs.Exchanges.{Exchange, after_exchanges}
use Rattle.console_run.specs.Talks.{IsRefused}

-- decisions of the class of the others alone, and the same client, link and refusal
pub record Keeps (p q : Pass) : Type 0 where
  pub share : Manages p.counted q.counted
  pub holder : IsSameHolder p.holder q.holder

pub keeps_none : (p : Pass) → Keeps p p
keeps_none p = record {
  share = record { arrived = refl; granted = refl; given_back = refl; lost = refl; left = refl; others = le_refl p.counted.made.others; unbroken = λ e. e };
  holder = record { client = refl; lease = refl; refused = refl; found = refl; struck = refl };
}

pub keeps_further : (p q r : Pass) → Keeps p q → Keeps q r → Keeps p r
keeps_further p q r x y = record {
  share = record {
    arrived = y.share.arrived ∙ x.share.arrived;
    granted = y.share.granted ∙ x.share.granted;
    given_back = y.share.given_back ∙ x.share.given_back;
    lost = y.share.lost ∙ x.share.lost;
    left = y.share.left ∙ x.share.left;
    others = omega (arith, x.share.others, y.share.others);
    unbroken = λ e. x.share.unbroken (y.share.unbroken e);
  };
  holder = record {
    client = y.holder.client ∙ x.holder.client;
    lease = y.holder.lease ∙ x.holder.lease;
    refused = y.holder.refused ∙ x.holder.refused;
    found = y.holder.found ∙ x.holder.found;
    struck = y.holder.struck ∙ x.holder.struck;
  };
}

keeps_action : (a : Action) (p : Pass) → Keeps p (after_action a p)
keeps_action a p = record {
  share = record { arrived = refl; granted = refl; given_back = refl; lost = refl; left = refl; others = omega arith; unbroken = λ e. e };
  holder = record { client = refl; lease = refl; refused = refl; found = refl; struck = refl };
}

keeps_doing : (does : Option Action) (p : Pass) → Keeps p (after_doing does p)
keeps_doing None p = keeps_none p
keeps_doing (Some a) p = keeps_action a p

pub keeps_exchanges : (xs : List Exchange) (p : Pass) → Keeps p (after_exchanges xs p)
keeps_exchanges [] p = keeps_none p
keeps_exchanges (x ∷ xs) p = keeps_further p (after_doing x.does p) (after_exchanges xs (after_doing x.does p)) (keeps_doing x.does p) (keeps_exchanges xs (after_doing x.does p))

keeps_broken : (a : Action) (p : Pass) → Keeps p (broken_by a p)
keeps_broken a p = record {
  share = record { arrived = refl; granted = refl; given_back = refl; lost = refl; left = refl; others = le_refl p.counted.made.others; unbroken = λ e. absurd (true≢false e) };
  holder = record { client = refl; lease = refl; refused = refl; found = refl; struck = refl };
}

pub keeps_same : (p q : Pass) → q ≡ p → Keeps p q
keeps_same p q e = subst (λ (r : Pass). Keeps p r) (sym e) (keeps_none p)

pub keeps_refused : (limit : ℕ) (held : List ℕ) (r : Refusal) (p q : Pass) → IsRefused limit held r p q → Keeps p q
keeps_refused limit held refusal.MalformedClientMessage p q h = keeps_same p q h.1
keeps_refused limit held refusal.ClientMessageTooLong p q h = keeps_same p q h.1
keeps_refused limit held refusal.OutOfMemory p q h = keeps_same p q h
keeps_refused limit held refusal.LastDecision p q h = subst (λ (r : Pass). Keeps p r) (sym h.1) (keeps_broken h.0 p)
keeps_refused limit held refusal.TooManyClients p q h = absurd h
keeps_refused limit held refusal.UnsupportedProtocol p q h = absurd h
keeps_refused limit held refusal.UnsupportedParameter p q h = absurd h
keeps_refused limit held refusal.WaitedTooLong p q h = absurd h
keeps_refused limit held refusal.ServerFailed p q h = absurd h
keeps_refused limit held refusal.ServerNotReached p q h = absurd h
keeps_refused limit held refusal.ShuttingDown p q h = absurd h
keeps_refused limit held refusal.MalformedServerMessage p q h = absurd h
