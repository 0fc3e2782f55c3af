-- What the console's actions do to the pass of its client.
use Rattle.std.specs.Prelude.{◌≡◌, ◌≤◌, false, Option, Some, None}
use Rattle.link_desk.specs.declared.calls.Call.{Call}
use Rattle.link_desk.specs.declared.calls.Call.TheVariants as call
use Rattle.link_desk.specs.declared.calls.Holder.{Holder}
use Rattle.link_desk.specs.Passes.{PassOf, broken, one_other}
use Rattle.console_core.specs.declared.commands.Action.{Action}
use Rattle.console_core.specs.declared.commands.Action.TheVariants.{Pause, Resume, Reload, Reconnect, Shutdown}

-- what is known of a pass: the decisions that were made through it, and who holds it
pub record Pass : Type 0 where
  pub counted : PassOf
  pub holder : Holder

abbrev pub pass_of : PassOf → Holder → Pass
pass_of counted holder = record { counted = counted; holder = holder }

-- the call that does an action; files that were read again hold once their limits do
abbrev pub call_of : Action → Call
call_of Pause = call.Pause
call_of Resume = call.Resume
call_of Reload = call.Limits
call_of Reconnect = call.Reconnect
call_of Shutdown = call.Shutdown

abbrev pub called : Action → Holder → Holder
called a h = record h { last = Some (call_of a) }

-- an action is one decision, of the class of the others
abbrev pub after_action : Action → Pass → Pass
after_action a p = pass_of (one_other p.counted) (called a p.holder)

-- it was answered by the book's last decision
abbrev pub broken_by : Action → Pass → Pass
broken_by a p = pass_of (broken p.counted) (called a p.holder)

-- what was done for a message
abbrev pub after_doing : Option Action → Pass → Pass
after_doing None p = p
after_doing (Some a) p = after_action a p

-- ---- what stays, whatever was done

-- no decision but those of the class of the others, and a pass that was broken stays so
pub record Manages (p q : PassOf) : Type 0 where
  pub arrived : q.made.arrived ≡ p.made.arrived
  pub granted : q.made.granted ≡ p.made.granted
  pub given_back : q.made.given_back ≡ p.made.given_back
  pub lost : q.made.lost ≡ p.made.lost
  pub left : q.made.left ≡ p.made.left
  pub others : p.made.others ≤ q.made.others
  pub unbroken : q.is_broken ≡ false → p.is_broken ≡ false

-- the client, its link, what it was refused by, and the cancels that were found and sent
pub record IsSameHolder (h k : Holder) : Type 0 where
  pub client : k.client ≡ h.client
  pub lease : k.lease ≡ h.lease
  pub refused : k.refused ≡ h.refused
  pub found : k.found ≡ h.found
  pub struck : k.struck ≡ h.struck
