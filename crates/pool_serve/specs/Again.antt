-- A client that asks again for a link, after its server had no place for one.
use Rattle.std.specs.Prelude.{◌≡◌, ◌||◌, Bool, true, false, None, Some, bytes_eq, codes}
use Rattle.std.specs.Arc.{arc_value}
use Rattle.link_model.specs.Standing.{ClientFacts}
use Rattle.link_start.specs.declared.start.StartCause.{StartCause}
use Rattle.link_start.specs.declared.start.StartCause.TheVariants as cause
use Rattle.link_desk.specs.declared.answers.Gone.{Gone}
use Rattle.link_desk.specs.declared.calls.Holder.{Holder}
use Rattle.link_desk.specs.Homes.{HomeOf, IsAtHome}
use Rattle.link_desk.specs.Passes.{PassOf, after_loss, granted_lease, one_granted, one_other}
use Rattle.link_run.specs.Links.{LinkView}
use Rattle.log_lines.specs.Lines.{sqlstate}
use Rattle.pool_serve.specs.Causes.{Since, AtAsking, AtWait}
use Rattle.pool_serve.specs.Endings.{HasEnded, IsUnstarted}
use Rattle.pool_serve.specs.declared.ending.Ending.{Ending}
use Rattle.pool_serve.specs.declared.ending.Ending.TheVariants as ending
use Rattle.pool_serve.specs.declared.logged_in.LoggedIn.{LoggedIn}

-- its server refused the start for want of a place, or since it is just starting: too_many_connections, cannot_connect_now (PostgreSQL
-- manual, "PostgreSQL Error Codes")
abbrev pub lacks_place : Ending → Bool
lacks_place (ending.Unstarted (cause.Refused error)) = bytes_eq (sqlstate error) (codes "53300") || bytes_eq (sqlstate error) (codes "57P03")
lacks_place other = false

-- the decisions of a link that was granted and not started, from the asking for it on, or from the wait
abbrev pub after_failure : Since → PassOf → Gone → PassOf
after_failure AtWait p gone = after_loss (one_granted p) gone
after_failure since p gone = after_loss (one_granted (one_other p)) gone

-- ---- of one asking

-- the client is still in its pass, and wasn't refused; no cancel was asked for or sent
pub record IsHeldBy (h k : Holder) : Type 0 where
  pub client : k.client ≡ h.client
  pub refused : k.refused ≡ None
  pub found : k.found ≡ h.found
  pub struck : k.struck ≡ h.struck

-- a link of its key is its lease, which has begun
pub record IsLinked (home : HomeOf) (g : LoggedIn) (k : Holder) (l : LinkView) : Type 0 where
  pub at_home : IsAtHome home l
  pub key : l.key ≡ arc_value g.key
  pub lease : k.lease ≡ Some (granted_lease l)

-- its link wasn't started
pub record IsNotStarted (home : HomeOf) (g : LoggedIn) (since : Since) (p q : PassOf) (e : Ending) : Type 0 where
  pub cause : StartCause
  pub gone : Gone
  pub is_ending : e ≡ ending.Unstarted cause
  pub unstarted : IsUnstarted home g cause
  pub counted : q ≡ after_failure since p gone

-- so it ended for a client to or from which nothing moved
abbrev pub IsEndedFor : HomeOf → LoggedIn → Since → PassOf → PassOf → Ending → Type 0
IsEndedFor home g since p q e = (c : ClientFacts) → HasEnded home g since p q c c e

-- ---- of all

-- It asked again, each time after its server had no place for its link: what its pass had counted at first, and when it asked last.
pub data HasAskedAgain (home : HomeOf) (g : LoggedIn) (p : PassOf) : PassOf → Type 0 where
  never : HasAskedAgain home g p p
  once_more : (m : PassOf) (cause : StartCause) (gone : Gone) → HasAskedAgain home g p m → IsUnstarted home g cause → lacks_place (ending.Unstarted cause) ≡ true →
      HasAskedAgain home g p (after_failure AtAsking m gone)

-- it was granted a link where it asked last
pub record IsGrantedAtLast (home : HomeOf) (g : LoggedIn) (p q : PassOf) : Type 0 where
  pub last : PassOf
  pub again : HasAskedAgain home g p last
  pub granted : q ≡ one_granted (one_other last)

-- it was granted none
pub record IsUnlinkedAtLast (home : HomeOf) (g : LoggedIn) (p q : PassOf) (e : Ending) : Type 0 where
  pub last : PassOf
  pub again : HasAskedAgain home g p last
  pub ended : IsEndedFor home g AtAsking last q e

-- how its time at the desk ended, from where it asked last
pub record HasEndedAtLast (home : HomeOf) (g : LoggedIn) (p q : PassOf) (before after : ClientFacts) (e : Ending) : Type 0 where
  pub last : PassOf
  pub again : HasAskedAgain home g p last
  pub ended : HasEnded home g AtAsking last q before after e
