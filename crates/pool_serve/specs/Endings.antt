-- How a client's time at the desk ended: what pass and holder tell of it, and what the ends do.
use Rattle.std.specs.Prelude.{◌≡◌, ◌⊎◌, ℕ, true, false, Option, None, Some}
use Rattle.std.specs.Arc.{arc_value}
use Rattle.user_file.specs.declared.secrets.Secret.{Secret}
use Rattle.message_view.specs.declared.refusal.Refusal.{Refusal}
use Rattle.session_values.specs.State.{address_of}
use Rattle.link_model.specs.Standing.{ClientFacts, Standing}
use Rattle.link_run.specs.Links.{LinkView}
use Rattle.credentials.specs.Credentials.{credential_of, start_nonce}
use Rattle.link_start.specs.Starts.{HasTried, IsStartCause}
use Rattle.link_start.specs.declared.start.StartCause.TheVariants.{Late, Turns}
use Rattle.time_limits.specs.declared.TheConstants.{LINK_TURNS}
use Rattle.link_start.specs.declared.start.StartCause.{StartCause}
use Rattle.link_desk.specs.declared.calls.Call.TheVariants as call
use Rattle.link_desk.specs.declared.calls.Holder.{Holder}
use Rattle.link_desk.specs.Homes.{HomeOf, IsAtHome, IsDialled}
use Rattle.link_desk.specs.Passes.{PassOf}
use Rattle.relay_model.specs.declared.Next.{Next}
use Rattle.relay_model.specs.declared.Next.TheVariants.{Refuse}
use Rattle.relay_model.specs.Answers.{judged}
use Rattle.relay_model.specs.Leases.{IsLease, RelayView, place}
use Rattle.pool_serve.specs.Backs.{IsBackOrLost, IsFreed}
use Rattle.pool_serve.specs.Causes.{HadLink, HadNone, HasLost, HasTrace, Since}
use Rattle.pool_serve.specs.LinkSecrets.{link_secret}
use Rattle.pool_serve.specs.Serving.{LetsIn, Serves, limit_of, owed}
use Rattle.pool_serve.specs.FinalMessages.{final_message_of}
use Rattle.pool_serve.specs.declared.ending.Ending.{Ending}
use Rattle.pool_serve.specs.declared.ending.Ending.TheVariants as ending
use Rattle.pool_serve.specs.declared.logged_in.LoggedIn.{LoggedIn}

-- ---- what the decisions tell of it

abbrev pub Traces : Since → PassOf → PassOf → Ending → Type 0
Traces since p q ending.Left = HadNone p q
Traces since p q (ending.Refused r) = HadNone p q × HasTrace since p q r
Traces since p q ending.Memory = Unit {0}
Traces since p q ending.Strange = (q.is_broken ≡ true) ⊎ (HadLink since p q × HasLost p q)
Traces since p q ending.Last = q.is_broken ≡ true
Traces since p q ending.Unreached = HadLink since p q × HasLost p q
Traces since p q (ending.Unstarted cause) = HadLink since p q × HasLost p q
Traces since p q (ending.Relayed r) = HadLink since p q
Traces since p q (ending.Managed r) = HadNone p q

-- ---- what the holder tells of it

-- how its link went
abbrev pub Frees : Holder → Holder → Ending → Type 0
Frees h k ending.Strange = IsFreed call.Lost h k
Frees h k ending.Last = IsFreed call.Lost h k
Frees h k ending.Unreached = IsFreed call.StartFailed h k
Frees h k (ending.Unstarted cause) = IsFreed call.StartFailed h k
Frees h k (ending.Relayed r) = IsBackOrLost h k
Frees h k ending.Memory = IsBackOrLost h k ⊎ IsFreed call.StartFailed h k
Frees h k other = ⊥

abbrev pub refusal_in : Ending → Option Refusal
refusal_in (ending.Refused r) = Some r
refusal_in other = None

-- the client is still in its pass, without a link, and was refused where the desk refused it; no cancel was asked for or sent
pub record HasLeased (h k : Holder) (e : Ending) : Type 0 where
  pub client : k.client ≡ h.client
  pub lease : k.lease ≡ None
  pub refused : k.refused ≡ refusal_in e
  pub found : k.found ≡ h.found
  pub struck : k.struck ≡ h.struck

-- ---- what the ends tell of it

-- what the relay's last answer refuses by
abbrev pub refusal_told : Next → Option Refusal
refusal_told (Refuse r) = Some r
refusal_told other = None

abbrev pub refusal_at : RelayView → Option Refusal
refusal_at v = refusal_told (judged true v)

-- a lease over that link has ended so
pub record IsRelayed (link : LinkView) (g : LoggedIn) (before after : ClientFacts) (r : Option Refusal) : Type 0 where
  pub view : RelayView
  pub lease : IsLease (place before link g.word (limit_of g)) view
  pub client : after ≡ view.client
  pub told : r ≡ refusal_at view

abbrev pub HasRelayed : LinkView → LoggedIn → ClientFacts → ClientFacts → Ending → Type 0
HasRelayed link g before after (ending.Relayed r) = IsRelayed link g before after r
HasRelayed link g before after ending.Memory = after ≡ before
HasRelayed link g before after other = ⊥

-- A start over an end of its key's server failed so: it is told that its turns were used up only after all of them, and that it was late
-- only where no answer had come that says more.
pub record IsUnstarted (home : HomeOf) (g : LoggedIn) (cause : StartCause) : Type 0 where
  pub secret : Secret
  pub secret_is : Some secret ≡ link_secret g.login (arc_value g.key)
  pub began : Standing
  pub now : Standing
  -- of the link that was to be started
  pub number : ℕ
  pub dialled : IsDialled home (arc_value g.key) (credential_of secret g.login.revealed (start_nonce g.word number)) began
  pub is_cause : IsStartCause began now (credential_of secret g.login.revealed (start_nonce g.word number)) (arc_value g.key) cause
  pub tried : cause ≡ Turns → HasTried began (credential_of secret g.login.revealed (start_nonce g.word number)) (arc_value g.key) now LINK_TURNS
  pub unanswered : cause ≡ Late → HasTried began (credential_of secret g.login.revealed (start_nonce g.word number)) (arc_value g.key) now 0

-- No end was dialled: its user has no secret, or a dial to its server gave none. Of a home of which nothing else is known only a dial shows that.
abbrev pub IsUnreached : HomeOf → LoggedIn → Type 0
IsUnreached home g = (link_secret g.login (arc_value g.key) ≡ None) ⊎ (home.reaches (address_of (arc_value g.key)) ≡ false)

-- why there is no new link: each start that was begun is told by its cause
abbrev pub IsUnopened : HomeOf → LoggedIn → Ending → Type 0
IsUnopened home g ending.Unreached = IsUnreached home g
IsUnopened home g ending.Memory = Unit {0}
IsUnopened home g (ending.Unstarted cause) = IsUnstarted home g cause
IsUnopened home g other = ⊥

-- the lease was over a link of its key
pub record HadLease (home : HomeOf) (g : LoggedIn) (before after : ClientFacts) (r : Option Refusal) : Type 0 where
  pub link : LinkView
  pub at_home : IsAtHome home link
  pub key : link.key ≡ arc_value g.key
  pub relayed : IsRelayed link g before after r

-- nothing moves but in a lease
abbrev pub Came : HomeOf → LoggedIn → ClientFacts → ClientFacts → Ending → Type 0
Came home g before after (ending.Relayed r) = HadLease home g before after r
Came home g before after (ending.Unstarted cause) = IsUnstarted home g cause × (after ≡ before)
Came home g before after ending.Unreached = IsUnreached home g × (after ≡ before)
Came home g before after (ending.Managed r) = ⊥
Came home g before after other = after ≡ before

-- ---- all of it, of a client that is through its login

pub record HasEnded (home : HomeOf) (g : LoggedIn) (since : Since) (p q : PassOf) (before after : ClientFacts) (e : Ending) : Type 0 where
  pub tells : after.tells ≡ before.tells
  pub traces : Traces since p q e
  pub came : Came home g before after e
  pub serves : before.tells ≡ true → LetsIn home g.login → Serves (limit_of g) home.strikable before after (owed home.catalogue g) (final_message_of e)
