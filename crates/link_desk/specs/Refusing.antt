-- Which refusals each call of a desk may answer.
use Rattle.message_view.specs.declared.refusal.Refusal.{Refusal}
use Rattle.message_view.specs.declared.refusal.Refusal.TheVariants.{TooManyClients, WaitedTooLong, ShuttingDown, LastDecision}
use Rattle.link_desk.specs.declared.answers.Arrival.{Arrival}
use Rattle.link_desk.specs.declared.answers.Arrival.TheVariants as arrival
use Rattle.link_desk.specs.declared.answers.Asked.{Asked}
use Rattle.link_desk.specs.declared.answers.Asked.TheVariants as asked
use Rattle.link_desk.specs.declared.answers.Grant.{Grant}
use Rattle.link_desk.specs.declared.answers.Grant.TheVariants as grant

-- at an arrival: too many clients are there, the pooler is shutting down, or the book has made its last decision
abbrev pub RefusesArrival : Refusal → Type 0
RefusesArrival TooManyClients = Unit {0}
RefusesArrival ShuttingDown = Unit {0}
RefusesArrival LastDecision = Unit {0}
RefusesArrival _ = ⊥

-- where a link is asked for: the pooler is shutting down, or the book has made its last decision
abbrev pub RefusesAsking : Refusal → Type 0
RefusesAsking ShuttingDown = Unit {0}
RefusesAsking LastDecision = Unit {0}
RefusesAsking _ = ⊥

-- where a link is taken: the client has waited too long, the pooler is shutting down, or the book has made its last decision
abbrev pub RefusesGrant : Refusal → Type 0
RefusesGrant WaitedTooLong = Unit {0}
RefusesGrant ShuttingDown = Unit {0}
RefusesGrant LastDecision = Unit {0}
RefusesGrant _ = ⊥

-- ---- by what each call answers

-- a refusal is one of an arrival
abbrev pub MayArrive : Arrival → Type 0
MayArrive (arrival.Refused refusal) = RefusesArrival refusal
MayArrive _ = Unit {0}

-- a refusal is one of asking
abbrev pub MayAsk : Asked → Type 0
MayAsk (asked.Refused refusal) = RefusesAsking refusal
MayAsk _ = Unit {0}

module _ {E : Type 0} where
  -- a refusal is one of taking
  abbrev pub MayTake : Grant E → Type 0
  MayTake (grant.Refused refusal) = RefusesGrant refusal
  MayTake _ = Unit {0}
