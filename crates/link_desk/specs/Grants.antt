-- What a desk answers to a client that would take its link.
use Rattle.std.specs.Prelude.{◌≡◌, Option, Some, None, option_map}
use Rattle.book_model.specs.declared.events.Reply.{Reply}
use Rattle.book_model.specs.declared.events.Reply.TheVariants as reply
use Rattle.link_start.specs.Links.{LinkView}
use Rattle.link_desk.specs.declared.answers.Grant.{Grant}
use Rattle.link_desk.specs.declared.answers.Grant.TheVariants as grant

module _ {E : Type 0} where
  -- it is what its book answered; who waits isn't told behind how many
  abbrev pub IsAnswerToTake : Reply → Grant E → Type 0
  IsAnswerToTake (reply.Queued before) grant.Queued = Unit {0}
  IsAnswerToTake (reply.Lend n) (grant.Lend l) = l.number ≡ n
  IsAnswerToTake (reply.Start n started_at evicted) (grant.Start number since link) = (number ≡ n) × (since ≡ started_at) × (option_map (λ (l : LinkView). l.number) link ≡ evicted)
  IsAnswerToTake (reply.Refuse refusal) (grant.Refused told) = told ≡ refusal
  IsAnswerToTake reply.Stranger grant.Stranger = Unit {0}
  IsAnswerToTake _ _ = ⊥

  -- the link that comes with it
  abbrev pub link_in : Grant E → Option LinkView
  link_in (grant.Lend l) = Some l
  link_in (grant.Start number started_at evicted) = evicted
  link_in _ = None
