use Rattle.std.proofs.Common.{rules, ◌<◌, length}
use Rattle.message_view.specs.Reading.{bind_of}
use Rattle.message_view.proofs.Counted.{left_over}
use Rattle.message_view.proofs.parse_and_bind.BindView.read.Goals as goal

pub returns-then-not-is_empty-clause-parts : goal.returns-then-not-is_empty-clause-parts
unfolding bind_of
returns-then-not-is_empty-clause-parts c =
    let more : 0 < length c.in_ok-results.rest.now = search rules in
    rw (c.in_ok-portal.ensures.part, c.in_ok-statement.ensures.part, c.in_ok-formats.ensures.part, c.in_ok-given.ensures.part, c.in_ok-results.ensures.part) (left_over _ _ more)
