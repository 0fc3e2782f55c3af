use Rattle.std.proofs.Common.{◌∙◌, ap, ◌++◌, List, ℕ}
use Rattle.replay_run.proofs.Replaying.{passed_given}
use Rattle.replay_run.proofs.replay.put_passed.Goals as goal

pub returns : goal.returns
returns c = passed_given _ _ _ _ c.args.rest.now _ _ _ _ (c.in_ok-extend_from_slice.ensures.ok ∙ ap (λ (a : List ℕ). c.args.out.now.items ++ a) c.as_bytes.ensures) c.in_ok-answer.ensures
    (c.in_ok-extend_from_slice-2.ensures.ok ∙ ap (λ (a : List ℕ). c.extend_from_slice.new.self.items ++ a) c.as_slice.ensures)
