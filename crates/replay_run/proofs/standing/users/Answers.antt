use Rattle.std.proofs.Common.{◌∙◌, ap, List}
use Rattle.user_file.specs.declared.user_table.UserRow.{UserRow}
use Rattle.user_file.specs.Users.{users_of}
use Rattle.replay_run.proofs.StandingText.{users_spelled}
use Rattle.replay_run.proofs.standing.users.Goals as goal

pub returns-in-Ok : goal.returns-in-Ok
returns-in-Ok c = c.new.ensures ∙ ap (λ (t : List UserRow). users_of t _) (c.in-Ok.ensures.1 ∙ users_spelled)
