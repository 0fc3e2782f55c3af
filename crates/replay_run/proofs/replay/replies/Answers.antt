use Rattle.std.proofs.Common.{subst, ℕ}
use Rattle.std.specs.Prelude.{Option}
use Rattle.replay_run.specs.Replay.{IsReply}
use Rattle.replay_run.proofs.Replaying.{all_given, standing_keyed}
use Rattle.replay_run.proofs.replay.replies.Goals as goal

pub put_login-requires-clause-keyed : goal.put_login-requires-clause-keyed
put_login-requires-clause-keyed c = standing_keyed c.settings_rows_are_lawful.ensures c.passed_keys_are_link_keys.ensures _ c.args.bytes.now c.in_ok-login.ensures

pub returns : goal.returns
returns c = subst (λ (d : Option ℕ). IsReply d c.args.bytes.now c.put_login.new.out.items) c.in_ok-service.ensures.dies
    (all_given c.login_is_of_its_row.ensures _ _ _ c.args.bytes.now _ _ c.new-out.ensures.items c.in_ok-service.ensures.catalogue c.in_ok-login.ensures c.in_ok-put_login.ensures)
