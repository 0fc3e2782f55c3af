use Rattle.std.proofs.Common.{sym, subst, ap, arith, length, length-drop, List, ℕ}
use Rattle.std.specs.Arc.{arc_value}
use Rattle.memory_ends.proofs.Ends.{all_of}
use Rattle.replay_run.specs.Told.{Adds, IsKeyed, silence}
use Rattle.login_core.specs.Logins.{after, goes_on}
use Rattle.replay_run.proofs.Replaying.{given_last, given_on, key_of_step, keyed_on, missing_on, nothing_given, on_ok}
use Rattle.replay_run.proofs.replay.+put_login.Goals as goal

pub returns-then-is_empty : goal.returns-then-is_empty
returns-then-is_empty t c = nothing_given c.args.service.now.dies_after (arc_value c.args.service.now.catalogue) c.args.login.now c.args.bytes.now c.args.out.now.items c.requires.missing c.if-is_empty.ensures

pub put_step-requires : goal.put_step-requires
put_step-requires t c = key_of_step c.args.login.now c.advance-used.new.login c.args.bytes.now _ c.advance-used.result.1 c.advance-used.ensures.says c.requires.keyed

pub returns-then-is_end : goal.returns-then-is_end
returns-then-is_end t c = given_last c.args.service.now.dies_after (arc_value c.args.service.now.catalogue) c.args.login.now c.advance-used.new.login c.args.bytes.now _ _ _ c.advance-used.result.1 c.advance-used.ensures.says c.in_ok-put_step.ensures.memory (sym c.if-is_end.ensures)
    (subst (λ (r : List ℕ). Adds c.args.service.now.dies_after (arc_value c.args.service.now.catalogue) (after c.advance-used.result.1 r silence) c.args.out.now.items c.put_step.new.out.items) (all_of c.advance-used.result.0 c.args.bytes.now) c.in_ok-put_step.ensures.given)

pub put_login-requires : goal.put_login-requires
put_login-requires t c = (
  omega (arith, length-drop c.advance-used.result.0 c.args.bytes.now, ap (λ (r : List ℕ). length r) (all_of c.advance-used.result.0 c.args.bytes.now), c.advance-used.ensures.used.0, c.advance-used.ensures.used.1),
  (
    missing_on c.advance-used.result.1 c.advance-used.new.login c.advance-used.ensures.past (sym c.if-is_end.ensures),
    subst (λ (r : List ℕ). IsKeyed (goes_on c.advance-used.new.login r).ended) (sym (all_of c.advance-used.result.0 c.args.bytes.now))
        (keyed_on c.args.login.now c.advance-used.new.login c.args.bytes.now _ c.advance-used.result.1 c.advance-used.ensures.says c.in_ok-put_step.ensures.memory (sym c.if-is_end.ensures) c.requires.keyed),
  ),
)

pub returns : goal.returns
returns t c = on_ok c.put_login.result
    (λ x. given_on c.args.service.now.dies_after (arc_value c.args.service.now.catalogue) c.args.login.now c.advance-used.new.login c.args.bytes.now _ _ _ _ c.advance-used.result.1 c.advance-used.ensures.says c.in_ok-put_step.ensures.memory (sym c.if-is_end.ensures)
    (subst (λ (r : List ℕ). Adds c.args.service.now.dies_after (arc_value c.args.service.now.catalogue) (after c.advance-used.result.1 r silence) c.args.out.now.items c.put_step.new.out.items) (all_of c.advance-used.result.0 c.args.bytes.now) c.in_ok-put_step.ensures.given)
    (subst (λ (r : List ℕ). Adds c.args.service.now.dies_after (arc_value c.args.service.now.catalogue) (goes_on c.advance-used.new.login r) c.put_step.new.out.items c.put_login.new.out.items) (all_of c.advance-used.result.0 c.args.bytes.now) x))
    c.put_login.ensures
