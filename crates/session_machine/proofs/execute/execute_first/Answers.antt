use Rattle.std.proofs.Common.{◌≡◌, Ok, ℤ, of_z, to_z, to_z-of_z, subst, ◌∙◌}
use Rattle.std.specs.Int.{w32}
use Rattle.mini_sql.specs.Meanings.{meaning}
use Rattle.session_values.specs.Answers.{Gave}
use Rattle.session_values.specs.Extended.{execute_outcome}
use Rattle.session_values.specs.Runs.{run}
use Rattle.session_statements.specs.Rans.{outcome_of, ran_of}
use Rattle.session_machine.proofs.Endings.{ran_executes}
use Rattle.session_machine.proofs.execute.execute_first.Goals as goal

pub returns : goal.returns
returns c =
    ran_executes c.args.session.now c.execute_outcome.new.session c.args.out.now.items c.put_notices.new.out.items c.execute_outcome.new.out.items
    c.args.portal.now.name (meaning c.args.statement.now) (of_z w32 c.args.limit) _ (ran_of c.run.new.session c.in_ok-ran.ran)
    (subst (λ g. run c.args.catalogue.now c.args.session.now g (meaning c.args.statement.now) ≡ Ok (ran_of c.run.new.session c.in_ok-ran.ran)) c.given.ensures c.in_ok-ran.ensures)
    c.in_ok-put_notices.ensures
    (subst (λ (z : ℤ). Gave c.execute_outcome.new.session c.put_notices.new.out.items c.execute_outcome.new.out.items (execute_outcome c.run.new.session c.args.portal.now.name (meaning c.args.statement.now) (of_z w32 z) (outcome_of c.in_ok-ran.ran.outcome))) (to_z-of_z c.ranges.limit)
    (subst (λ n. Gave c.execute_outcome.new.session c.put_notices.new.out.items c.execute_outcome.new.out.items (execute_outcome c.run.new.session n (meaning c.args.statement.now) (of_z w32 (to_z w32 (of_z w32 c.args.limit))) (outcome_of c.in_ok-ran.ran.outcome))) (c.as_slice.ensures ∙ c.name.ensures) c.in_ok-execute_outcome.ensures))
