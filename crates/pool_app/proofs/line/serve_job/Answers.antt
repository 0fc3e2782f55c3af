use Rattle.std.proofs.Common.{rules, refl, Some, None}
use Rattle.std.specs.Prelude.{codes, option_map}
use Rattle.clap.specs.Words.{found_of, rows_of}
use Rattle.pool_app.proofs.Options.{serve_without, value}
use Rattle.pool_app.proofs.line.serve_job.Goals as goal

pub returns-in_err-ini-clause-none : goal.returns-in_err-ini-clause-none
returns-in_err-ini-clause-none c _ =
    let found = found_of c.args.options.now in
    serve_without (rows_of found) (value found (codes "ini") None (search rules))

pub returns-clause-job : goal.returns-clause-job
returns-clause-job c =
    let found = found_of c.args.options.now in (
      refl,
      value found (codes "ini") (Some c.in_ok-ini.ini.now) (search rules),
      value found (codes "users") (option_map (λ path. path.now) c.get_str-users.result) c.get_str-users.ensures,
      value found (codes "key-seed") (option_map (λ path. path.now) c.get_str-key_seed.result) c.get_str-key_seed.ensures,
    )
