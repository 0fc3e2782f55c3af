use Rattle.std.proofs.Common.{◌<◌, ◌-◌, length, arith}
use Rattle.mini_sql.specs.Words.{Text}
use Rattle.mini_sql.proofs.Lexing.{literal-front, after-first}
use Rattle.mini_sql.proofs.token.literal.Goals as goal

pub returns : goal.returns
returns c =
    let xs : Text = c.args.text.now in
    let within : c.in_ok-n.n < length xs - 1 = after-first xs _ c.in_ok-n.ensures.within in
    (literal-front xs _ c.requires.long c.requires.starts c.in_ok-n.ensures.length, omega arith, omega arith)
