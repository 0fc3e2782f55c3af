use Rattle.std.proofs.Common.{◌≡◌, IfErr, map, true, string_bytes, subst}
use Rattle.clap.specs.Takes.{takes}
use Rattle.clap.specs.Values.{kind_of}
use Rattle.clap.specs.Words.{App}
use Rattle.clap.specs.declared.error.kind.ErrorKind.TheVariants as kinds
use Rattle.pool_app.proofs.line.matches_of_line.Goals as goal

pub returns-clause-refused : goal.returns-clause-refused
returns-clause-refused c =
    let words = map string_bytes c.args.words.now in
    subst (λ (a : App). IfErr c.try_get_matches_from.result (λ e. takes a words ≡ true → kind_of e ≡ kinds.OutOfMemory)) c.in_ok-command.ensures c.try_get_matches_from.ensures.passes
