use Rattle.std.proofs.Common.{rules, inl, inr, refl, sym, ◌∙◌, Some, None}
use Rattle.std.specs.Prelude.{codes}
use Rattle.std.specs.Str.Parse.{ParsesUnsigned, ExplainsUnsignedError, HasUnsignedDigitsIfOk}
use Rattle.clap.specs.Words.{found_of, one_text, rows_of}
use Rattle.clap.proofs.WalkLemmas.{one_text-rows}
use Rattle.pool_app.proofs.Options.{read_text, stub_without, unread_text, value}
use Rattle.pool_app.proofs.line.stub_job.Goals as goal

pub returns-in_err-port-clause-none : goal.returns-in_err-port-clause-none
returns-in_err-port-clause-none c _ =
    let found = found_of c.args.options.now in
    let port = codes "port" in
    let no_number = unread_text (λ bs r. ParsesUnsigned 16 10 bs r × ExplainsUnsignedError 10 bs r × HasUnsignedDigitsIfOk bs r) (λ t e g. g.0)
    (one_text found port) c.get_one.result c.get_one.ensures.value (search rules) in
    stub_without (rows_of found) (inr (λ t has. no_number t (one_text-rows found port ∙ has)))

pub returns-in_err-catalogue-clause-none : goal.returns-in_err-catalogue-clause-none
returns-in_err-catalogue-clause-none c _ =
    let found = found_of c.args.options.now in
    stub_without (rows_of found) (inl (value found (codes "catalogue") None (search rules)))

pub returns-clause-job : goal.returns-clause-job
returns-clause-job c =
    let found = found_of c.args.options.now in
    let port = codes "port" in
    let number = read_text (one_text found port) (λ bs r. ParsesUnsigned 16 10 bs r × ExplainsUnsignedError 10 bs r × HasUnsignedDigitsIfOk bs r)
    c.get_one.result c.in_ok-port.port c.get_one.ensures.none c.get_one.ensures.value c.in_ok-port.was in (
      refl,
      (number.0, sym (one_text-rows found port) ∙ number.1, number.2.0.1),
      value found (codes "catalogue") (Some c.in_ok-catalogue.catalogue.now) (search rules),
    )
