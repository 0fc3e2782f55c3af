use Rattle.std.proofs.Common.{sym, ◌∙◌, subst}
use Rattle.link_model.specs.Standing.{Standing}
use Rattle.link_start.specs.declared.start.StartCause.TheVariants as causes
use Rattle.link_start.specs.Starts.{IsStartCause}
use Rattle.link_start.proofs.Starting.{other_cause, refused_cause}
use Rattle.link_start.proofs.start.Start.hear.Goals as goal

pub returns-in-Refused-clause-cause : goal.returns-in-Refused-clause-cause
returns-in-Refused-clause-cause g c = λ b can k x.
    subst (λ (s : Standing). IsStartCause b s c.args.credential.now c.args.self.now.key (causes.Refused c.take_error.result)) (sym c.take_error.ensures.end)
    (refused_cause b c.args.credential.now c.args.self.now c.take_error.result can k x c.read_start_reply.ensures.bytes (sym c.in_ok-read_start_reply.ensures.heard ∙ c.in-Refused.is) c.take_error.ensures.error)

pub returns-in-Other-clause-cause : goal.returns-in-Other-clause-cause
returns-in-Other-clause-cause g c = λ b can k x. other_cause b c.args.credential.now c.args.self.now can k x c.read_start_reply.ensures.bytes (sym c.in_ok-read_start_reply.ensures.heard ∙ c.in-Other.is)
