use Rattle.std.proofs.Common.{sym, ◌∙◌, subst}
use Rattle.frame_view.specs.Frames.{AreBytes}
use Rattle.link_start.specs.declared.start.StartCause.TheVariants as causes
use Rattle.link_start.specs.Starts.{IsLinkKey, IsStartCause}
use Rattle.link_start.proofs.Starting.{can_at, caused, end_cause, handed_on, long_cause}
use Rattle.link_start.proofs.start.Start.turn.Goals as goal

pub returns-in_err-wrote-clause-cause : goal.returns-in_err-wrote-clause-cause
returns-in_err-wrote-clause-cause g c = λ b can k x.
    handed_on (λ cause. IsStartCause b c.send.new.self.end c.args.credential.now c.args.self.now.key cause) _ _ c.from_residual.ensures.1
    (end_cause b c.send.new.self.end c.args.credential.now c.args.self.now.key c.args.self.now _ x c.in_err-wrote.ensures.cause)

pub returns-in_err-read-clause-cause : goal.returns-in_err-read-clause-cause
returns-in_err-read-clause-cause g c = λ b can k x.
    handed_on (λ cause. IsStartCause b c.receive.new.self.end c.args.credential.now c.args.self.now.key cause) _ _ c.from_residual-in_err-read.ensures.1
    (end_cause b c.receive.new.self.end c.args.credential.now c.args.self.now.key c.send.new.self _ (c.in_ok-wrote.ensures.under_way b _ x) c.in_err-read.ensures.cause)

pub returns-in_err-hear-clause-cause : goal.returns-in_err-hear-clause-cause
returns-in_err-hear-clause-cause g c = λ b can k x.
    let same = c.in_ok-read.ensures.same.0 ∙ c.in_ok-wrote.ensures.same.0 in
    handed_on (λ cause. IsStartCause b c.hear.new.self.end c.args.credential.now c.args.self.now.key cause) _ _ c.from_residual-in_err-hear.ensures.1
    (caused b c.hear.new.self.end c.args.credential.now c.receive.new.self.key c.args.self.now.key _ same
    (c.in_err-hear.ensures.cause b (can_at b c.args.credential.now _ _ same can) (subst IsLinkKey (sym same) k) (c.in_ok-read.ensures.under_way b _ (c.in_ok-wrote.ensures.under_way b _ x))))

pub returns-then-is_too_long-clause-cause : goal.returns-then-is_too_long-clause-cause
returns-then-is_too_long-clause-cause g c = λ b can k x.
    let y = c.in_ok-read.ensures.under_way b _ (c.in_ok-wrote.ensures.under_way b _ x) in
    let same = c.in_ok-read.ensures.same.0 ∙ c.in_ok-wrote.ensures.same.0 in
    let same_now = c.in_ok-hear.ensures.same.0 ∙ same in
    caused b c.hear.new.self.end c.args.credential.now c.hear.new.self.key c.args.self.now.key causes.Unexpected same_now
    (long_cause b c.args.credential.now c.hear.new.self (can_at b c.args.credential.now _ _ same_now can) (subst IsLinkKey (sym same_now) k) (c.in_ok-hear.ensures.under_way b (can_at b c.args.credential.now _ _ same can) (subst IsLinkKey (sym same) k) y)
    (subst AreBytes (sym c.in_ok-hear.ensures.received) c.in_ok-hear.ensures.bytes) (c.is_too_long.ensures.long c.if-is_too_long.true) (c.in_ok-hear.ensures.waits c.if-branch.false))
