use Rattle.std.proofs.Common.{subst}
use Rattle.std.specs.Prelude.{◌≡◌, IfSome}
use Rattle.lease_book.specs.Links.{handed, handed_back, reply_of}
use Rattle.pool_desk.specs.Joined.{brought}
use Rattle.pool_desk.proofs.Homes.{comes_back}
use Rattle.pool_desk.proofs.desk.Desk.hold.Goals as goal

pub returns-clause-back : goal.returns-clause-back
returns-clause-back g c =
    let a = c.apply-reply in
    subst (λ e. IfSome (brought e) (λ l. handed a.result ≡ handed_back l (reply_of a.result))) c.heeded-event.ensures
    (comes_back c.heeded-event.result (handed a.result) (reply_of a.result) _ _ a.ensures.handed a.ensures.reply)
