use Rattle.play.proofs.Logins.{logs_in_piece}
use Rattle.play.proofs.Pieces.{piece_done}
use Rattle.play.proofs.Turns.{over_stays}
use Rattle.play.proofs.login.log_in.Goals as goal

pub leave-requires : goal.leave-requires
leave-requires c =
    piece_done c.args.pool.now c.args.word c.read.new.self
    (logs_in_piece c.args.pool.now c.args.word c.read.new.self c.args.login
    (over_stays c.args.pool.now c.args.word c.args.client c.read.new.self c.args.login c.read.result c.read.new.into c.requires.logs_in c.read.ensures.taken c.read.ensures.given c.in-Ended.is))
