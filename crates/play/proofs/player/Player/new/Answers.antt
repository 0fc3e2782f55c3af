use Rattle.std.proofs.Common.{ap}
use Rattle.play.specs.Players.{word_of}
use Rattle.play.proofs.Logins.{first_at}
use Rattle.play.proofs.player.Player.new.Goals as goal

pub returns : goal.returns
returns c = (ap word_of c.number-number.ensures, first_at c.args.pool.now _ c.args.script.now.bytes c.new-2.result c.in_ok-login.field-0 c.new-2.ensures c.in_ok-login.ensures)
