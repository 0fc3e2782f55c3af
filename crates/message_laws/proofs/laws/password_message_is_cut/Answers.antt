use Rattle.std.proofs.Common.{refl}
use Rattle.frame_view.specs.declared.Side.TheVariants.{Client}
use Rattle.message_view.specs.Messages.{password_message}
use Rattle.message_laws.proofs.laws.password_message_is_cut.Goals as goal

pub returns : goal.returns
returns c = λ limit t rest low size. c.spelled_is_first.ensures Client limit (password_message t) rest low (record { of_type = refl; size = size })
