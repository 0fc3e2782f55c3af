use Rattle.std.proofs.Common.{refl}
use Rattle.frame_view.specs.declared.Side.TheVariants.{Server}
use Rattle.message_laws.proofs.laws.server_frame_is_cut.Goals as goal

pub returns : goal.returns
returns c = λ limit f rest low size. c.spelled_is_first.ensures Server limit f rest low (record { of_type = refl; size = size })
