use Rattle.std.proofs.Common.{◌+◌, ◌^◌, ◌<◌, length, ap, ◌∙◌, subst}
use Rattle.frame_view.specs.Frames.{Start, first_spelling}
use Rattle.session_values.specs.State.{StartKeyOf}
use Rattle.link_model.specs.Starts.{start_body}
use Rattle.link_start.proofs.Starting.{start_begun, waits_first}
use Rattle.link_start.proofs.start.Start.begin.Goals as goal

pub returns-clause-under_way : goal.returns-clause-under_way
returns-clause-under_way g c = λ cred.
    start_begun _ cred _ _ _ _ _ (c.in-Ok.ensures.bytes ∙ ap (λ (k : StartKeyOf). first_spelling (Start (start_body k))) c.deref.ensures) c.new.ensures.items
    (subst (λ (k : StartKeyOf). 8 + length (start_body k) < 2 ^ 32) c.deref.ensures c.in-Ok.ensures.fits)

pub returns-clause-waits : goal.returns-clause-waits
returns-clause-waits g c = λ cred. waits_first cred c.new.result.items c.new.ensures.items
