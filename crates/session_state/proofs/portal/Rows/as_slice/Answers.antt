use Rattle.std.proofs.Common.{◌≡◌, ◌-◌, length, take, drop, arith, sym, ap, ◌∙◌, length-drop}
use Rattle.std.specs.Arc.{arc_value}
use Rattle.std.proofs.lemmas.List.{take_all, drop-map}
use Rattle.session_state.proofs.portal.Rows.as_slice.Goals as goal

pub returns : goal.returns
returns c =
    let all : take (length c.as_slice.result.now - c.self.inside.from) (drop c.self.inside.from c.as_slice.result.now) ≡ drop c.self.inside.from c.as_slice.result.now = take_all _ _ (omega (arith, length-drop c.self.inside.from c.as_slice.result.now)) in
    rw all (sym (drop-map arc_value c.self.inside.from c.as_slice.result.now) ∙ ap (drop c.self.inside.from) c.as_slice.ensures ∙ c.self.view_is)
