use Rattle.std.proofs.Common.{rules, ◌∙◌, ap, List}
use Rattle.std.specs.Prelude.{filter}
use Rattle.std.proofs.lemmas.Fn.{filter_same}
use Rattle.memory_ends.specs.declared.striker.Striker.{Striker}
use Rattle.stub_server.specs.Strikers.{is_other}
use Rattle.stub_server.proofs.strikers.Strikers.remove.Goals as goal

pub returns : goal.returns
returns c = filter_same _ (is_other c.args.key) _ (λ x b f k. search rules) _ _ c.retain.ensures.filtered ∙ ap (λ (l : List Striker). filter (is_other c.args.key) l) c.self.view_is
