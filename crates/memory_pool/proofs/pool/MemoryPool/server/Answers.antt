use Rattle.std.proofs.Common.{rules, ◌≡◌, sym, ◌∙◌, subst, refl}
use Rattle.std.specs.Arc.{arc_value}
use Rattle.session_values.specs.Lawful.{IsLawfulCatalogue}
use Rattle.memory_ends.specs.declared.memory_server.ServerAuth.TheVariants.{Trust}
use Rattle.memory_pool.proofs.Starting.{new_home, on_ok}
use Rattle.memory_pool.proofs.pool.MemoryPool.server.Goals as goal

pub returns : goal.returns
returns c =
    let catalogue : arc_value c.in_ok-catalogue.catalogue ≡ c.args.self.now.catalogue = search rules in
    let lawful : c.deref.result.now ≡ arc_value c.in_ok-catalogue.catalogue = search rules in
    on_ok _ _ c.spared.result c.spared.ensures
    (λ s e. new_home _ _ _ _ s catalogue refl (c.memory_servers_can_start.ensures _ Trust c.self.inside.cut c.self.inside.dies_after (subst IsLawfulCatalogue lawful c.is_lawful.ensures) tt) e)
