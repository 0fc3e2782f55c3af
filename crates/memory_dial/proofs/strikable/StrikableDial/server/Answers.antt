use Rattle.std.proofs.Common.{rules, ◌≡◌, refl, sym, ◌∙◌, subst}
use Rattle.std.specs.Arc.{arc_value}
use Rattle.session_values.specs.Lawful.{IsLawfulCatalogue}
use Rattle.memory_dial.specs.Homes.{strikable_home}
use Rattle.memory_dial.proofs.Dialling.{new_dialled, some_or}
use Rattle.memory_dial.proofs.strikable.StrikableDial.server.Goals as goal

pub returns-clause-dialled : goal.returns-clause-dialled
returns-clause-dialled g c =
    let same : arc_value c.in_ok-catalogue.catalogue ≡ arc_value c.self.inside.catalogue = search rules in
    let lawful : c.deref.result.now ≡ arc_value c.in_ok-catalogue.catalogue = search rules in
    some_or _ _ _ c.new.result c.ok-2.result c.ok-2.ensures.value c.new.ensures tt
    (λ s e key credential. new_dialled (strikable_home g.N.Naming.catalogue) key credential _ c.self.inside.cut s (λ a. same ∙ sym (c.self.invariant.1.each a)) refl (subst IsLawfulCatalogue lawful c.is_lawful.ensures) c.memory_servers_can_start.ensures e)
