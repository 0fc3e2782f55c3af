use Rattle.std.proofs.Common.{ℕ, List, [], ◌-◌, length, ap, subst, sym, refl, ◌∙◌, arith}
use Rattle.server_end.specs.declared.Moved.TheVariants.{Count}
use Rattle.server_end.specs.Standing.{Moves}
use Rattle.relay_flow.proofs.flow.Flow.read_server.Goals as goal
use borrow.Rule.Slice.PartMut.{post_of, same_len_mid}
use Rattle.std.proofs.lemmas.List.{with_items_is}
use Rattle.relay_flow.proofs.Passing.{positive_none}
use Rattle.relay_flow.proofs.Passing.{fills_by, fills_none}

pub returns-in-Count-clause-fills : goal.returns-in-Count-clause-fills
returns-in-Count-clause-fills g c = (fills_by c.args.self.now c.self.inside.bytes.items c.deref_mut.result.now _ c.read_some-moved.new.into (post_of c.self.inside.fill (length c.deref_mut.result.now - c.self.inside.fill) c.deref_mut.result.now) c.self.inside.start c.self.inside.pass c.self.inside.fill c.in-Count.count c.self.inside.kind c.self.inside.rest c.self.inside.side c.self.inside.limit c.self.inside.ends (Count c.in-Count.count) c.self.view_is c.deref_mut.ensures.value (with_items_is c.self.inside.bytes _ (same_len_mid c.self.inside.fill (length c.deref_mut.result.now - c.self.inside.fill) c.deref_mut.result.now c.read_some-moved.new.into c.read_some-moved.auto.into ∙ (ap length c.deref_mut.ensures.value ∙ sym c.self.inside.bytes.ok.0))) (omega arith) (omega arith) (omega (arith, c.in-Count.ensures.within.1, c.read_some-moved.auto.into)) refl).fills

pub returns-in-Count-clause-moves : goal.returns-in-Count-clause-moves
returns-in-Count-clause-moves g c = subst (λ (l : List ℕ). Moves (g.E.ServerEnd.standing c.args.end.now) [] (g.E.ServerEnd.standing c.read_some-moved.new.self) l) (fills_by c.args.self.now c.self.inside.bytes.items c.deref_mut.result.now _ c.read_some-moved.new.into (post_of c.self.inside.fill (length c.deref_mut.result.now - c.self.inside.fill) c.deref_mut.result.now) c.self.inside.start c.self.inside.pass c.self.inside.fill c.in-Count.count c.self.inside.kind c.self.inside.rest c.self.inside.side c.self.inside.limit c.self.inside.ends (Count c.in-Count.count) c.self.view_is c.deref_mut.ensures.value (with_items_is c.self.inside.bytes _ (same_len_mid c.self.inside.fill (length c.deref_mut.result.now - c.self.inside.fill) c.deref_mut.result.now c.read_some-moved.new.into c.read_some-moved.auto.into ∙ (ap length c.deref_mut.ensures.value ∙ sym c.self.inside.bytes.ok.0))) (omega arith) (omega arith) (omega (arith, c.in-Count.ensures.within.1, c.read_some-moved.auto.into)) refl).came_is c.in-Count.ensures.moves

pub returns-in_default : goal.returns-in_default
returns-in_default g c = record { positive = positive_none _ c.in_default.not-Count; fills = (fills_none c.args.self.now c.self.inside.bytes.items c.deref_mut.result.now _ c.read_some-moved.new.into (post_of c.self.inside.fill (length c.deref_mut.result.now - c.self.inside.fill) c.deref_mut.result.now) c.self.inside.start c.self.inside.pass c.self.inside.fill c.self.inside.kind c.self.inside.rest c.self.inside.side c.self.inside.limit c.self.inside.ends _ c.self.view_is c.deref_mut.ensures.value (with_items_is c.self.inside.bytes _ (same_len_mid c.self.inside.fill (length c.deref_mut.result.now - c.self.inside.fill) c.deref_mut.result.now c.read_some-moved.new.into c.read_some-moved.auto.into ∙ (ap length c.deref_mut.ensures.value ∙ sym c.self.inside.bytes.ok.0))) (omega arith) (omega arith) c.in_default.not-Count).fills; moves = subst (λ (l : List ℕ). Moves (g.E.ServerEnd.standing c.args.end.now) [] (g.E.ServerEnd.standing c.read_some-moved.new.self) l) (fills_none c.args.self.now c.self.inside.bytes.items c.deref_mut.result.now _ c.read_some-moved.new.into (post_of c.self.inside.fill (length c.deref_mut.result.now - c.self.inside.fill) c.deref_mut.result.now) c.self.inside.start c.self.inside.pass c.self.inside.fill c.self.inside.kind c.self.inside.rest c.self.inside.side c.self.inside.limit c.self.inside.ends _ c.self.view_is c.deref_mut.ensures.value (with_items_is c.self.inside.bytes _ (same_len_mid c.self.inside.fill (length c.deref_mut.result.now - c.self.inside.fill) c.deref_mut.result.now c.read_some-moved.new.into c.read_some-moved.auto.into ∙ (ap length c.deref_mut.ensures.value ∙ sym c.self.inside.bytes.ok.0))) (omega arith) (omega arith) c.in_default.not-Count).came_is c.read_some-moved.ensures.moves; counts = c.read_some-moved.ensures.counts }
