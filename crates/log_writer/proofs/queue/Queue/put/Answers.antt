use Rattle.std.proofs.Common.{◌∙◌, ◌++◌, ◌∷◌, [], List, ℕ, length, ap}
use Rattle.std.proofs.lemmas.Bool.{ltb-true}
use Rattle.log_writer.specs.Queues.{QueueOf, has_room}
use Rattle.log_writer.proofs.Keeping.{stands}
use Rattle.log_writer.proofs.queue.Queue.put.Goals as goal

pub invariant_of-self : goal.invariant_of-self
invariant_of-self c =
    let room = ltb-true (length c.self.inside.lines.items) 1024 (ap (λ (q : QueueOf). has_room q) c.self.view_is ∙ c.requires) in
    let s = stands c.self.inside.lines.capacity c.self.inside.lines.items c.args.line c.push_back.new.self c.self.invariant.0 room c.push_back.ensures.items in
    (s.capacity, s.few)

pub returns : goal.returns
returns c =
    let room = ltb-true (length c.self.inside.lines.items) 1024 (ap (λ (q : QueueOf). has_room q) c.self.view_is ∙ c.requires) in
    let s = stands c.self.inside.lines.capacity c.self.inside.lines.items c.args.line c.push_back.new.self c.self.invariant.0 room c.push_back.ensures.items in
    ap (λ (ls : List (List ℕ)). record { lines = ls; dropped = c.self.inside.dropped }) s.items ∙ ap (λ (q : QueueOf). record q { lines = q.lines ++ c.args.line ∷ [] }) c.self.view_is
