use Rattle.std.proofs.Common.{◌∙◌, ap, take, drop, arith, length-drop, false, []}
use Rattle.memory_ends.specs.Clients.{ClientOf}
use Rattle.memory_ends.proofs.Ends.{handed_out, copied, all_of}
use Rattle.memory_lease.specs.Patient.{PatientOf}
use Rattle.memory_lease.proofs.patient_client.PatientClient.hand_out.Goals as goal

pub returns-clause-facts : goal.returns-clause-facts
returns-clause-facts c =
    let old : ClientOf = record { facts = c.args.self.now.facts; unread = []; hung_up = false; cut = 0 } in
    handed_out old _ _ c.self.inside.input.now _ _ c.self.inside.at c.min-count.result _ _ (ap (λ (x : PatientOf). x.facts) c.self.view_is) c.requires.living
    (copied c.min-count.result (drop c.self.inside.at c.self.inside.input.now) c.copy_from_slice.new.self (drop c.min-count.result c.args.into.now) (c.copy_from_slice.ensures.after ∙ ap (take c.min-count.result) (all_of c.self.inside.at c.self.inside.input.now)) (omega (arith, length-drop c.self.inside.at c.self.inside.input.now)))
