-- A refusal of a client's message is that of its fault.
use Rattle.std.proofs.Common.{◌≡◌, ℕ, true, List, ◌++◌, refl, sym, ap, ap₂, ◌∙◌, append_assoc, subst, Some}
use Rattle.std.specs.List.{flat_map, AllByRecursion}
use Rattle.frame_view.specs.declared.FrameError.{FrameError}
use Rattle.frame_view.specs.declared.Side.{Side}
use Rattle.frame_view.specs.declared.Side.TheVariants.{Client}
use Rattle.frame_view.specs.Frames.{front, spelling}
use Rattle.frame_view.specs.Frames as frames
use Rattle.frame_view.proofs.Growth.{front-grows}
use Rattle.message_view.specs.declared.refusal.Refusal.{Refusal}
use Rattle.link_model.proofs.Splits.{same_back}
use Rattle.relay_flow.specs.declared.flow.Ends.{Ends}
use Rattle.relay_flow.specs.declared.flow.Ends.TheVariants.{Open, Last, Faulty}
use Rattle.relay_flow.specs.Flows.{IsEndedBy}
use Rattle.relay_model.specs.Leases.{RelayView, Place, IsForwarded, IsLease}
use Rattle.relay_model.specs.Answers.{refusal_by, refusal_of}
use Rattle.relay_model.specs.Faults.{IsAtFault}

-- at a border, before what is no message
pub record StopsAt (side : Side) (limit : ℕ) (part : List ℕ) (rest : ℕ) : Type 0 where
  pub fault : FrameError
  pub border : rest ≡ 0
  pub stops : front side limit part ≡ frames.Faulty fault

same_refusal : (a b : Refusal) → Some a ≡ Some b → b ≡ a
same_refusal a b e = cc

client_stops : (e : Ends) (side : Side) (limit : ℕ) (part : List ℕ) (rest : ℕ) (r : Refusal) → refusal_of e ≡ Some r → IsEndedBy e side limit part rest → (x : StopsAt side limit part rest) × (r ≡ refusal_by x.fault)
client_stops Open side limit part rest r e x = absurd cc
client_stops Last side limit part rest r e x = absurd cc
client_stops (Faulty fault) side limit part rest r e x = (record { fault = fault; border = x.0; stops = x.1 }, same_refusal (refusal_by fault) r e)

-- whatever comes behind what was taken since the lease's place
pub client_fault : (p : Place) (v : RelayView) (took more : List ℕ) (r : Refusal) → IsLease p v → v.client.tells ≡ true → v.client.taken ≡ p.taken ++ took → refusal_of v.to_link.ends ≡ Some r
    → (fault : FrameError) × (r ≡ refusal_by fault) × IsAtFault p.limit (took ++ more) (refusal_by fault)
client_fault p v took more r x t n e =
    let s = client_stops v.to_link.ends v.to_link.side v.to_link.limit v.to_link.part v.to_link.rest r e x.goes.flow.ended in
    let f : List ℕ = flat_map spelling x.forwarded in
    let took_is : took ≡ f ++ v.to_link.part =
    same_back p.taken took (f ++ v.to_link.part) (sym n ∙ (x.goes.taken t ∙ ap (λ (c : List ℕ). p.taken ++ (f ++ (c ++ v.to_link.part))) (x.goes.opens.border s.0.border))) in (
      s.0.fault,
      s.1,
      record {
        before = x.forwarded;
        rest = v.to_link.part ++ more;
        fault = s.0.fault;
        went = subst (λ (l : ℕ). AllByRecursion (IsForwarded l) x.forwarded) x.same.4 x.goes.went;
        whole = ap (λ (l : List ℕ). l ++ more) took_is ∙ append_assoc f v.to_link.part more;
        stops = (front-grows Client p.limit v.to_link.part more).fault s.0.fault (sym (ap₂ (λ (d : Side) (l : ℕ). front d l v.to_link.part) x.goes.flow.side_is x.same.4) ∙ s.0.stops);
        told = refl;
      },
    )
