-- Why a client is refused.
use Rattle.std.proofs.Common.{◌≡◌, inl, inr, ℕ, ◌+◌, ◌^◌, ◌<◌, ◌≤◌, Bool, true, false, List, [], ◌∷◌, ◌++◌, length, refl, sym, ap, ap₂, ◌∙◌, arith, append_assoc, subst, Option, Some}
use Rattle.std.specs.Prelude.{map, nat_lt}
use Rattle.std.specs.List.{flat_map, AllByRecursion}
use Rattle.std.proofs.lemmas.Bool.{false≢true, ltb-true, ltb-false}
use Rattle.frame_view.specs.declared.FrameError.{FrameError}
use Rattle.frame_view.specs.declared.FrameError.TheVariants.{TooShort, TooLong, UnknownType, UnknownCode}
use Rattle.frame_view.specs.declared.Side.{Side}
use Rattle.frame_view.specs.declared.Side.TheVariants.{Server}
use Rattle.frame_view.specs.declared.frames.TheConstants.{MAX_FRAME}
use Rattle.frame_view.specs.Frames.{Front, AFrame, FrameOf, IsFrame, front, spelling}
use Rattle.frame_view.specs.Frames as frames
use Rattle.frame_view.proofs.Growth.{front-grows}
use Rattle.frame_view.proofs.Cuts.{front-spelling}
use Rattle.message_view.specs.declared.refusal.Refusal.{Refusal}
use Rattle.message_view.specs.Refusals.{Begins}
use Rattle.relay_flow.specs.declared.flow.Ends.{Ends}
use Rattle.relay_flow.specs.declared.flow.Ends.TheVariants.{Open, Last, Faulty}
use Rattle.relay_flow.specs.Flows.{IsEndedBy, is_faulty}
use Rattle.relay_core.specs.Leases.{RelayView, Place, IsLease, IsLinkOver}
use Rattle.relay_core.specs.Answers.{RefusedBy, refusal_by, refusal_of}
use Rattle.relay_core.specs.Faults.{IsAtFault}
use Rattle.relay_core.proofs.Faults.{StopsAt, client_fault}
use Rattle.memory_lease.specs.Answers.{HasCause, IsAllowed, IsAnswer, IsTooLong, MayDie}

pub was_allowed : (dies : Option ℕ) (limit : ℕ) (bytes out : List ℕ) (pieces : List (List ℕ)) → IsAnswer dies limit bytes out pieces → IsAllowed dies out pieces
was_allowed dies limit bytes out pieces (inl x) = inl x
was_allowed dies limit bytes out pieces (inr x) = inr x.at

-- ---- a faulty message at a border

server_stops : (e : Ends) (side : Side) (limit : ℕ) (part : List ℕ) (rest : ℕ) → is_faulty e ≡ true → IsEndedBy e side limit part rest → StopsAt side limit part rest
server_stops Open side limit part rest e x = absurd (false≢true e)
server_stops Last side limit part rest e x = absurd (false≢true e)
server_stops (Faulty fault) side limit part rest e x = record { fault = fault; border = x.0; stops = x.1 }

-- ---- of the client

cause_of_fault : (dies : Option ℕ) (limit : ℕ) (bytes : List ℕ) (given kept : List (List ℕ)) (fault : FrameError) → IsAtFault limit bytes (refusal_by fault) → HasCause dies limit bytes given kept (refusal_by fault)
cause_of_fault dies limit bytes given kept TooShort x = x
cause_of_fault dies limit bytes given kept TooLong x = x
cause_of_fault dies limit bytes given kept UnknownType x = x
cause_of_fault dies limit bytes given kept UnknownCode x = x

by_client : (p : Place) (v : RelayView) (bytes : List ℕ) (r : Refusal) → IsLease p v → v.client.tells ≡ true → p.taken ≡ [] → ((some : List ℕ) → v.client.taken ≡ some → Begins some bytes) → refusal_of v.to_link.ends ≡ Some r
    → (fault : FrameError) × (r ≡ refusal_by fault) × IsAtFault p.limit bytes (refusal_by fault)
by_client p v bytes r x t n b e =
    let g : Begins v.client.taken bytes = b v.client.taken refl in
    let c = client_fault p v v.client.taken g.more r x t (ap (λ (l : List ℕ). l ++ v.client.taken) (sym n)) e in
    (c.0, c.1, subst (λ (l : List ℕ). IsAtFault p.limit l (refusal_by c.0)) g.both c.2)

-- ---- of the server

long_by : (limit : ℕ) (b : Bool) (f : FrameOf) (fs : List FrameOf) (fault : FrameError) → nat_lt limit (4 + length f.body) ≡ b → limit < 2 ^ 32 → IsFrame Server MAX_FRAME f → front Server limit (spelling f ++ (flat_map spelling fs ++ [])) ≡ frames.Faulty fault → IsTooLong limit (map spelling (f ∷ fs))
long_by limit true f fs fault e l a s = record { next = f; others = map spelling fs; kept_is = refl; long = ltb-true limit (4 + length f.body) e }
long_by limit false f fs fault e l a s =
    let lawful : IsFrame Server limit f = record { of_type = a.of_type; size = ltb-false limit (4 + length f.body) e } in
    let whole : front Server limit (spelling f ++ (flat_map spelling fs ++ [])) ≡ AFrame f.kind f.body (flat_map spelling fs ++ []) = front-spelling Server limit f (flat_map spelling fs ++ []) l lawful in
    absurd cc

next_is_long : (limit : ℕ) (part more : List ℕ) (fault : FrameError) (fs : List FrameOf) → limit < 2 ^ 32 → AllByRecursion (IsFrame Server MAX_FRAME) fs → front Server limit part ≡ frames.Faulty fault → part ++ more ≡ flat_map spelling fs ++ [] → IsTooLong limit (map spelling fs)
next_is_long limit part more fault [] l a f e =
    let s : front Server limit [] ≡ frames.Faulty fault = subst (λ (b : List ℕ). front Server limit b ≡ frames.Faulty fault) e ((front-grows Server limit part more).fault fault f) in
    absurd cc
next_is_long limit part more fault (g ∷ fs) l a f e =
    let s : front Server limit (part ++ more) ≡ frames.Faulty fault = (front-grows Server limit part more).fault fault f in
    long_by limit (nat_lt limit (4 + length g.body)) g fs fault refl l a.0 (sym (ap (front Server limit) (e ∙ append_assoc (spelling g) (flat_map spelling fs) [])) ∙ s)

by_server : (p : Place) (v : RelayView) (fs : List FrameOf) (more : List ℕ) → IsLease p v → is_faulty v.to_client.ends ≡ true → AllByRecursion (IsFrame Server MAX_FRAME) fs → v.to_client.part ++ more ≡ flat_map spelling fs ++ [] → IsTooLong p.limit (map spelling fs)
by_server p v fs more x e a h =
    let s : StopsAt v.to_client.side v.to_client.limit v.to_client.part v.to_client.rest = server_stops v.to_client.ends v.to_client.side v.to_client.limit v.to_client.part v.to_client.rest e x.comes.flow.ended in
    let high : v.to_client.limit ≤ MAX_FRAME = x.comes.flow.high in
    let same : v.to_client.limit ≡ p.limit = x.same.5 in
    next_is_long p.limit v.to_client.part more s.fault fs (omega (arith, high, same)) a (sym (ap₂ (λ (d : Side) (l : ℕ). front d l v.to_client.part) x.comes.flow.side_is same) ∙ s.stops) h

-- ---- of a relay that refuses

pub caused_by : (dies : Option ℕ) (p : Place) (v : RelayView) (bytes more : List ℕ) (given : List (List ℕ)) (fs : List FrameOf) (r : Refusal) → IsLease p v → v.client.tells ≡ true → p.taken ≡ [] → ((some : List ℕ) → v.client.taken ≡ some → Begins some bytes)
    → AllByRecursion (IsFrame Server MAX_FRAME) fs → v.to_client.part ++ more ≡ flat_map spelling fs ++ [] → RefusedBy p v r → (IsLinkOver p.stands.faults v.link → MayDie dies) → HasCause dies p.limit bytes given (map spelling fs) r
caused_by dies p v bytes more given fs r x t n b a h (inl e) d =
    let c = by_client p v bytes r x t n b e in
    subst (HasCause dies p.limit bytes given (map spelling fs)) (sym c.1) (cause_of_fault dies p.limit bytes given (map spelling fs) c.0 c.2)
caused_by dies p v bytes more given fs r x t n b a h (inr (inl e)) d = subst (HasCause dies p.limit bytes given (map spelling fs)) (sym e.0) (by_server p v fs more x e.1 a h)
caused_by dies p v bytes more given fs r x t n b a h (inr (inr e)) d = subst (HasCause dies p.limit bytes given (map spelling fs)) (sym e.0) (d e.1)
