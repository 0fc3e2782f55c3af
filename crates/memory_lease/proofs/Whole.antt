-- A client whose lease ended with nothing on its way, over a server that lives and has nothing more to give, was given all.
use Rattle.std.proofs.Common.{◌≡◌, ◌⊎◌, inl, inr, ℕ, zero, suc, ◌<◌, ◌≤◌, Bool, true, false, List, [], ◌∷◌, ◌++◌, refl, sym, ap, ap₂, ◌∙◌, arith, append-nil, append_assoc, subst}
use Rattle.std.specs.Prelude.{◌&&◌, not}
use Rattle.std.specs.List.{flat_map, AllByRecursion}
use Rattle.std.proofs.lemmas.Bool.{false≢true, true≢false}
use Rattle.frame_view.specs.declared.Side.{Side}
use Rattle.frame_view.specs.declared.Side.TheVariants.{Client}
use Rattle.frame_view.specs.declared.frames.TheConstants.{MAX_FRAME}
use Rattle.frame_view.specs.Frames.{AreBytes, FrameOf, IsFrame, front, spelling}
use Rattle.message_view.specs.Refusals.{Begins}
use Rattle.session_values.specs.State.{CatalogueOf, StartKeyOf}
use Rattle.session_values.specs.Service.{service}
use Rattle.link_model.specs.Futures.{future}
use Rattle.relay_flow.specs.Parts.{is_stuck}
use Rattle.relay_flow.specs.declared.flow.Ends.{Ends}
use Rattle.relay_flow.specs.declared.flow.Ends.TheVariants.{Open, Last, Faulty}
use Rattle.relay_flow.specs.Flows.{AtTerminate, IsEndedBy, is_empty, is_faulty, is_open}
use Rattle.relay_core.specs.Leases.{RelayView, Place, IsRelayExact, IsForwarded, IsLease}
use Rattle.relay_core.proofs.Exact.{spared_service, lease_exact}
use Rattle.relay_core.proofs.Flowing.{empty_is}
use Rattle.relay_core.specs.Answers.{is_quiet}
use Rattle.relay_core.specs.Steps.{IsStuck}
use Rattle.relay_core.specs.Returns.{is_clear}
use Rattle.memory_lease.proofs.Rest.{AddsNothing, at_terminate_adds, service_same, short_stops, stopped_adds}

-- ---- nothing is on its way

and_parts : (a b : Bool) → (a && b) ≡ true → (a ≡ true) × (b ≡ true)
and_parts true b e = (refl, e)
and_parts false b e = absurd (false≢true e)

not_true : (a : Bool) → not a ≡ true → a ≡ false
not_true true e = absurd (false≢true e)
not_true false e = refl

pub record Clear (v : RelayView) : Type 0 where
  pub there : v.greeting ++ (v.to_client.held ++ v.to_client.part) ≡ []
  pub held : v.to_link.held ≡ []
  pub lawful : is_faulty v.to_link.ends ≡ false

pub clear_is : (v : RelayView) → is_clear v ≡ true → Clear v
clear_is v e =
    let a = and_parts (is_quiet v && is_empty v.to_client.part) (is_empty v.to_link.held && not (is_faulty v.to_link.ends)) e in
    let b = and_parts (is_quiet v) (is_empty v.to_client.part) a.0 in
    let c = and_parts (is_empty v.greeting) (is_empty v.to_client.held) b.0 in
    let d = and_parts (is_empty v.to_link.held) (not (is_faulty v.to_link.ends)) a.1 in
    record {
      there = rw (empty_is v.greeting c.0, empty_is v.to_client.held c.1, empty_is v.to_client.part b.1) refl;
      held = empty_is v.to_link.held d.0;
      lawful = not_true (is_faulty v.to_link.ends) d.1;
    }

-- ---- what is left of the client's bytes

-- They are those that went on and some more, which add nothing: there are none, or they stand at a border.
record Left (went tail bytes : List ℕ) : Type 0 where
  pub rest : List ℕ
  pub whole : bytes ≡ (went ++ tail) ++ rest
  pub nothing : (rest ≡ []) ⊎ ((tail ≡ []) × AddsNothing rest)

-- bytes behind others
behind : (a b : List ℕ) → AreBytes (a ++ b) → AreBytes b
behind [] b h = h
behind (x ∷ a) b h = behind a b (λ i. h (suc i))

-- all of them were taken
all_left : (limit : ℕ) (went tail part bytes : List ℕ) (rest : ℕ) → bytes ≡ went ++ (tail ++ part) → (rest ≡ 0 → tail ≡ []) → (rest ≡ 0 → is_stuck Client (front Client limit part) part ≡ true) → (0 < rest → part ≡ []) → Left went tail bytes
all_left limit went tail part bytes zero e t s n = record {
  rest = part;
  whole = e ∙ sym (append_assoc went tail part);
  nothing = inr (t refl, stopped_adds part (short_stops limit part (s refl)));
}
all_left limit went tail part bytes (suc r) e t s n = record {
  rest = part;
  whole = e ∙ sym (append_assoc went tail part);
  nothing = inl (n (omega arith));
}

-- a Terminate stands next, or a part of one
last_left : (limit : ℕ) (went tail part bytes : List ℕ) → AreBytes bytes → Begins (went ++ (tail ++ part)) bytes → tail ≡ [] → AtTerminate Client limit part → Left went tail bytes
last_left limit went tail part bytes fit b t x =
    let whole : bytes ≡ (went ++ tail) ++ (part ++ b.more) = sym b.both ∙ (ap (λ (l : List ℕ). l ++ b.more) (sym (append_assoc went tail part)) ∙ append_assoc (went ++ tail) part b.more) in
    record {
      rest = part ++ b.more;
      whole = whole;
      nothing = inr (t, at_terminate_adds limit part b.more (behind (went ++ tail) (part ++ b.more) (subst AreBytes whole fit)) x);
    }

left_by : (e : Ends) (limit : ℕ) (went tail part bytes : List ℕ) (rest : ℕ) → is_faulty e ≡ false → IsEndedBy e Client limit part rest → (is_open e ≡ true → (rest ≡ 0 → is_stuck Client (front Client limit part) part ≡ true) × (0 < rest → part ≡ []))
    → AreBytes bytes → Begins (went ++ (tail ++ part)) bytes → (rest ≡ 0 → tail ≡ []) → (bytes ≡ went ++ (tail ++ part)) ⊎ (e ≡ Last) → Left went tail bytes
left_by Open limit went tail part bytes rest n d s fit b t (inl e) = all_left limit went tail part bytes rest e t (s refl).0 (s refl).1
left_by Open limit went tail part bytes rest n d s fit b t (inr e) = absurd cc
left_by Last limit went tail part bytes rest n d s fit b t x = last_left limit went tail part bytes fit b (t d.0) d.1
left_by (Faulty fault) limit went tail part bytes rest n d s fit b t x = absurd (true≢false n)

-- ---- the whole answer

longer : (limit : ℕ) (fs : List FrameOf) → limit ≤ MAX_FRAME → AllByRecursion (IsForwarded limit) fs → AllByRecursion (IsFrame Client MAX_FRAME) fs
longer limit [] l h = tt
longer limit (f ∷ fs) l h = (h.0.sent.whole, longer limit fs l h.1)

same_service : (cat : CatalogueOf) (key : StartKeyOf) (pid secret : ℕ) (fs : List FrameOf) (tail bytes : List ℕ) → AllByRecursion (IsFrame Client MAX_FRAME) fs → Left (flat_map spelling fs) tail bytes
    → service cat key pid secret [] (flat_map spelling fs ++ tail) ≡ service cat key pid secret [] bytes
same_service cat key pid secret fs tail bytes each x = by x.nothing
  where
    by : (x.rest ≡ []) ⊎ ((tail ≡ []) × AddsNothing x.rest) → service cat key pid secret [] (flat_map spelling fs ++ tail) ≡ service cat key pid secret [] bytes
    by (inl e) = ap (service cat key pid secret []) (sym (append-nil (flat_map spelling fs ++ tail)) ∙ (ap (λ (r : List ℕ). (flat_map spelling fs ++ tail) ++ r) (sym e) ∙ sym x.whole))
    by (inr y) =
        let front : flat_map spelling fs ++ tail ≡ flat_map spelling fs = ap (λ (t : List ℕ). flat_map spelling fs ++ t) y.0 ∙ append-nil (flat_map spelling fs) in
        ap (service cat key pid secret []) front
        ∙ (sym (service_same cat key pid secret [] fs x.rest each y.1) ∙ (ap (λ (f : List ℕ). service cat key pid secret [] (f ++ x.rest)) (sym front) ∙ ap (service cat key pid secret []) (sym x.whole)))

-- at its end the client was done: what it gave is all of its bytes, or a Terminate stands next
pub record IsOver (bytes : List ℕ) (v : RelayView) : Type 0 where
  pub taken : (some : List ℕ) → v.client.taken ≡ some → Begins some bytes
  pub all : ((some : List ℕ) → v.client.taken ≡ some → some ≡ bytes) ⊎ (v.to_link.ends ≡ Last)

all_or_last : {A : Type 0} {P : List ℕ → Type 0} (bytes some : List ℕ) → P some → ((s : List ℕ) → P s → s ≡ bytes) ⊎ A → (bytes ≡ some) ⊎ A
all_or_last bytes some p (inl f) = inl (sym (f some p))
all_or_last bytes some p (inr a) = inr a

pub all_given : (p : Place) (v : RelayView) (bytes : List ℕ) → IsLease p v → v.client.tells ≡ true → v.link.follows ≡ true → v.link.lives ≡ true → p.stands.server.strikable ≡ false → p.taken ≡ [] → AreBytes bytes → Clear v → IsStuck v.to_link → future v.link [] ≡ [] → IsOver bytes v
    → (e : IsRelayExact p v) × (e.since ≡ service p.stands.server.catalogue v.key v.word.pid v.word.secret [] bytes)
all_given p v bytes x t f l sp n fit c stuck silent over =
    let e : IsRelayExact p v = lease_exact p v x t f l in
    let fs : List ℕ = flat_map spelling e.forwarded in
    let side : v.to_link.side ≡ Client = x.goes.flow.side_is in
    let took : v.client.taken ≡ fs ++ (e.tail ++ v.to_link.part) = e.taken ∙ ap (λ (a : List ℕ). a ++ (fs ++ (e.tail ++ v.to_link.part))) n in
    let left : Left fs e.tail bytes =
    left_by v.to_link.ends v.to_link.limit fs e.tail v.to_link.part bytes v.to_link.rest c.lawful (subst (λ (s : Side). IsEndedBy v.to_link.ends s v.to_link.limit v.to_link.part v.to_link.rest) side x.goes.flow.ended)
    (λ o. (λ z. ap (λ (s : Side). is_stuck s (front s v.to_link.limit v.to_link.part) v.to_link.part) (sym side) ∙ (stuck o).border z, (stuck o).inside))
    fit (over.taken _ took) e.opens.border (all_or_last bytes (fs ++ (e.tail ++ v.to_link.part)) took over.all) in
    let none : future v.link v.to_link.held ≡ [] = ap (future v.link) c.held ∙ silent in
    let given : (e.since ++ (v.greeting ++ (v.to_client.held ++ v.to_client.part))) ++ future v.link v.to_link.held ≡ e.since = ap₂ (λ (a b : List ℕ). (e.since ++ a) ++ b) c.there none ∙ (append-nil (e.since ++ []) ∙ append-nil e.since) in (
      e,
      sym given ∙ (e.equation ∙ (spared_service p v x (sym x.moves.follows ∙ f) sp p.stands.server.catalogue v.key v.word.pid v.word.secret (flat_map spelling e.forwarded ++ e.tail) ∙ same_service p.stands.server.catalogue v.key v.word.pid v.word.secret e.forwarded e.tail bytes (longer v.to_link.limit e.forwarded x.goes.flow.high e.went) left)),
    )
