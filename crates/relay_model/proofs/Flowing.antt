-- Lists and flows that a lease has, as moves of bytes leave them.
use Rattle.std.proofs.Common.{◌≡◌, ℕ, ◌+◌, ◌≤◌, length, arith, true, List, [], ◌∷◌, ◌++◌, refl, sym, ap, ◌∙◌, append_assoc, subst, drop, ◌-◌, length-drop, drop-drop, eqb-true}
use Rattle.std.specs.List.{AllByRecursion}
use Rattle.std.proofs.lemmas.Bool.{false≢true}
use Rattle.frame_view.specs.declared.Side.{Side}
use Rattle.frame_view.specs.Frames.{FrameOf}
use Rattle.link_run.specs.declared.Moved.{Moved}
use Rattle.link_run.specs.declared.Moved.TheVariants.{Count, NotNow, Ended, Fault}
use Rattle.link_run.specs.Moves.{IsWithin}
use Rattle.relay_flow.specs.Parts.{Opens}
use Rattle.relay_flow.specs.declared.flow.Ends.{Ends}
use Rattle.relay_flow.specs.declared.flow.Ends.TheVariants.{Open, Last, Faulty}
use Rattle.relay_flow.specs.Flows.{FlowView, SameCursor, count_of, Stays, IsEndedBy, is_open, is_empty}
use Rattle.relay_model.specs.Leases.{IsForwarded, IsFlow}

-- ---- flows

ended_open : (e : Ends) (s : Side) (l : ℕ) (p : List ℕ) (r : ℕ) → is_open e ≡ true → IsEndedBy e s l p r
ended_open Open s l p r h = tt
ended_open Last s l p r h = absurd (false≢true h)
ended_open (Faulty f) s l p r h = absurd (false≢true h)

pub flow_open : (s : Side) (a b : FlowView) → b.side ≡ a.side → b.limit ≡ a.limit → b.ends ≡ a.ends → is_open a.ends ≡ true → IsFlow s a → IsFlow s b
flow_open s a b d m e h x = record { side_is = d ∙ x.side_is; low = rw m x.low; high = rw m x.high; ended = ended_open b.ends b.side b.limit b.part b.rest (ap is_open e ∙ h) }

pub flow_same : (s : Side) (a b : FlowView) → SameCursor a b → b.part ≡ a.part → IsFlow s a → IsFlow s b
flow_same s a b q p x = record { side_is = q.side ∙ x.side_is; low = rw q.limit x.low; high = rw q.limit x.high; ended = rw (q.ends, q.side, q.limit, p, q.rest) x.ended }

pub flow_stays : (s : Side) (a b : FlowView) → Stays a b → IsFlow s a → IsFlow s b
flow_stays s a b y x = record { side_is = y.side ∙ x.side_is; low = rw y.limit x.low; high = rw y.limit x.high; ended = y.ended }

pub same_opens : (tail : List ℕ) (a b : FlowView) → SameCursor a b → Opens a.side a.limit tail a.kind a.rest → Opens b.side b.limit tail b.kind b.rest
same_opens tail a b q o = rw (q.side, q.limit, q.kind, q.rest) o

pub stay_opens : (tail : List ℕ) (a b : FlowView) → Stays a b → Opens a.side a.limit tail a.kind a.rest → Opens b.side b.limit tail b.kind b.rest
stay_opens tail a b q o = rw (q.side, q.limit, q.kind, q.rest) o

pub same_went : (fs : List FrameOf) (a b : ℕ) → b ≡ a → AllByRecursion (IsForwarded a) fs → AllByRecursion (IsForwarded b) fs
same_went fs a b e h = subst (λ (n : ℕ). AllByRecursion (IsForwarded n) fs) (sym e) h

pub no_opens : (f : FlowView) → f.rest ≡ 0 → Opens f.side f.limit [] f.kind f.rest
no_opens f e = record { border = λ z. refl; inside = λ z. absurd (omega (arith, z, e)) }

-- ---- lists

pub at_end : (a g h q r w v : List ℕ) → a ++ (g ++ (h ++ q)) ≡ w ++ v → a ++ (g ++ (h ++ (q ++ r))) ≡ w ++ (v ++ r)
at_end a g h q r w v e = cc (e, append_assoc h q r, append_assoc g (h ++ q) r, append_assoc a (g ++ (h ++ q)) r, append_assoc w v r)

pub empty_is : (bytes : List ℕ) → is_empty bytes ≡ true → bytes ≡ []
empty_is [] e = refl
empty_is (b ∷ bytes) e = absurd (omega (arith, eqb-true (length (b ∷ bytes)) 0 e))

count_within : (r : Moved) (n : ℕ) → IsWithin r n → count_of r ≤ n
count_within (Count k) n i = i.1
count_within NotNow n i = omega arith
count_within Ended n i = omega arith
count_within Fault n i = omega arith

pub greets_on : (h items : List ℕ) (g c : ℕ) (r : Moved) → h ≡ drop g items → c ≡ count_of r → IsWithin r (length h) → g ≤ length items → g + c ≤ length items
greets_on h items g c r e d i l =
    let a : count_of r ≤ length h = count_within r (length h) i in
    let b : length (drop g items) ≡ length items - g = length-drop g items in
    let z : length h ≡ length (drop g items) = ap length e in
    omega (arith, a, b, z, d, l)

pub drops_on : (items : List ℕ) (g c n : ℕ) → c ≡ n → drop (g + c) items ≡ drop n (drop g items)
drops_on items g c n e = rw e (sym (drop-drop n g items))
