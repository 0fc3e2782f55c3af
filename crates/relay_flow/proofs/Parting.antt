-- How far a cursor goes.
use Rattle.std.proofs.Common.{◌≡◌, ℕ, zero, suc, ◌+◌, ◌-◌, ◌<◌, ◌≤◌, ◌^◌, Bool, true, false, List, [], ◌∷◌, ◌++◌, length, take, refl, sym, ap, ap₂, ◌∙◌, arith, append_assoc, length-append, length-take-le, take_all, subst, IsTrue, eq-eqb}
use Rattle.std.specs.Prelude.{if◌then◌else◌, nat_lt, nat_le, not, ◌&&◌, ◌||◌, ◌==◌, slice_index, slice_range, Option, Some, None}
use Rattle.std.specs.Int.{w32, to_be_bytes}
use Rattle.std.proofs.lemmas.Bool.{true≢false, eqb-true, leb-true, leb-false, ltb-false, lt-ltb, le-ltb}
use Rattle.frame_view.specs.declared.Side.{Side}
use Rattle.frame_view.specs.declared.Side.TheVariants.{Server}
use Rattle.frame_view.specs.declared.FrameError.TheVariants.{UnknownType, TooShort, TooLong}
use Rattle.frame_view.specs.Frames.{AreBytes, FrameOf, is_type, Front, front, with_body, at_head, head_fault, number, Stops}
use Rattle.frame_view.proofs.FourBytes.{bytes-number, number-bytes}
use Rattle.frame_view.specs.declared.server.TheConstants.{READY_FOR_QUERY, PARAMETER_STATUS}
use Rattle.relay_flow.specs.declared.parts.Advance.{Advance}
use Rattle.relay_flow.specs.declared.parts.TheConstants.{READY_LENGTH, MAX_STATUS}
use Rattle.relay_flow.specs.Parts.{goes_whole, byte_in, status_in, is_foreign, is_foreign_in_parts, Begins, Opens, Spells, Advances}

abbrev advance : ℕ → ℕ → ℕ → Option ℕ → Bool → Advance
advance count kind rest status foreign = record { count = count; kind = kind; rest = rest; status = status; is_foreign = foreign }

abbrev a_frame : ℕ → List ℕ → FrameOf
a_frame k body = record { kind = k; body = body }

-- ---- what a frame that went on in parts tells

abbrev foreign_by : Bool → Bool → Bool → Bool → Bool
foreign_by a one c long = (a && not one) || (c && long)

not_one : (body : List ℕ) → (4 + length body == READY_LENGTH) ≡ false → byte_in body ≡ None
not_one [] e = refl
not_one (b ∷ []) e = absurd (true≢false e)
not_one (b ∷ c ∷ body) e = refl

one_by : (n : ℕ) (b c : Bool) → (n == 1) ≡ b → (4 + n == 5) ≡ c → b ≡ c
one_by n true true e f = refl
one_by n false false e f = refl
one_by n true false e f = absurd (true≢false (sym (eq-eqb (4 + n) 5 (omega (arith, eqb-true n 1 e))) ∙ f))
one_by n false true e f = absurd (true≢false (sym (eq-eqb n 1 (omega (arith, eqb-true (4 + n) 5 f))) ∙ e))

one_is : (n : ℕ) → (n == 1) ≡ (4 + n == 5)
one_is n = one_by n (n == 1) (4 + n == 5) refl refl

foreign_in_parts : (a one c long short : Bool) → long ≡ not short → ((a && one) || (c && short)) ≡ false → (a || c) ≡ foreign_by a one c long
foreign_in_parts true true c long short e h = absurd (true≢false h)
foreign_in_parts true false c long short e h = refl
foreign_in_parts false one true long true e h = absurd (true≢false h)
foreign_in_parts false one true long false e h = sym e
foreign_in_parts false one false long short e h = refl

long_is : (n : ℕ) (s : Bool) → nat_le (4 + n) (4 + MAX_STATUS) ≡ s → nat_lt MAX_STATUS n ≡ not s
long_is n true e = le-ltb MAX_STATUS n (omega (arith, leb-true (4 + n) (4 + MAX_STATUS) e))
long_is n false e = lt-ltb MAX_STATUS n (omega (arith, leb-false (4 + n) (4 + MAX_STATUS) e))

status_by : (a : Bool) (kind : ℕ) (body : List ℕ) → (kind == READY_FOR_QUERY) ≡ a → goes_whole Server kind (4 + length body) ≡ false → None ≡ (if a then byte_in body else None)
status_by false kind body e h = refl
status_by true kind body e h = sym (not_one body (one-false (4 + length body == READY_LENGTH) (kind == PARAMETER_STATUS && nat_le (4 + length body) (4 + MAX_STATUS)) (ap (λ (a : Bool). (a && (4 + length body == READY_LENGTH)) || (kind == PARAMETER_STATUS && nat_le (4 + length body) (4 + MAX_STATUS))) (sym e) ∙ h)))
  where
    one-false : (x y : Bool) → (x || y) ≡ false → x ≡ false
    one-false true y e = absurd (true≢false e)
    one-false false y e = refl

in_parts-status : (side : Side) (kind : ℕ) (body : List ℕ) → side ≡ Server → goes_whole side kind (4 + length body) ≡ false → None ≡ status_in (a_frame kind body)
in_parts-status side kind body e h = status_by (kind == READY_FOR_QUERY) kind body refl (ap (λ (s : Side). goes_whole s kind (4 + length body)) (sym e) ∙ h)

in_parts-foreign : (side : Side) (kind : ℕ) (body : List ℕ) → side ≡ Server → goes_whole side kind (4 + length body) ≡ false → is_foreign_in_parts side kind ≡ is_foreign (a_frame kind body)
in_parts-foreign side kind body e h =
    ap (λ (s : Side). is_foreign_in_parts s kind) e
    ∙ foreign_in_parts (kind == READY_FOR_QUERY) (4 + length body == READY_LENGTH) (kind == PARAMETER_STATUS) (nat_lt MAX_STATUS (length body)) (nat_le (4 + length body) (4 + MAX_STATUS)) (long_is (length body) (nat_le (4 + length body) (4 + MAX_STATUS)) refl) (ap (λ (s : Side). goes_whole s kind (4 + length body)) (sym e) ∙ h)
    ∙ ap (λ (b : Bool). foreign_by (kind == READY_FOR_QUERY) b (kind == PARAMETER_STATUS) (nat_lt MAX_STATUS (length body))) (sym (one_is (length body)))

-- ---- from inside a frame

-- the beginning of a frame, with bytes that follow
joined : (k l : ℕ) (tail body bytes : List ℕ) → tail ≡ k ∷ to_be_bytes w32 l ++ body → tail ++ bytes ≡ k ∷ to_be_bytes w32 l ++ (body ++ bytes)
joined k l tail body bytes e = ap (λ (t : List ℕ). t ++ bytes) e ∙ append_assoc (k ∷ to_be_bytes w32 l) body bytes

module _ (side : Side) (limit : ℕ) (part : List ℕ) (kind rest count : ℕ) (low : count ≤ rest) (within : count ≤ length part) where
  longer : (body : List ℕ) → length (body ++ take count part) ≡ length body + count
  longer body = length-append body (take count part) ∙ ap (λ (n : ℕ). length body + n) (length-take-le count part within)

  grown : (tail : List ℕ) → Begins side limit tail kind rest → 0 < rest - count → Begins side limit (tail ++ take count part) kind (rest - count)
  grown tail b h =
      let n : length (b.body ++ take count part) + (rest - count) ≡ length b.body + rest = omega (arith, longer b.body, low) in
      record {
        body = b.body ++ take count part;
        bytes = joined kind (4 + (length b.body + rest)) tail b.body (take count part) b.bytes ∙ ap (λ (l : ℕ). kind ∷ to_be_bytes w32 (4 + l) ++ (b.body ++ take count part)) (sym n);
        of_type = b.of_type;
        size = rw n b.size;
        in_parts = rw n b.in_parts;
      }

  ended : (tail : List ℕ) → Begins side limit tail kind rest → rest - count ≡ 0 → Spells side limit (tail ++ take count part) kind None (is_foreign_in_parts side kind)
  ended tail b h =
      let n : length (b.body ++ take count part) ≡ length b.body + rest = omega (arith, longer b.body, low, h) in
      record {
        frame = record { kind = kind; body = b.body ++ take count part };
        is_frame = record { of_type = b.of_type; size = rw n b.size };
        kind_is = refl;
        status_is = λ e. in_parts-status side kind (b.body ++ take count part) e (rw n b.in_parts);
        foreign_is = λ e. in_parts-foreign side kind (b.body ++ take count part) e (rw n b.in_parts);
        spelled = joined kind (4 + (length b.body + rest)) tail b.body (take count part) b.bytes ∙ ap (λ (l : ℕ). kind ∷ to_be_bytes w32 (4 + l) ++ (b.body ++ take count part)) (sym n);
      }

  at_once : side ≡ Server → kind ≡ PARAMETER_STATUS → is_foreign_in_parts side kind ≡ false → rest ≡ 0
  at_once s k e = absurd (true≢false (sym (ap₂ (λ (x : Side) (n : ℕ). is_foreign_in_parts x n) s k) ∙ e))

  pub body_advances : 0 < count → 0 < rest → Advances side limit part kind rest (advance count kind (rest - count) None (is_foreign_in_parts side kind))
  body_advances some h = record {
    some = some;
    within = within;
    at_once = at_once;
    opens = λ more tail o. record { border = λ e. absurd (omega (arith, more, e)); inside = λ _. grown tail (o.inside h) more };
    spells = λ e tail o. ended tail (o.inside h) e;
  }

  pub body_goes : (foreign : Bool) → foreign ≡ is_foreign_in_parts side kind → 0 < count → 0 < rest → Advances side limit part kind rest (advance count kind (rest - count) None foreign)
  body_goes foreign e some h = subst (λ (o : Bool). Advances side limit part kind rest (advance count kind (rest - count) None o)) (sym e) (body_advances some h)

-- ---- a head at a border

-- the front of bytes with this head
abbrev headed : Side → ℕ → ℕ → ℕ → List ℕ → Front
headed side limit kind len rest = with_body (at_head (head_fault side limit kind len) kind len rest)

-- a head's five bytes, and what follows them
pub record Heads (part : List ℕ) (kind len : ℕ) : Type 0 where
  pub a : ℕ
  pub b : ℕ
  pub c : ℕ
  pub d : ℕ
  pub rest : List ℕ
  pub is : part ≡ kind ∷ a ∷ b ∷ c ∷ d ∷ rest
  pub number_is : len ≡ number a b c d

pub heads : (part : List ℕ) (kind len : ℕ) → 5 ≤ length part → kind ≡ slice_index part 0 → len ≡ number (slice_index part 1) (slice_index part 2) (slice_index part 3) (slice_index part 4) → Heads part kind len
heads (k ∷ a ∷ b ∷ c ∷ d ∷ rest) kind len h e n = record { a = a; b = b; c = c; d = d; rest = rest; is = ap (λ (x : ℕ). x ∷ a ∷ b ∷ c ∷ d ∷ rest) (sym e); number_is = n }
heads [] kind len h e n = absurd (omega (arith, h))
heads (_ ∷ []) kind len h e n = absurd (omega (arith, h))
heads (_ ∷ _ ∷ []) kind len h e n = absurd (omega (arith, h))
heads (_ ∷ _ ∷ _ ∷ []) kind len h e n = absurd (omega (arith, h))
heads (_ ∷ _ ∷ _ ∷ _ ∷ []) kind len h e n = absurd (omega (arith, h))

-- a head without fault
record Lawful (side : Side) (limit kind len : ℕ) : Type 0 where
  of_type : IsTrue (is_type side kind)
  least : 4 ≤ len
  most : len ≤ limit

lawful_by : (side : Side) (limit kind len : ℕ) (t s l : Bool) → is_type side kind ≡ t → nat_lt len 4 ≡ s → nat_lt limit len ≡ l → (if t then (if s then Some TooShort else (if l then Some TooLong else None)) else Some UnknownType) ≡ None → Lawful side limit kind len
lawful_by side limit kind len true false false a b c e = record { of_type = a; least = ltb-false len 4 b; most = ltb-false limit len c }
lawful_by side limit kind len true false true a b c e = absurd cc
lawful_by side limit kind len true true l a b c e = absurd cc
lawful_by side limit kind len false s l a b c e = absurd cc

lawful : (side : Side) (limit kind len : ℕ) → head_fault side limit kind len ≡ None → Lawful side limit kind len
lawful side limit kind len e = lawful_by side limit kind len (is_type side kind) (nat_lt len 4) (nat_lt limit len) refl refl refl e

-- ---- a whole frame from a border

whole_spells : (side : Side) (limit k a b c d : ℕ) (rest : List ℕ) (len : ℕ) (status : Option ℕ) (foreign : Bool) → AreBytes (k ∷ a ∷ b ∷ c ∷ d ∷ rest) → Lawful side limit k len → len ≡ number a b c d → len + 1 ≤ length (k ∷ a ∷ b ∷ c ∷ d ∷ rest)
    → status ≡ status_in (a_frame k (take (len + 1 - 5) rest)) → foreign ≡ is_foreign (a_frame k (take (len + 1 - 5) rest)) → Spells side limit (take (len + 1) (k ∷ a ∷ b ∷ c ∷ d ∷ rest)) k status foreign
whole_spells side limit k a b c d rest len status foreign bytes x e w i j =
    let low : 4 ≤ len = x.least in
    let body : List ℕ = take (len + 1 - 5) rest in
    let l : length body ≡ len + 1 - 5 = length-take-le (len + 1 - 5) rest (omega (arith, w)) in
    let four : to_be_bytes w32 (4 + length body) ≡ a ∷ b ∷ c ∷ d ∷ [] = bytes-number (4 + length body) a b c d (omega (arith, l, low, e)) (bytes 1) (bytes 2) (bytes 3) (bytes 4) in
    let n : len + 1 ≡ suc (suc (suc (suc (suc (len + 1 - 5))))) = omega (arith, low) in
    record {
      frame = a_frame k body;
      is_frame = record { of_type = x.of_type; size = omega (arith, l, low, x.most) };
      kind_is = refl;
      status_is = λ _. i;
      foreign_is = λ _. j;
      spelled = ap (λ (m : ℕ). take m (k ∷ a ∷ b ∷ c ∷ d ∷ rest)) n ∙ ap (λ (t : List ℕ). k ∷ t ++ body) (sym four);
    }

whole_advances : (side : Side) (limit kind k a b c d : ℕ) (rest : List ℕ) (len : ℕ) (status : Option ℕ) (foreign : Bool) → AreBytes (k ∷ a ∷ b ∷ c ∷ d ∷ rest) → Lawful side limit k len → len ≡ number a b c d → len + 1 ≤ length (k ∷ a ∷ b ∷ c ∷ d ∷ rest)
    → status ≡ status_in (a_frame k (take (len + 1 - 5) rest)) → foreign ≡ is_foreign (a_frame k (take (len + 1 - 5) rest)) → Advances side limit (k ∷ a ∷ b ∷ c ∷ d ∷ rest) kind 0 (advance (len + 1) k 0 status foreign)
whole_advances side limit kind k a b c d rest len status foreign bytes x e w i j =
    let s = whole_spells side limit k a b c d rest len status foreign bytes x e w i j in
    record {
      some = omega arith;
      within = w;
      at_once = λ s k f. refl;
      opens = λ more tail o. absurd (omega (arith, more));
      spells = λ e tail o. subst (λ (t : List ℕ). Spells side limit (t ++ take (len + 1) (k ∷ a ∷ b ∷ c ∷ d ∷ rest)) k status foreign) (sym (o.border refl)) s;
    }

pub whole_goes : (side : Side) (limit : ℕ) (part : List ℕ) (kind k len : ℕ) (status : Option ℕ) (foreign : Bool) (h : Heads part k len) → AreBytes part → head_fault side limit k len ≡ None → len + 1 ≤ length part
    → status ≡ status_in (a_frame k (slice_range part 5 (len + 1))) → foreign ≡ is_foreign (a_frame k (slice_range part 5 (len + 1))) → Advances side limit part kind 0 (advance (len + 1) k 0 status foreign)
whole_goes side limit part kind k len status foreign h bytes e w i j =
    let P : List ℕ → Type 0 = λ p. AreBytes p → len + 1 ≤ length p → status ≡ status_in (a_frame k (slice_range p 5 (len + 1))) → foreign ≡ is_foreign (a_frame k (slice_range p 5 (len + 1))) → Advances side limit p kind 0 (advance (len + 1) k 0 status foreign) in
    let all : P (k ∷ h.a ∷ h.b ∷ h.c ∷ h.d ∷ h.rest) = λ bytes w i j. whole_advances side limit kind k h.a h.b h.c h.d h.rest len status foreign bytes (lawful side limit k len e) h.number_is w i j in
    subst P (sym h.is) all bytes w i j

-- ---- an unfinished frame from a border

record Lacking (side : Side) (limit kind len : ℕ) (rest : List ℕ) (m : ℕ) : Type 0 where
  of_type : IsTrue (is_type side kind)
  least : 4 ≤ len
  most : len ≤ limit
  lacks : length rest + m ≡ len - 4
  some : 0 < m

head_advances : (side : Side) (limit kind k a b c d : ℕ) (rest : List ℕ) (m : ℕ) → AreBytes (k ∷ a ∷ b ∷ c ∷ d ∷ rest) → Lacking side limit k (number a b c d) rest m → goes_whole side k (4 + (length rest + m)) ≡ false
    → Advances side limit (k ∷ a ∷ b ∷ c ∷ d ∷ rest) kind 0 (advance (length (k ∷ a ∷ b ∷ c ∷ d ∷ rest)) k m None false)
head_advances side limit kind k a b c d rest m bytes x g =
    let n : 4 + (length rest + m) ≡ number a b c d = omega (arith, x.lacks, x.least) in
    let four : to_be_bytes w32 (4 + (length rest + m)) ≡ a ∷ b ∷ c ∷ d ∷ [] = bytes-number (4 + (length rest + m)) a b c d n (bytes 1) (bytes 2) (bytes 3) (bytes 4) in
    let opened : Begins side limit (k ∷ a ∷ b ∷ c ∷ d ∷ rest) k m = record {
      body = rest;
      bytes = ap (λ (t : List ℕ). k ∷ t ++ rest) (sym four);
      of_type = x.of_type;
      size = omega (arith, n, x.most);
      in_parts = g;
    } in
    let all : take (length (k ∷ a ∷ b ∷ c ∷ d ∷ rest)) (k ∷ a ∷ b ∷ c ∷ d ∷ rest) ≡ k ∷ a ∷ b ∷ c ∷ d ∷ rest = take_all (length (k ∷ a ∷ b ∷ c ∷ d ∷ rest)) (k ∷ a ∷ b ∷ c ∷ d ∷ rest) (omega arith) in
    record {
      some = omega arith;
      within = omega arith;
      at_once = λ s k f. refl;
      opens = λ more tail o. record {
        border = λ e. absurd (omega (arith, more, e));
        inside = λ _. subst (λ (t : List ℕ). Begins side limit t k m) (ap₂ (λ (s t : List ℕ). s ++ t) (sym (o.border refl)) (sym all)) opened;
      };
      spells = λ e tail o. absurd (omega (arith, e, x.some));
    }

pub part_goes : (side : Side) (limit : ℕ) (part : List ℕ) (kind k len : ℕ) (h : Heads part k len) → AreBytes part → head_fault side limit k len ≡ None → length part < len + 1 → goes_whole side k (len + 1 - 1) ≡ false → Advances side limit part kind 0 (advance (length part) k (len + 1 - length part) None false)
part_goes side limit part kind k len h bytes e short g =
    let P : List ℕ → Type 0 = λ p. AreBytes p → length p < len + 1 → Advances side limit p kind 0 (advance (length p) k (len + 1 - length p) None false) in
    let all : P (k ∷ h.a ∷ h.b ∷ h.c ∷ h.d ∷ h.rest) = λ bytes short.
    let m : ℕ = len + 1 - length (k ∷ h.a ∷ h.b ∷ h.c ∷ h.d ∷ h.rest) in
    let x = lawful side limit k len e in
    let low : 4 ≤ len = x.least in
    let n : len + 1 - 1 ≡ 4 + (length h.rest + m) = omega (arith, short, low) in
    head_advances side limit kind k h.a h.b h.c h.d h.rest m bytes (record {
      of_type = x.of_type;
      least = omega (arith, low, h.number_is);
      most = omega (arith, x.most, h.number_is);
      lacks = omega (arith, short, low, h.number_is);
      some = omega (arith, short);
    }) (ap (goes_whole side k) (sym n) ∙ g) in
    subst P (sym h.is) all bytes short

-- ---- no whole frame stands at the front of one that went on in part

short_head : (side : Side) (limit kind len : ℕ) (body : List ℕ) → is_type side kind ≡ true → 4 ≤ len → len ≤ limit → length body < len - 4 → Stops (headed side limit kind len body)
short_head side limit kind len body t low high short =
    let a : nat_lt len 4 ≡ false = le-ltb len 4 low in
    let b : nat_lt limit len ≡ false = le-ltb limit len high in
    let c : nat_lt (length body) (len - 4) ≡ true = lt-ltb (length body) (len - 4) short in
    rw (t, a, b, c) tt

pub begins_stops : (side : Side) (limit most : ℕ) (tail : List ℕ) (kind rest : ℕ) → limit ≤ most → most < 2 ^ 32 → 0 < rest → Begins side limit tail kind rest → Stops (front side most tail)
begins_stops side limit most tail kind rest low high some b =
    let len : ℕ = 4 + (length b.body + rest) in
    let fits : len ≤ limit = b.size in
    let n-is = number-bytes len (omega (arith, fits, low, high)) in
    let s : Stops (headed side most kind len b.body) = short_head side most kind len b.body b.of_type (omega arith) (omega (arith, fits, low)) (omega (arith, some)) in
    subst (λ (t : List ℕ). Stops (front side most t)) (sym b.bytes) (subst (λ (n : ℕ). Stops (headed side most kind n b.body)) (sym n-is) s)

pub opens_stops : (side : Side) (limit most : ℕ) (tail : List ℕ) (kind rest : ℕ) → limit ≤ most → most < 2 ^ 32 → Opens side limit tail kind rest → Stops (front side most tail)
opens_stops side limit most tail kind rest low high o = by rest refl
  where
    by : (n : ℕ) → n ≡ rest → Stops (front side most tail)
    by zero e = subst (λ (t : List ℕ). Stops (front side most t)) (sym (o.border (sym e))) tt
    by (suc n) e = begins_stops side limit most tail kind rest low high (omega (arith, e)) (o.inside (omega (arith, e)))
