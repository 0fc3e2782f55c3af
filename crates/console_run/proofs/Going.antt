-- A talk from one turn to a later one.
use Rattle.std.proofs.Common.{◌≡◌, ℕ, ◌+◌, ◌≤◌, Bool, List, [], ◌∷◌, ◌++◌, length, refl, sym, ap, ◌∙◌, subst, arith, append_assoc, append-nil, le_refl, le_trans, length-append}
use Rattle.std.proofs.lemmas.Grind.{flat_map-append}
use Rattle.std.specs.List.{flat_map}
use Rattle.frame_view.specs.Frames.{spelling}
use Rattle.link_model.specs.Standing.{ClientFacts}
use Rattle.console_core.specs.Messages.{response_to}
use Rattle.console_run.specs.Passing.{Pass, after_doing}
use Rattle.console_run.specs.Exchanges.{AreAnswered, Asker, Exchange, after_exchanges, asked_bytes, drops_after, drops_behind, told_bytes}
use Rattle.console_run.specs.Talks.{waits}
use Rattle.console_run.specs.Turns.{Goes, HasMoved, TalkView}

-- ---- exchanges, and then others

after_both : (xs ys : List Exchange) (p : Pass) → after_exchanges (xs ++ ys) p ≡ after_exchanges ys (after_exchanges xs p)
after_both [] ys p = refl
after_both (x ∷ xs) ys p = after_both xs ys (after_doing x.does p)

drops_both : (drops : Bool) (xs ys : List Exchange) → drops_behind drops (xs ++ ys) ≡ drops_behind (drops_behind drops xs) ys
drops_both drops [] ys = refl
drops_both drops (x ∷ xs) ys = drops_both (drops_after (response_to drops x.asks)) xs ys

answered_both : (s : Asker) (drops : Bool) (p : Pass) (xs ys : List Exchange) → AreAnswered s drops p xs → AreAnswered s (drops_behind drops xs) (after_exchanges xs p) ys → AreAnswered s drops p (xs ++ ys)
answered_both s drops p [] ys a b = b
answered_both s drops p (x ∷ xs) ys a b = (a.0, a.1, answered_both s (drops_after (response_to drops x.asks)) (after_doing x.does p) xs ys a.2 b)

asked_both : (xs ys : List Exchange) → asked_bytes (xs ++ ys) ≡ asked_bytes xs ++ asked_bytes ys
asked_both xs ys = flat_map-append (λ (x : Exchange). spelling x.asks) xs ys

told_both : (xs ys : List Exchange) → told_bytes (xs ++ ys) ≡ told_bytes xs ++ told_bytes ys
told_both xs ys = flat_map-append (λ (x : Exchange). flat_map spelling x.told) xs ys

-- ---- one turn, and then others

pub goes_none : (s : Asker) (v : TalkView) (p : Pass) → Goes s 0 v v p p
goes_none s v p = record {
  got = [];
  put = [];
  exchanges = [];
  tells = refl;
  taken = λ t. sym (append-nil v.client.taken);
  given = λ t. sym (append-nil v.client.given);
  heard = append-nil v.held;
  told = append-nil v.unwritten;
  answered = tt;
  drops = refl;
  pass = refl;
  faults = le_refl v.client.faults;
  counted = omega arith;
}

pub goes_moved : (s : Asker) (n : ℕ) (old new : TalkView) (p q : Pass) → HasMoved n old new → q ≡ p → Goes s n old new p q
goes_moved s n old new p q h e = record {
  got = h.got;
  put = h.put;
  exchanges = [];
  tells = h.tells;
  taken = h.taken;
  given = h.given;
  heard = sym h.held;
  told = append-nil old.unwritten ∙ h.unwritten;
  answered = tt;
  drops = h.drops;
  pass = e;
  faults = h.faults;
  counted = omega (arith, h.counted);
}

-- what was held and came is the messages of both parts, and what is held at the end
heard_both : (held one two mid last : List ℕ) (xs ys : List Exchange) → held ++ one ≡ asked_bytes xs ++ mid → mid ++ two ≡ asked_bytes ys ++ last → held ++ (one ++ two) ≡ asked_bytes (xs ++ ys) ++ last
heard_both held one two mid last xs ys e f =
    sym (append_assoc held one two)
    ∙ (ap (λ (l : List ℕ). l ++ two) e
    ∙ (append_assoc (asked_bytes xs) mid two
    ∙ (ap (λ (l : List ℕ). asked_bytes xs ++ l) f
    ∙ (sym (append_assoc (asked_bytes xs) (asked_bytes ys) last) ∙ ap (λ (l : List ℕ). l ++ last) (sym (asked_both xs ys))))))

said_both : (unwritten one two mid last : List ℕ) (xs ys : List Exchange) → unwritten ++ told_bytes xs ≡ one ++ mid → mid ++ told_bytes ys ≡ two ++ last → unwritten ++ told_bytes (xs ++ ys) ≡ (one ++ two) ++ last
said_both unwritten one two mid last xs ys e f =
    ap (λ (l : List ℕ). unwritten ++ l) (told_both xs ys)
    ∙ (sym (append_assoc unwritten (told_bytes xs) (told_bytes ys))
    ∙ (ap (λ (l : List ℕ). l ++ told_bytes ys) e
    ∙ (append_assoc one mid (told_bytes ys)
    ∙ (ap (λ (l : List ℕ). one ++ l) f ∙ sym (append_assoc one two last)))))

-- so many turns, and then so many
turns_both : (n m : ℕ) (c d e : ClientFacts) (got put got_then put_then : List ℕ) (xs ys : List Exchange) → n + waits c ≤ length got + length put + length xs + waits d → m + waits d ≤ length got_then + length put_then + length ys + waits e
    → (n + m) + waits c ≤ length (got ++ got_then) + length (put ++ put_then) + length (xs ++ ys) + waits e
turns_both n m c d e got put got_then put_then xs ys h i = omega (arith, h, i, length-append got got_then, length-append put put_then, length-append xs ys)

pub goes_further : (s : Asker) (n m : ℕ) (old mid new : TalkView) (p q r : Pass) → Goes s n old mid p q → Goes s m mid new q r → Goes s (n + m) old new p r
goes_further s n m old mid new p q r x y = record {
  got = x.got ++ y.got;
  put = x.put ++ y.put;
  exchanges = x.exchanges ++ y.exchanges;
  tells = y.tells ∙ x.tells;
  taken = λ t. y.taken (x.tells ∙ t) ∙ (ap (λ (l : List ℕ). l ++ y.got) (x.taken t) ∙ append_assoc old.client.taken x.got y.got);
  given = λ t. y.given (x.tells ∙ t) ∙ (ap (λ (l : List ℕ). l ++ y.put) (x.given t) ∙ append_assoc old.client.given x.put y.put);
  heard = heard_both old.held x.got y.got mid.held new.held x.exchanges y.exchanges x.heard y.heard;
  told = said_both old.unwritten x.put y.put mid.unwritten new.unwritten x.exchanges y.exchanges x.told y.told;
  answered = answered_both s old.drops p x.exchanges y.exchanges x.answered (subst (λ (d : Bool). AreAnswered s d (after_exchanges x.exchanges p) y.exchanges) x.drops (subst (λ (z : Pass). AreAnswered s mid.drops z y.exchanges) x.pass y.answered));
  drops = y.drops ∙ (ap (λ (d : Bool). drops_behind d y.exchanges) x.drops ∙ sym (drops_both old.drops x.exchanges y.exchanges));
  pass = y.pass ∙ (ap (λ (z : Pass). after_exchanges y.exchanges z) x.pass ∙ sym (after_both x.exchanges y.exchanges p));
  faults = le_trans x.faults y.faults;
  counted = turns_both n m old.client mid.client new.client x.got x.put y.got y.put x.exchanges y.exchanges x.counted y.counted;
}

-- fewer turns
pub goes_fewer : (s : Asker) (n : ℕ) (old new : TalkView) (p q : Pass) → Goes s n old new p q → Goes s 0 old new p q
goes_fewer s n old new p q x = record {
  got = x.got;
  put = x.put;
  exchanges = x.exchanges;
  tells = x.tells;
  taken = x.taken;
  given = x.given;
  heard = x.heard;
  told = x.told;
  answered = x.answered;
  drops = x.drops;
  pass = x.pass;
  faults = x.faults;
  counted = omega (arith, x.counted);
}
