-- The moves of a stand-in server in memory.
use Rattle.std.proofs.Common.{◌≡◌, ℕ, ◌≤◌, Bool, true, false, Option, Some, None, List, [], ◌++◌, take, drop, refl, sym, ap, ◌∙◌, append-nil, arith, subst, take-append-drop}
use Rattle.std.proofs.lemmas.Bool.{true≢false}
use Rattle.link_model.specs.Standing.{Standing, Served, Moves, marks_since}
use Rattle.link_model.proofs.Both.{moves_both, none_since, since_is}
use Rattle.server_end.specs.declared.Moved.{Moved}
use Rattle.server_end.specs.declared.Moved.TheVariants.{Fault}
use Rattle.memory_ends.specs.declared.dialogue.Dialogue.{Dialogue}
use Rattle.memory_ends.specs.Dialogues.{standing_of, server_of, Serves}
use Rattle.server_end.specs.Moves.{moved}
use Rattle.memory_ends.specs.Servers.{KeepsServer, Faults, at_most}

-- a move of a server that lived before it
pub moves_alive : (a b : Standing) (put got : List ℕ) (ms : List Bool) → a.lives ≡ true → b.follows ≡ a.follows → b.server ≡ a.server → b.accepted ≡ a.accepted ++ put → b.given ≡ a.given ++ got → b.struck ≡ a.struck ++ ms → Served a put ms b got → Moves a put b got
moves_alive a b put got ms l f v c h n y =
    let e : ms ≡ marks_since a b = sym (since_is a b ms n) in
    let x : Served a put (marks_since a b) b got = subst (λ (ns : List Bool). Served a put ns b got) e y in
    record {
      follows = f;
      server = v;
      dead = λ d. absurd (true≢false (sym l ∙ d));
      silent = λ d. absurd (true≢false (sym l ∙ d));
      accepted = c;
      given = h;
      noted = n ∙ ap (λ (ns : List Bool). a.struck ++ ns) e;
      unstruck = λ d. absurd (true≢false (sym l ∙ d));
      served = λ w u. x;
      passed = λ w u. record { taken = x.taken; lawful = x.lawful; marks_are = x.marks_are; left = b.inbox; lost = b.outbox; inbox = x.inbox; outbox = x.outbox };
    }

-- a server gives bytes of its outbox
pub moves_out : (d e : Dialogue) (l m : Bool) (acc gave gives : List ℕ) (ms : List Bool) (f w g u n : ℕ) (old : Standing) (got : List ℕ) → standing_of d l acc gave ms f w ≡ old → old.lives ≡ true → e.host ≡ d.host → e.progress ≡ d.progress → e.inbox ≡ d.inbox
    → e.outbox.items ≡ drop n d.outbox.items → got ≡ take n d.outbox.items → gives ≡ gave ++ got → Moves old [] (standing_of e m acc gives ms g u) got
moves_out d e l m acc gave gives ms f w g u n old got view lives h p i o c more =
    let a : Standing = standing_of d l acc gave ms f w in
    let b : Standing = standing_of e m acc gives ms g u in
    subst (λ (x : Standing). Moves x [] b got) view (moves_alive a b [] got [] (ap (λ (x : Standing). x.lives) view ∙ lives) refl (ap server_of h) (sym (append-nil acc)) more (sym (append-nil ms)) (record {
      taken = [];
      lawful = tt;
      marks_are = refl;
      inbox = append-nil d.inbox.items ∙ ap (λ x. x.items) (sym i);
      stage = rw (h, p) refl;
      outbox = append-nil d.outbox.items ∙ rw (c, o) (sym (take-append-drop n d.outbox.items));
    }))

-- packets were taken, and their strikes noted
pub moves_serve : (d e : Dialogue) (l : Bool) (acc gave : List ℕ) (ms ns ts : List Bool) (f w : ℕ) (old : Standing) → standing_of d l acc gave ms f w ≡ old → old.lives ≡ true → e.host ≡ d.host → ns ≡ ms ++ ts → Serves d ts e → Moves old [] (standing_of e l acc gave ns f w) []
moves_serve d e l acc gave ms ns ts f w old view lives h n x =
    let a : Standing = standing_of d l acc gave ms f w in
    let b : Standing = standing_of e l acc gave ns f w in
    subst (λ (y : Standing). Moves y [] b []) view (moves_alive a b [] [] ts (ap (λ (y : Standing). y.lives) view ∙ lives) refl (ap server_of h) (sym (append-nil acc)) (sym (append-nil gave)) n (record {
      taken = x.taken;
      lawful = x.lawful;
      marks_are = x.marks_are;
      inbox = x.inbox;
      stage = x.stage;
      outbox = x.outbox;
    }))

-- a server dies
pub moves_die : (a b : Standing) → KeepsServer a b → b.lives ≡ false → Moves a [] b []
moves_die a b k d = record {
  follows = k.follows;
  server = k.server;
  dead = λ w. d;
  silent = λ w. (refl, refl);
  accepted = k.accepted ∙ sym (append-nil a.accepted);
  given = k.given ∙ sym (append-nil a.given);
  noted = k.struck ∙ sym (append-nil a.struck) ∙ ap (λ (ns : List Bool). a.struck ++ ns) (sym (none_since a b k.struck));
  unstruck = λ w. k.struck;
  served = λ w l. absurd (true≢false (sym l ∙ d));
  passed = λ w l. record { taken = []; lawful = tt; marks_are = sym (none_since a b k.struck); left = a.inbox; lost = a.outbox; inbox = append-nil a.inbox; outbox = append-nil a.outbox };
}

kept_both : (a b c : Standing) → KeepsServer a b → KeepsServer b c → KeepsServer a c
kept_both a b c x y = record { follows = y.follows ∙ x.follows; server = y.server ∙ x.server; accepted = y.accepted ∙ x.accepted; given = y.given ∙ x.given; struck = y.struck ∙ x.struck }

-- after it was half done, a call comes to a fault
pub moves_fault : (a b c : Standing) (m : Moved) (bytes : List ℕ) → m ≡ Fault → KeepsServer a b → Faults b c → Moves a [] c (moved m bytes)
moves_fault a b c m bytes e k f = subst (λ (x : Moved). Moves a [] c (moved x bytes)) (sym e) (moves_die a c (kept_both a b c k f.kept) f.lives)

-- ---- a read after the packets were taken

pub at_most_within : (left : Option ℕ) (n : ℕ) → at_most left n ≤ n
at_most_within (Some m) n = omega arith
at_most_within None n = omega arith

pub reads_both : (a b c : Standing) (got : List ℕ) → Moves a [] b [] → Moves b [] c got → Moves a [] c got
reads_both a b c got x y = moves_both a b c [] [] [] got x y
