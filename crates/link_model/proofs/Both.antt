-- One move after another.
use Rattle.std.proofs.Common.{◌≡◌, ℕ, Bool, true, false, List, [], ◌∷◌, ◌++◌, length, drop, refl, sym, ap, ap₂, ◌∙◌, append_assoc, append-nil, ⊎_elim, subst}
use Rattle.std.specs.Prelude.{◌&&◌, ◌||◌}
use Rattle.std.proofs.lemmas.Bool.{false≢true, true≢false, cases_Bool}
use Rattle.std.proofs.Math.Seq.{drop-append_seam}
use Rattle.std.specs.List.{flat_map}
use Rattle.std.proofs.lemmas.Grind.{flat_map-append}
use Rattle.frame_view.specs.Frames.{FrameOf, spelling}
use Rattle.session_run_laws.specs.Step.{has_mark, may_be_struck}
use Rattle.link_model.specs.Stages.{Server, Stage, Before, Asked, Open, Closed, Packet, Starts, Sends, packet_bytes, packets_bytes, packet_marks, packets_marks, serve, after, answers, MayTake, MayTakeAll}
use Rattle.link_model.specs.Standing.{Standing, Served, Passed, Moves, marks_since, SparedAreUnstruck}

pub packets-append : (ps qs : List Packet) → packets_bytes (ps ++ qs) ≡ packets_bytes ps ++ packets_bytes qs
packets-append ps qs = flat_map-append packet_bytes ps qs

pub marks-append : (ps qs : List Packet) → packets_marks (ps ++ qs) ≡ packets_marks ps ++ packets_marks qs
marks-append ps qs = flat_map-append packet_marks ps qs

both_marks : (ps qs : List Packet) (ms ns : List Bool) → packets_marks ps ≡ ms → packets_marks qs ≡ ns → packets_marks (ps ++ qs) ≡ ms ++ ns
both_marks ps qs ms ns d e = marks-append ps qs ∙ ap₂ (λ (x y : List Bool). x ++ y) d e

-- what was noted since
pub since_is : (old new : Standing) (marks : List Bool) → new.struck ≡ old.struck ++ marks → marks_since old new ≡ marks
since_is old new marks e = ap (drop (length old.struck)) e ∙ drop-append_seam old.struck marks

pub none_since : (old new : Standing) → new.struck ≡ old.struck → marks_since old new ≡ []
none_since old new e = since_is old new [] (e ∙ sym (append-nil old.struck))

abbrev IsNoted : Standing → Standing → Type 0
IsNoted old new = new.struck ≡ old.struck ++ marks_since old new

noted_as : (old new : Standing) (marks : List Bool) → new.struck ≡ old.struck ++ marks → IsNoted old new
noted_as old new marks e = e ∙ ap (λ (ms : List Bool). old.struck ++ ms) (sym (since_is old new marks e))

both_noted : (a b c : Standing) → IsNoted a b → IsNoted b c → c.struck ≡ a.struck ++ (marks_since a b ++ marks_since b c)
both_noted a b c x y = y ∙ ap (λ (ms : List Bool). ms ++ marks_since b c) x ∙ append_assoc a.struck (marks_since a b) (marks_since b c)

pub after-append : (v : Server) (s : Stage) (ps qs : List Packet) → after v s (ps ++ qs) ≡ after v (after v s ps) qs
after-append v s [] qs = refl
after-append v s (p ∷ ps) qs = after-append v (serve v s p).next ps qs

pub answers-append : (v : Server) (s : Stage) (ps qs : List Packet) → answers v s (ps ++ qs) ≡ answers v s ps ++ answers v (after v s ps) qs
answers-append v s [] qs = refl
answers-append v s (p ∷ ps) qs = rw (answers-append v (serve v s p).next ps qs) (sym (append_assoc (serve v s p).replies (answers v (serve v s p).next ps) (answers v (after v (serve v s p).next ps) qs)))

pub may_append : (v : Server) (s : Stage) (ps qs : List Packet) → MayTakeAll v s ps → MayTakeAll v (after v s ps) qs → MayTakeAll v s (ps ++ qs)
may_append v s [] qs h k = k
may_append v s (p ∷ ps) qs h k = (h.0, may_append v (serve v s p).next ps qs h.1 k)

pub joined_in : (ai p q bi ci t u tu : List ℕ) → tu ≡ t ++ u → ai ++ p ≡ t ++ bi → bi ++ q ≡ u ++ ci → ai ++ (p ++ q) ≡ tu ++ ci
joined_in ai p q bi ci t u tu d e f = cc (append_assoc ai p q, append_assoc t bi q, append_assoc t u ci)

pub joined_out : (ao a b ab g h bo co : List ℕ) → ab ≡ a ++ b → ao ++ a ≡ g ++ bo → bo ++ b ≡ h ++ co → ao ++ ab ≡ (g ++ h) ++ co
joined_out ao a b ab g h bo co d e f = cc (append_assoc ao a b, append_assoc g bo b, append_assoc g h co)

-- the bytes of the replies to two lists
bytes_of_both : (v w : Server) (s t : Stage) (ps qs : List Packet) → w ≡ v → t ≡ after v s ps → flat_map spelling (answers v s (ps ++ qs)) ≡ flat_map spelling (answers v s ps) ++ flat_map spelling (answers w t qs)
bytes_of_both v w s t ps qs d e =
    ap (flat_map spelling) (answers-append v s ps qs) ∙ flat_map-append spelling (answers v s ps) (answers v (after v s ps) qs)
    ∙ ap (λ (x : List FrameOf). flat_map spelling (answers v s ps) ++ flat_map spelling x) (sym (ap₂ (λ (x : Server) (y : Stage). answers x y qs) d e))

lawful_both : (v w : Server) (s t : Stage) (ps qs : List Packet) → w ≡ v → t ≡ after v s ps → MayTakeAll v s ps → MayTakeAll w t qs → MayTakeAll v s (ps ++ qs)
lawful_both v w s t ps qs d e h k = may_append v s ps qs h (subst (λ (x : Stage). MayTakeAll v x qs) e (subst (λ (x : Server). MayTakeAll x t qs) d k))

after_both : (v w : Server) (s t u : Stage) (ps qs : List Packet) → w ≡ v → t ≡ after v s ps → u ≡ after w t qs → u ≡ after v s (ps ++ qs)
after_both v w s t u ps qs d e f = f ∙ ap₂ (λ (x : Server) (y : Stage). after x y qs) d e ∙ sym (after-append v s ps qs)

pub served_both : (a b c : Standing) (p q g h : List ℕ) (ms ns : List Bool) → b.server ≡ a.server → Served a p ms b g → Served b q ns c h → Served a (p ++ q) (ms ++ ns) c (g ++ h)
served_both a b c p q g h ms ns v x y = record {
  marks_are = both_marks x.taken y.taken ms ns x.marks_are y.marks_are;
  taken = x.taken ++ y.taken;
  lawful = lawful_both a.server b.server a.stage b.stage x.taken y.taken v x.stage x.lawful y.lawful;
  inbox = joined_in a.inbox p q b.inbox c.inbox _ _ _ (packets-append x.taken y.taken) x.inbox y.inbox;
  stage = after_both a.server b.server a.stage b.stage c.stage x.taken y.taken v x.stage y.stage;
  outbox = joined_out a.outbox _ _ _ g h b.outbox c.outbox (bytes_of_both a.server b.server a.stage b.stage x.taken y.taken v x.stage) x.outbox y.outbox;
}

passed_both : (a b : Standing) (p q g h : List ℕ) (ms ns : List Bool) → b.server ≡ a.server → Served a p ms b g → Passed b q ns h → Passed a (p ++ q) (ms ++ ns) (g ++ h)
passed_both a b p q g h ms ns v x y = record {
  marks_are = both_marks x.taken y.taken ms ns x.marks_are y.marks_are;
  taken = x.taken ++ y.taken;
  lawful = lawful_both a.server b.server a.stage b.stage x.taken y.taken v x.stage x.lawful y.lawful;
  left = y.left;
  lost = y.lost;
  inbox = joined_in a.inbox p q b.inbox y.left _ _ _ (packets-append x.taken y.taken) x.inbox y.inbox;
  outbox = joined_out a.outbox _ _ _ g h b.outbox y.lost (bytes_of_both a.server b.server a.stage b.stage x.taken y.taken v x.stage) x.outbox y.outbox;
}

passed_only : (a : Standing) (p q g h : List ℕ) (ms ns : List Bool) → Passed a p ms g → (q ≡ []) × (h ≡ []) → ns ≡ [] → Passed a (p ++ q) (ms ++ ns) (g ++ h)
passed_only a p q g h ms ns x n m = rw (n.0, n.1, m, append-nil p, append-nil g, append-nil ms) x

pub lives_before : (a b : Standing) → (a.lives ≡ false → b.lives ≡ false) → b.lives ≡ true → a.lives ≡ true
lives_before a b d l = ⊎_elim (λ t. t) (λ f. absurd (false≢true (sym (d f) ∙ l))) (cases_Bool a.lives)

silent_both : (p q g h : List ℕ) → (p ≡ []) × (g ≡ []) → (q ≡ []) × (h ≡ []) → (p ++ q ≡ []) × (g ++ h ≡ [])
silent_both p q g h x y = (rw (x.0, y.0) refl, rw (x.1, y.1) refl)

pub moves_both : (a b c : Standing) (p q g h : List ℕ) → Moves a p b g → Moves b q c h → Moves a (p ++ q) c (g ++ h)
moves_both a b c p q g h x y =
    let n = both_noted a b c x.noted y.noted in
    let e : marks_since a b ++ marks_since b c ≡ marks_since a c = sym (since_is a c (marks_since a b ++ marks_since b c) n) in
    record {
      follows = y.follows ∙ x.follows;
      server = y.server ∙ x.server;
      dead = λ d. y.dead (x.dead d);
      silent = λ d. silent_both p q g h (x.silent d) (y.silent (x.dead d));
      accepted = cc (x.accepted, y.accepted, append_assoc a.accepted p q);
      given = cc (x.given, y.given, append_assoc a.given g h);
      noted = noted_as a c (marks_since a b ++ marks_since b c) n;
      unstruck = λ d. y.unstruck (x.dead d) ∙ x.unstruck d;
      served = λ f l. subst (λ (ms : List Bool). Served a (p ++ q) ms c (g ++ h)) e (served_both a b c p q g h (marks_since a b) (marks_since b c) x.server (x.served f (lives_before b c y.dead l)) (y.served (x.follows ∙ f) l));
      passed = λ f l. subst (λ (ms : List Bool). Passed a (p ++ q) ms (g ++ h)) e (⊎_elim
          (λ t. passed_both a b p q g h (marks_since a b) (marks_since b c) x.server (x.served f t) (y.passed (x.follows ∙ f) t))
          (λ d. passed_only a p q g h (marks_since a b) (marks_since b c) (x.passed f l) (y.silent d) (none_since b c (y.unstruck d)))
          (cases_Bool b.lives));
    }

-- no move at all
pub moves_none : (a : Standing) → Moves a [] a []
moves_none a = record {
  follows = refl;
  server = refl;
  dead = λ d. d;
  silent = λ d. (refl, refl);
  accepted = sym (append-nil a.accepted);
  given = sym (append-nil a.given);
  noted = noted_as a a [] (sym (append-nil a.struck));
  unstruck = λ d. refl;
  served = λ f l. record { taken = []; lawful = tt; marks_are = sym (none_since a a refl); inbox = append-nil a.inbox; stage = refl; outbox = append-nil a.outbox };
  passed = λ f l. record { taken = []; lawful = tt; marks_are = sym (none_since a a refl); left = a.inbox; lost = a.outbox; inbox = append-nil a.inbox; outbox = append-nil a.outbox };
}

pub moves_got : (a b c : Standing) (p g h : List ℕ) → Moves a p b g → Moves b [] c h → Moves a p c (g ++ h)
moves_got a b c p g h x y = subst (λ (q : List ℕ). Moves a q c (g ++ h)) (append-nil p) (moves_both a b c p [] g h x y)

pub moves_put : (a b c : Standing) (p q g : List ℕ) → Moves a p b g → Moves b q c [] → Moves a (p ++ q) c g
moves_put a b c p q g x y = subst (λ (h : List ℕ). Moves a (p ++ q) c h) (append-nil g) (moves_both a b c p q g [] x y)

-- ---- what no cancel reaches

not_struck : (v : Server) (s : Stage) (m : Bool) (f : FrameOf) → v.strikable ≡ false → MayTake v s (Sends m f) → m ≡ false
not_struck v (Before auth) m f e h = absurd h
not_struck v (Asked start answer rest) m f e h = h.1
not_struck v (Open s) true f e h = absurd (true≢false (sym (h.1 refl) ∙ ap (λ (b : Bool). b && may_be_struck s f) e))
not_struck v (Open s) false f e h = refl
not_struck v Closed m f e h = absurd h

pub spared_marks : (v : Server) (s : Stage) (ps : List Packet) → v.strikable ≡ false → MayTakeAll v s ps → has_mark (packets_marks ps) ≡ false
spared_marks v s [] e h = refl
spared_marks v s (Starts x ∷ ps) e h = spared_marks v (serve v s (Starts x)).next ps e h.1
spared_marks v s (Sends m f ∷ ps) e h = ap (λ (b : Bool). b || has_mark (packets_marks ps)) (not_struck v s m f e h.0) ∙ spared_marks v (serve v s (Sends m f)).next ps e h.1

pub spared-unstruck : SparedAreUnstruck
spared-unstruck old new put got m f e = ⊎_elim
    (λ lives. let x : Passed old put (marks_since old new) got = m.passed f lives in ap has_mark (sym x.marks_are) ∙ spared_marks old.server old.stage x.taken e x.lawful)
    (λ dead. ap has_mark (none_since old new (m.unstruck dead)))
    (cases_Bool old.lives)
