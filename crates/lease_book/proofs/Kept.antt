-- The decisions that are kept, after one more.
use Rattle.std.proofs.Common.{◌≡◌, ℕ, suc, ◌+◌, ◌≤◌, ◌<◌, find, List, [], ◌∷◌, ◌++◌, Bool, true, false, cond, length, map, refl, sym, ap, ◌∙◌, subst, arith, length-append}
use Rattle.std.proofs.lemmas.Bool.{le-ltb, ltb-true}
use Rattle.std.specs.Prelude.{◌&&◌, nat_lt, drop}
use Rattle.session_values.specs.State.{StartKeyOf}
use Rattle.book_model.specs.Book.{Book, is_link}
use Rattle.book_model.specs.Outcomes.{Answer, Event, apply, apply_return, is_started_as}
use Rattle.book_model.specs.Outcomes.Event.{GiveBack}
use Rattle.book_model.specs.declared.events.Reply.{Reply}
use Rattle.book_model.specs.Replay.{Decision, History, Replays, folded, is_decision, most_kept, noted, noted_of, replayed, replies}
use Rattle.book_register.proofs.Returning.{own_return, stray_return}
use Rattle.lease_book.specs.Histories.{LeadsTo, are_decisions}
use Rattle.lease_book.proofs.Decisions.{apply_raises, apply_stays, rises}

and_left : (a b : Bool) → (a && b) ≡ true → a ≡ true
and_left true b e = refl
and_left false b e = e

and_right : (a b : Bool) → (a && b) ≡ true → b ≡ true
and_right true b e = e
and_right false b e = cc

and_both : (a b : Bool) → a ≡ true → b ≡ true → (a && b) ≡ true
and_both a b p q = ap (λ x. x && b) p ∙ q

-- ---- one more at the end

replayed_push : (b : Book) (ds : List Decision) (d : Decision) → replayed b (ds ++ d ∷ []) ≡ (apply (replayed b ds) d.event).book
replayed_push b [] d = refl
replayed_push b (x ∷ ds) d = replayed_push (apply b x.event).book ds d

replies_push : (b : Book) (ds : List Decision) (d : Decision) → replies b (ds ++ d ∷ []) ≡ replies b ds ++ (apply (replayed b ds) d.event).reply ∷ []
replies_push b [] d = refl
replies_push b (x ∷ ds) d = ap (λ (l : List Reply). (apply b x.event).reply ∷ l) (replies_push (apply b x.event).book ds d)

told_push : (ds : List Decision) (d : Decision) → map (λ (e : Decision). e.reply) (ds ++ d ∷ []) ≡ map (λ (e : Decision). e.reply) ds ++ d.reply ∷ []
told_push [] d = refl
told_push (x ∷ ds) d = ap (λ (l : List Reply). x.reply ∷ l) (told_push ds d)

decide_push : (b : Book) (ds : List Decision) (d : Decision) → are_decisions b ds ≡ true → is_decision (replayed b ds) d.event ≡ true → are_decisions b (ds ++ d ∷ []) ≡ true
decide_push b [] d all is = and_both (is_decision b d.event) true is refl
decide_push b (x ∷ ds) d all is =
    let rest = decide_push (apply b x.event).book ds d (and_right (is_decision b x.event) _ all) is in
    and_both (is_decision b x.event) (are_decisions (apply b x.event).book (ds ++ d ∷ [])) (and_left (is_decision b x.event) _ all) rest

-- ---- the first goes into the base

tail_is : (x y : Reply) (xs ys : List Reply) → (x ∷ xs) ≡ (y ∷ ys) → xs ≡ ys
tail_is x y xs ys e = ap (drop 1) e

-- all but the count
record Leads (h : History) (lists : Book) : Type 0 where
  pub replays : Replays h.base h.kept lists
  pub decide : are_decisions h.base h.kept ≡ true

leads_folded : (base : Book) (ds : List Decision) (lists : Book) → Leads (record { base = base; kept = ds }) lists → Leads (folded base ds) lists
leads_folded base [] lists l = l
leads_folded base (d ∷ ds) lists l = record {
  replays = record { lists_are = l.replays.lists_are; replies_are = tail_is (apply base d.event).reply d.reply (replies (apply base d.event).book ds) (map (λ (e : Decision). e.reply) ds) l.replays.replies_are };
  decide = and_right (is_decision base d.event) _ l.decide;
}

leads_pushed : (h : History) (lists : Book) (d : Decision) → LeadsTo h lists → is_decision lists d.event ≡ true → d.reply ≡ (apply lists d.event).reply → Leads (record { base = h.base; kept = h.kept ++ d ∷ [] }) (apply lists d.event).book
leads_pushed h lists d l is told =
    let at = l.replays.lists_are in
    record {
      replays = record {
        lists_are = replayed_push h.base h.kept d ∙ ap (λ (x : Book). (apply x d.event).book) at;
        replies_are = replies_push h.base h.kept d ∙ ap (λ (x : Book). replies h.base h.kept ++ (apply x d.event).reply ∷ []) at ∙ ap (λ (r : Reply). replies h.base h.kept ++ r ∷ []) (sym told) ∙ ap (λ (r : List Reply). r ++ d.reply ∷ []) l.replays.replies_are ∙ sym (told_push h.kept d);
      };
      decide = decide_push h.base h.kept d l.decide (subst (λ (x : Book). is_decision x d.event ≡ true) (sym at) is);
    }

few_folded : (base : Book) (ds : List Decision) → length ds ≤ suc most_kept → length (folded base ds).kept ≤ most_kept
few_folded base [] few = omega arith
few_folded base (d ∷ ds) few = omega (arith, few)

leads_noted_as : (h : History) (lists : Book) (d : Decision) (room : Bool) → nat_lt (length h.kept) most_kept ≡ room → length h.kept ≤ most_kept → Leads (record { base = h.base; kept = h.kept ++ d ∷ [] }) lists → LeadsTo (cond room (record { base = h.base; kept = h.kept ++ d ∷ [] }) (folded h.base (h.kept ++ d ∷ []))) lists
leads_noted_as h lists d true e few l = let is : length h.kept < most_kept = ltb-true (length h.kept) most_kept e in record { replays = l.replays; decide = l.decide; few = omega (arith, few, is, length-append h.kept (d ∷ [])) }
leads_noted_as h lists d false e few l =
    let f = leads_folded h.base (h.kept ++ d ∷ []) lists l in
    record { replays = f.replays; decide = f.decide; few = few_folded h.base (h.kept ++ d ∷ []) (omega (arith, few, length-append h.kept (d ∷ []))) }

leads_noted : (h : History) (lists : Book) (d : Decision) → LeadsTo h lists → is_decision lists d.event ≡ true → d.reply ≡ (apply lists d.event).reply → LeadsTo (noted h d) (apply lists d.event).book
leads_noted h lists d l is told = leads_noted_as h (apply lists d.event).book d (nat_lt (length h.kept) most_kept) refl l.few (leads_pushed h lists d l is told)

-- ---- as the book goes on

leads_noted_of : (h : History) (lists : Book) (pass : ℕ) (e : Event) → LeadsTo h lists → LeadsTo (noted_of lists pass e h) (apply lists e).book
leads_noted_of h lists pass e l = by_case (is_decision lists e) refl
  where
    d : Decision
    d = record { pass = pass; event = e; reply = (apply lists e).reply }

    by_case : (is : Bool) → is_decision lists e ≡ is → LeadsTo (cond is (noted h d) h) (apply lists e).book
    by_case true is = leads_noted h lists d l is refl
    by_case false is = subst (LeadsTo h) (sym (apply_stays lists e is)) l

pub leads_on : (h n : History) (lists next : Book) (pass : ℕ) (e : Event) → LeadsTo h lists → next ≡ (apply lists e).book → n ≡ noted_of lists pass e h → LeadsTo n next
leads_on h n lists next pass e l is noted_is = subst (λ (x : History). LeadsTo x next) (sym noted_is) (subst (LeadsTo (noted_of lists pass e h)) (sym is) (leads_noted_of h lists pass e l))

-- an event is noted where the number of decisions rose
pub noted_on : (h n : History) (lists next : Book) (pass : ℕ) (e again : Event) (r : Reply) (rose : Bool) → next ≡ (apply lists e).book → r ≡ (apply lists e).reply → again ≡ e → rose ≡ nat_lt lists.decisions next.decisions → n ≡ cond rose (noted h (record { pass = pass; event = again; reply = r })) h → n ≡ noted_of lists pass e h
noted_on h n lists next pass e again r rose is told same more noted_is =
    let one : rose ≡ is_decision lists e = more ∙ ap (λ (x : Book). nat_lt lists.decisions x.decisions) is ∙ rises lists e in
    noted_is
    ∙ ap (λ (x : Event). cond rose (noted h (record { pass = pass; event = x; reply = r })) h) same
    ∙ ap (λ (x : Reply). cond rose (noted h (record { pass = pass; event = e; reply = x })) h) told
    ∙ ap (λ (x : Bool). cond x (noted h (record { pass = pass; event = e; reply = (apply lists e).reply })) h) one

-- ---- as a link comes back

none_rose : (b next : Book) (rose : Bool) → rose ≡ nat_lt b.decisions next.decisions → next ≡ b → rose ≡ false
none_rose b next rose more is = more ∙ ap (λ (x : Book). nat_lt b.decisions x.decisions) is ∙ le-ltb b.decisions b.decisions (omega arith)

pub noted_back : (h m : History) (b next : Book) (pass n : ℕ) (key : StartKeyOf) (started_at : ℕ) (r : Reply) (rose : Bool) → next ≡ (apply_return b n key started_at).book → r ≡ (apply_return b n key started_at).reply → rose ≡ nat_lt b.decisions next.decisions → m ≡ cond rose (noted h (record { pass = pass; event = GiveBack n; reply = r })) h
    → m ≡ cond (is_started_as key started_at (find (is_link n) b.lent)) (noted_of b pass (GiveBack n) h) h
noted_back h m b next pass n key started_at r rose is told more noted_is = by_own (is_started_as key started_at (find (is_link n) b.lent)) refl
  where
    by_own : (own : Bool) → is_started_as key started_at (find (is_link n) b.lent) ≡ own → m ≡ cond own (noted_of b pass (GiveBack n) h) h
    by_own true own =
        let same = own_return b n key started_at own in
        noted_on h m b next pass (GiveBack n) (GiveBack n) r rose (is ∙ ap (λ (a : Answer). a.book) same) (told ∙ ap (λ (a : Answer). a.reply) same) refl more noted_is
    by_own false stray = noted_is ∙ ap (λ (x : Bool). cond x (noted h (record { pass = pass; event = GiveBack n; reply = r })) h) (none_rose b next rose more (is ∙ stray_return b n key started_at stray))

pub leads_back : (h m : History) (b next : Book) (pass n : ℕ) (key : StartKeyOf) (started_at : ℕ) → LeadsTo h b → next ≡ (apply_return b n key started_at).book → m ≡ cond (is_started_as key started_at (find (is_link n) b.lent)) (noted_of b pass (GiveBack n) h) h → LeadsTo m next
leads_back h m b next pass n key started_at l is noted_is = by_own (is_started_as key started_at (find (is_link n) b.lent)) refl
  where
    by_own : (own : Bool) → is_started_as key started_at (find (is_link n) b.lent) ≡ own → LeadsTo m next
    by_own true own =
        let noted_so : m ≡ noted_of b pass (GiveBack n) h = noted_is ∙ ap (λ (x : Bool). cond x (noted_of b pass (GiveBack n) h) h) own in
        leads_on h m b next pass (GiveBack n) l (is ∙ ap (λ (a : Answer). a.book) (own_return b n key started_at own)) noted_so
    by_own false stray =
        let still : m ≡ h = noted_is ∙ ap (λ (x : Bool). cond x (noted_of b pass (GiveBack n) h) h) stray in
        subst (λ (x : History). LeadsTo x next) (sym still) (subst (LeadsTo h) (sym (is ∙ stray_return b n key started_at stray)) l)

-- ---- all decisions, those of the base and the kept ones

counted : (b : Book) (ds : List Decision) → are_decisions b ds ≡ true → (replayed b ds).decisions ≡ b.decisions + length ds
counted b [] all = omega arith
counted b (d ∷ ds) all =
    let rest = counted (apply b d.event).book ds (and_right (is_decision b d.event) _ all) in
    let one = apply_raises b d.event (and_left (is_decision b d.event) _ all) in
    omega (arith, rest, one)

pub all_counted : (h : History) (lists : Book) → LeadsTo h lists → h.base.decisions + length h.kept ≡ lists.decisions
all_counted h lists l = sym (counted h.base h.kept l.decide) ∙ ap (λ (x : Book). x.decisions) l.replays.lists_are
