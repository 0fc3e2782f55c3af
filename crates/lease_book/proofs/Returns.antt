-- A link that is given back.
use Rattle.std.proofs.Common.{◌≡◌, ℕ, suc, ◌<◌, List, [], ◌∷◌, ◌++◌, Bool, true, false, cond, Option, None, Some, length, map, refl, sym, ap, ◌∙◌, subst, arith, length-append}
use Rattle.std.specs.Prelude.{find, ◌==◌, ◌&&◌, ◌||◌}
use Rattle.std.proofs.lemmas.Bool.{eqb-true}
use Rattle.std.proofs.lemmas.List.{map-append}
use Rattle.message_view.specs.declared.refusal.Refusal.TheVariants.{LastDecision}
use Rattle.session_values.specs.State.{StartKeyOf}
use Rattle.start_keys.specs.Keys.{same_key}
use Rattle.start_keys.specs.SameKeys.{same_keys-one}
use Rattle.link_run.specs.Links.{LinkView}
use Rattle.book_model.specs.Book.{Book, Link, is_link}
use Rattle.book_model.specs.declared.limits.TheConstants.{MAX_LINKS}
use Rattle.book_model.specs.Outcomes.{Answer, apply, apply_return, decided, counted, gives_back, is_crowded, is_old, is_started_as, is_strange, kind_of, last_decision, loses}
use Rattle.book_model.specs.Outcomes.Event.{GiveBack}
use Rattle.book_model.specs.declared.counts.Kind.{Kind}
use Rattle.book_model.specs.declared.events.Reply.{Reply}
use Rattle.book_model.specs.declared.events.Reply.TheVariants.{Close, Done, Refuse, Stranger}
use Rattle.book_model.specs.Kept.{Kept}
use Rattle.lease_book.specs.Links.{HoldsLinks, Started, idle_with, handed_back, is_done, listed, may_hand_back, started}

pub same_number : (m n : ℕ) → (m == n) ≡ true → n ≡ m
same_number m n e = sym (eqb-true m n e)

-- ---- the link that is found is the one that was started so

abbrev is_it : ℕ → StartKeyOf → ℕ → Option Link → Type 0
is_it n key started_at None = ⊥
is_it n key started_at (Some l) = (is_link n l ≡ true) × ((same_key l.key key && l.started_at == started_at) ≡ true)

and_left : (a b : Bool) → (a && b) ≡ true → a ≡ true
and_left true b e = refl
and_left false b e = e

and_right : (a b : Bool) → (a && b) ≡ true → b ≡ true
and_right true b e = e
and_right false b e = cc

found_it : (n : ℕ) (key : StartKeyOf) (started_at : ℕ) (ls : List Link) → is_started_as key started_at (find (is_link n) ls) ≡ true → is_it n key started_at (find (is_link n) ls)
found_it n key started_at [] own = cc
found_it n key started_at (l ∷ ls) own = at (is_link n l) refl own (found_it n key started_at ls)
  where
    at : (b : Bool) → is_link n l ≡ b → is_started_as key started_at (cond b (Some l) (find (is_link n) ls)) ≡ true → (is_started_as key started_at (find (is_link n) ls) ≡ true → is_it n key started_at (find (is_link n) ls)) → is_it n key started_at (cond b (Some l) (find (is_link n) ls))
    at true is own later = (is, own)
    at false is own later = later own

listed_is : (n : ℕ) (key : StartKeyOf) (started_at : ℕ) (l : Link) → is_link n l ≡ true → (same_key l.key key && l.started_at == started_at) ≡ true → listed l ≡ record { number = n; key = key; started_at = started_at }
listed_is n key started_at l e both =
    let number : l.number ≡ n = eqb-true l.number n e in
    let its_key : l.key ≡ key = (same_keys-one l.key key).0 (and_left (same_key l.key key) _ both) in
    let its_born : l.started_at ≡ started_at = eqb-true l.started_at started_at (and_right (same_key l.key key) _ both) in
    λ i. record { number = number i; key = its_key i; started_at = its_born i }

-- ---- what becomes of the idle list

pub record Returned (b : Book) (n : ℕ) (key : StartKeyOf) (started_at : ℕ) (a : Answer) : Type 0 where
  pub kept : is_done a.reply ≡ true → map listed a.book.idle ≡ map listed b.idle ++ record { number = n; key = key; started_at = started_at } ∷ []
  pub stays : is_done a.reply ≡ false → a.book.idle ≡ b.idle
  pub hands_back : is_done a.reply ≡ false → may_hand_back n a.reply ≡ true

both : (Q : Answer → Type 0) (b : Bool) (x y : Answer) → Q x → Q y → Q (cond b x y)
both Q true x y p q = p
both Q false x y p q = q

returned_refused : (b : Book) (n : ℕ) (key : StartKeyOf) (started_at : ℕ) → Returned b n key started_at (record { book = b; reply = Refuse LastDecision })
returned_refused b n key started_at = record { kept = λ e. cc; stays = λ e. refl; hands_back = λ e. refl }

returned_strange : (b : Book) (n : ℕ) (key : StartKeyOf) (started_at : ℕ) → Returned b n key started_at (record { book = b; reply = Stranger })
returned_strange b n key started_at = record { kept = λ e. cc; stays = λ e. refl; hands_back = λ e. refl }

returned_gives : (b : Book) (n : ℕ) (key : StartKeyOf) (started_at : ℕ) (o : Option Link) → is_it n key started_at o → Returned b n key started_at (gives_back b o)
returned_gives b n key started_at None it = absurd it
returned_gives b n key started_at (Some l) it =
    let closed : Answer = record { book = loses b l.number; reply = Close l.number } in
    let done : Answer = record { book = record (loses b l.number) { idle = b.idle ++ record l { since = b.clock } ∷ [] }; reply = Done } in
    both (Returned b n key started_at) (is_old b l || is_crowded b l) closed done
    (record { kept = λ e. cc; stays = λ e. refl; hands_back = λ e. it.0 })
    (record { kept = λ e. map-append listed b.idle (record l { since = b.clock } ∷ []) ∙ ap (λ (s : Started). map listed b.idle ++ s ∷ []) (listed_is n key started_at l it.0 it.1); stays = λ e. cc; hands_back = λ e. cc })

counted_idle : (b : Book) (k : Option Kind) → (counted b k).idle ≡ b.idle
counted_idle b None = refl
counted_idle b (Some k) = refl

returned_decided : (b : Book) (n : ℕ) (key : StartKeyOf) (started_at : ℕ) (a : Answer) → Returned b n key started_at a → Returned b n key started_at (decided b (GiveBack n) a)
returned_decided b n key started_at a r =
    let same = counted_idle a.book (kind_of b (GiveBack n) a.reply) in
    record { kept = λ e. ap (map listed) same ∙ r.kept e; stays = λ e. same ∙ r.stays e; hands_back = r.hands_back }

returned_apply : (b : Book) (n : ℕ) (key : StartKeyOf) (started_at : ℕ) → is_started_as key started_at (find (is_link n) b.lent) ≡ true → Returned b n key started_at (apply b (GiveBack n))
unfolding apply
returned_apply b n key started_at own =
    both (Returned b n key started_at) (b.decisions == last_decision) _ _ (returned_refused b n key started_at)
    (both (Returned b n key started_at) (is_strange b (GiveBack n)) _ _ (returned_strange b n key started_at)
    (returned_decided b n key started_at (gives_back b (find (is_link n) b.lent)) (returned_gives b n key started_at (find (is_link n) b.lent) (found_it n key started_at b.lent own))))

returned_own : (b : Book) (n : ℕ) (key : StartKeyOf) (started_at : ℕ) (own : Bool) → is_started_as key started_at (find (is_link n) b.lent) ≡ own → Returned b n key started_at (cond own (apply b (GiveBack n)) (record { book = b; reply = Stranger }))
returned_own b n key started_at true is = returned_apply b n key started_at is
returned_own b n key started_at false is = returned_strange b n key started_at

returned : (b : Book) (n : ℕ) (key : StartKeyOf) (started_at : ℕ) → Returned b n key started_at (apply_return b n key started_at)
unfolding apply_return
returned b n key started_at =
    both (Returned b n key started_at) (b.decisions == last_decision) _ _ (returned_refused b n key started_at) (returned_own b n key started_at (is_started_as key started_at (find (is_link n) b.lent)) refl)

-- ---- as the book goes on

pub may_be_handed : (idle : List LinkView) (b : Book) (l : LinkView) (told : Reply) → HoldsLinks idle b → told ≡ (apply_return b l.number l.key l.started_at).reply → is_done told ≡ false → may_hand_back l.number told ≡ true
may_be_handed idle b l told h is d =
    let r = returned b l.number l.key l.started_at in
    subst (λ (x : Reply). may_hand_back l.number x ≡ true) (sym is) (r.hands_back (subst (λ (x : Reply). is_done x ≡ false) is d))

pub still_holds : (idle : List LinkView) (b lists : Book) (l : LinkView) (told : Reply) → HoldsLinks idle b → lists ≡ (apply_return b l.number l.key l.started_at).book → told ≡ (apply_return b l.number l.key l.started_at).reply → is_done told ≡ false → (Kept b → Kept lists) → HoldsLinks idle lists
still_holds idle b lists l told h new is d room =
    let r = returned b l.number l.key l.started_at in
    record { same = h.same ∙ ap (map listed) (sym (ap (λ (x : Book). x.idle) new ∙ r.stays (subst (λ (x : Reply). is_done x ≡ false) is d))); kept = room h.kept }

pub holds_one_more : (idle next : List LinkView) (b lists : Book) (l : LinkView) (told : Reply) → HoldsLinks idle b → lists ≡ (apply_return b l.number l.key l.started_at).book → told ≡ (apply_return b l.number l.key l.started_at).reply → is_done told ≡ true → (Kept b → Kept lists) → next ≡ idle ++ l ∷ [] → HoldsLinks next lists
holds_one_more idle next b lists l told h new is d room n =
    let r = returned b l.number l.key l.started_at in
    let grown : map listed lists.idle ≡ map listed b.idle ++ started l ∷ [] = ap (λ (x : Book). map listed x.idle) new ∙ r.kept (subst (λ (x : Reply). is_done x ≡ true) is d) in
    record { same = ap (map started) n ∙ map-append started idle (l ∷ []) ∙ ap (λ (s : List Started). s ++ started l ∷ []) h.same ∙ sym grown; kept = room h.kept }

length_seen : {X : Type 0} (f : X → Started) (xs : List X) → length (map f xs) ≡ length xs
length_seen f [] = refl
length_seen f (x ∷ xs) = ap suc (length_seen f xs)

pub has_place : (idle : List LinkView) (b lists : Book) (l : LinkView) (told : Reply) → HoldsLinks idle b → lists ≡ (apply_return b l.number l.key l.started_at).book → told ≡ (apply_return b l.number l.key l.started_at).reply → is_done told ≡ true → (Kept b → Kept lists) → length idle < MAX_LINKS
has_place idle b lists l told h new is d room =
    let next = holds_one_more idle (idle ++ l ∷ []) b lists l told h new is d room refl in
    let size : length (idle ++ l ∷ []) ≡ length lists.idle = sym (length_seen started (idle ++ l ∷ [])) ∙ ap length next.same ∙ length_seen listed lists.idle in
    omega (arith, size, length-append idle (l ∷ []), next.kept.links.fit)

pub done_kept : (l : LinkView) (told : Reply) (idle : List LinkView) → is_done told ≡ true → (told ≡ Done) × (idle_with l told idle ≡ idle ++ l ∷ []) × (handed_back l told ≡ None)
done_kept l told idle e =
    elim told as (λ t. is_done t ≡ true → (t ≡ Done) × (idle_with l t idle ≡ idle ++ l ∷ []) × (handed_back l t ≡ None)) [
      | Done ↦ λ k. (refl, refl, refl)
      | _ ↦ λ k. cc
    ] e
