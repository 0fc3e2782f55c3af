-- The idle links are those of the idle list, after each event.
use Rattle.std.proofs.Common.{◌≡◌, ℕ, ◌+◌, ◌≤◌, List, [], ◌∷◌, Bool, true, false, cond, Option, None, Some, map, refl, sym, ap, ◌∙◌, subst, arith}
use Rattle.std.specs.Prelude.{find, filter, not, ◌==◌, ◌||◌, count_by}
use Rattle.std.specs.List.{list_any}
use Rattle.std.proofs.lemmas.Bool.{eqb-true}
use Rattle.link_run.specs.Links.{LinkView}
use Rattle.book_model.specs.Book.{Book, is_link}
use Rattle.book_model.specs.Outcomes.{Event, apply}
use Rattle.book_model.specs.declared.events.Reply.{Reply}
use Rattle.book_model.specs.Kept.{Kept}
use Rattle.lease_book.specs.Links.{HoldsLinks, Started, found, goes_out, is_numbered, is_return, left, listed, number_of, started}
use Rattle.lease_book.proofs.Going.{goes_apply, rest, there}
use Rattle.lease_book.proofs.Links.{count-cons}

is_started : ℕ → Started → Bool
is_started n s = s.number == n

-- ---- lists seen as what their links were started as

module _ {X : Type 0} (f : X → Started) where
  count_seen : (n : ℕ) (xs : List X) → count_by (λ x. (f x).number == n) xs ≡ count_by (λ (s : Started). s.number == n) (map f xs)
  count_seen n [] = refl
  count_seen n (x ∷ xs) =
      count-cons (λ y. (f y).number == n) x xs ∙ ap (λ (k : ℕ). cond {A = ℕ} ((f x).number == n) 1 0 + k) (count_seen n xs) ∙ sym (count-cons (λ (s : Started). s.number == n) (f x) (map f xs))

  any_seen : (n : ℕ) (xs : List X) → list_any (λ x. (f x).number == n) xs ≡ list_any (λ (s : Started). s.number == n) (map f xs)
  any_seen n [] = refl
  any_seen n (x ∷ xs) = ap (λ (b : Bool). ((f x).number == n) || b) (any_seen n xs)

  filter_seen : (n : ℕ) (xs : List X) → map f (filter (λ x. not ((f x).number == n)) xs) ≡ filter (λ (s : Started). not (s.number == n)) (map f xs)
  filter_seen n [] = refl
  filter_seen n (x ∷ xs) = at (not ((f x).number == n)) (filter_seen n xs)
    where
      at : (b : Bool) → map f (filter (λ y. not ((f y).number == n)) xs) ≡ filter (λ (s : Started). not (s.number == n)) (map f xs) → map f (cond b (x ∷ filter (λ y. not ((f y).number == n)) xs) (filter (λ y. not ((f y).number == n)) xs)) ≡ cond b (f x ∷ filter (λ (s : Started). not (s.number == n)) (map f xs)) (filter (λ (s : Started). not (s.number == n)) (map f xs))
      at true e = ap (λ (l : List Started). f x ∷ l) e
      at false e = e

-- ---- a link goes out

count_idle : (idle : List LinkView) (b : Book) (n : ℕ) → HoldsLinks idle b → count_by (is_numbered n) idle ≡ count_by (is_link n) b.idle
count_idle idle b n h = count_seen started n idle ∙ ap (count_by (λ (s : Started). s.number == n)) h.same ∙ sym (count_seen listed n b.idle)

pub once_idle : (idle : List LinkView) (b : Book) → HoldsLinks idle b → (n : ℕ) → count_by (is_numbered n) idle ≤ 1
once_idle idle b h n = omega (arith, count_idle idle b n h, h.kept.links.once n)

find_named : (n : ℕ) (idle : List LinkView) → list_any (is_numbered n) idle ≡ true → number_of (find (is_numbered n) idle) ≡ Some n
find_named n [] e = cc
find_named n (l ∷ ls) e = at (l.number == n) refl e (λ k. find_named n ls k)
  where
    at : (b : Bool) → (l.number == n) ≡ b → (b || list_any (is_numbered n) ls) ≡ true → (list_any (is_numbered n) ls ≡ true → number_of (find (is_numbered n) ls) ≡ Some n) → number_of (cond b (Some l) (find (is_numbered n) ls)) ≡ Some n
    at true is h later = ap (λ (k : ℕ). Some k) (eqb-true l.number n is)
    at false is h later = later h

named : (idle : List LinkView) (b : Book) (o : Option ℕ) → HoldsLinks idle b → there o b.idle ≡ true → number_of (found o idle) ≡ o
named idle b None h t = refl
named idle b (Some n) h t = find_named n idle (any_seen started n idle ∙ ap (list_any (λ (s : Started). s.number == n)) h.same ∙ sym (any_seen listed n b.idle) ∙ t)

left_same : (idle : List LinkView) (b : Book) (o : Option ℕ) → HoldsLinks idle b → map started (left o idle) ≡ map listed (rest o b.idle)
left_same idle b None h = h.same
left_same idle b (Some n) h = filter_seen started n idle ∙ ap (filter (λ (s : Started). not (s.number == n))) h.same ∙ sym (filter_seen listed n b.idle)

pub named_after : (idle : List LinkView) (b : Book) (e : Event) (told : Reply) (link : Option LinkView) → HoldsLinks idle b → is_return e ≡ false → told ≡ (apply b e).reply → link ≡ found (goes_out told) idle → number_of link ≡ goes_out told
named_after idle b e told link h r t l =
    let g = goes_apply b e r in
    ap number_of l ∙ named idle b (goes_out told) h (subst (λ (x : Reply). there (goes_out x) b.idle ≡ true) (sym t) g.there_is)

pub holds_after : (idle next : List LinkView) (b lists : Book) (e : Event) (told : Reply) → HoldsLinks idle b → is_return e ≡ false → lists ≡ (apply b e).book → told ≡ (apply b e).reply → Kept lists → next ≡ left (goes_out told) idle → HoldsLinks next lists
holds_after idle next b lists e told h r is t room n =
    let g = goes_apply b e r in
    record {
      same = ap (map started) (n ∙ ap (λ (x : Reply). left (goes_out x) idle) t) ∙ left_same idle b (goes_out (apply b e).reply) h ∙ ap (map listed) (sym g.idle ∙ ap (λ (x : Book). x.idle) (sym is));
      kept = room;
    }
