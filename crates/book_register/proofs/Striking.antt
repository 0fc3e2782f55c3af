-- What a Cancel and the end of a lease give, case by case.
use Rattle.std.proofs.Common.{◌≡◌, ℕ, ◌≤◌, ◌<◌, true, not, List, Option, None, Some, length, count_by, find, refl, sym, ap, ◌∙◌, subst, arith, eq-eqb}
use Rattle.std.specs.List.{list_any}
use Rattle.message_view.specs.declared.views.KeyView.{KeyView}
use Rattle.session_values.specs.State.{StartKeyOf}
use Rattle.book_model.specs.Book.{Book, Lease, Link, is_link, is_number, is_of_link, with_number, without_number}
use Rattle.book_model.specs.Kept.{Kept}
use Rattle.book_model.specs.Outcomes.{cancels, strikes, strikes_at}
use Rattle.book_model.specs.declared.events.Reply.{Reply}
use Rattle.book_model.specs.declared.events.Reply.TheVariants.{Strike, Nobody}
use Rattle.book_model.specs.declared.limits.TheConstants.{MAX_LINKS}
use Rattle.book_model.proofs.KeepingLists.{any_counts, fewer_left, found_any, left_out, longer}
use Rattle.book_register.specs.Striking.{strike_of}

-- ---- each lease, mark and end stands once

pub one_lease : (b : Book) → Kept b → (n : ℕ) → count_by (is_of_link n) b.keyed ≤ 1
one_lease b k n = omega (arith, k.leases.keyed n, k.links.once n)

pub one_mark : (b : Book) → Kept b → (n : ℕ) → count_by (is_number n) b.marked ≤ 1
one_mark b k n = omega (arith, k.leases.marked n, k.links.once n)

pub one_end : (b : Book) → Kept b → (n : ℕ) → count_by (is_number n) b.ended ≤ 1
one_end b k n = omega (arith, k.leases.ended n, k.links.once n)

-- beside a lent link's own, there are fewer numbers of lent links than there are of these
others_fit : (b : Book) (n : ℕ) (numbers : List ℕ) → Kept b → ((m : ℕ) → count_by (is_number m) numbers ≤ count_by (is_link m) b.lent) → list_any (is_link n) b.lent ≡ true → length (without_number n numbers) < MAX_LINKS
others_fit b n numbers k fits there = omega (arith, k.links.fit, longer (λ (m : ℕ). m) (λ (l : Link). l.number) n (without_number n numbers) b.lent fewer none (any_counts (is_link n) b.lent there))
  where
    fewer : (m : ℕ) → count_by (is_number m) (without_number n numbers) ≤ count_by (is_link m) b.lent
    fewer m = omega (arith, fewer_left (is_number m) (λ o. not (is_number n o)) numbers, fits m)

    none : count_by (is_number n) (without_number n numbers) ≡ 0
    none = left_out (λ (m : ℕ). m) n n numbers true (eq-eqb n n refl)

pub marks_fit : (b : Book) (n : ℕ) → Kept b → list_any (is_link n) b.lent ≡ true → length (without_number n b.marked) < MAX_LINKS
marks_fit b n k there = others_fit b n b.marked k k.leases.marked there

pub ends_fit : (b : Book) (n : ℕ) → Kept b → list_any (is_link n) b.lent ≡ true → length (without_number n b.ended) < MAX_LINKS
ends_fit b n k there = others_fit b n b.ended k k.leases.ended there

-- ---- a Cancel

struck_by : (b : Book) (lease : Lease) (host : Option (List ℕ)) → (strikes b lease host).reply ≡ strike_of lease host
struck_by b lease None = refl
struck_by b lease (Some host) = refl

-- `before` is the book as its fields stand, and `link` what the lease says
pub struck_at : (before b : Book) (lease : Lease) (link : ℕ) (x : Link) (key : StartKeyOf) (reply : Reply) → before ≡ b → link ≡ lease.link → find (is_link link) before.lent ≡ Some x → key ≡ x.key → reply ≡ strike_of lease key.host → reply ≡ (strikes_at b lease (find (is_link lease.link) b.lent)).reply
struck_at before b lease link x key reply e same found is replied =
    let here : find (is_link lease.link) b.lent ≡ Some x = sym (ap (λ (v : Book). find (is_link link) v.lent) e ∙ ap (λ (n : ℕ). find (is_link n) b.lent) same) ∙ found in
    replied ∙ (ap (λ (k : StartKeyOf). strike_of lease k.host) is ∙ sym (ap (λ (o : Option Link). (strikes_at b lease o).reply) here ∙ struck_by b lease x.key.host))

pub struck_nowhere : (before b : Book) (lease : Lease) (link : ℕ) → before ≡ b → link ≡ lease.link → find (is_link link) before.lent ≡ None → Nobody ≡ (strikes_at b lease (find (is_link lease.link) b.lent)).reply
struck_nowhere before b lease link e same at =
    let here : find (is_link lease.link) b.lent ≡ None = sym (ap (λ (v : Book). find (is_link link) v.lent) e ∙ ap (λ (n : ℕ). find (is_link n) b.lent) same) ∙ at in
    sym (ap (λ (o : Option Link). (strikes_at b lease o).reply) here)

-- what a Cancel that is answered so leaves
Leaves : Book → Reply → Book → Type 0
Leaves b (Strike link server) new = (new ≡ record b { marked = with_number link b.marked }) × (list_any (is_link link) b.lent ≡ true)
Leaves b _ new = new ≡ b

leaves : (b : Book) (o : Option Lease) → Leaves b (cancels b o).reply (cancels b o).book
unfolding Leaves
leaves b None = refl
leaves b (Some lease) = at (find (is_link lease.link) b.lent) refl
  where
    by_host : (link : Link) (host : Option (List ℕ)) → find (is_link lease.link) b.lent ≡ Some link → Leaves b (strikes b lease host).reply (strikes b lease host).book
    by_host link None e = refl
    by_host link (Some host) e = (refl, found_any (is_link lease.link) b.lent link e)

    at : (o : Option Link) → find (is_link lease.link) b.lent ≡ o → Leaves b (strikes_at b lease o).reply (strikes_at b lease o).book
    at None e = refl
    at (Some link) e = by_host link link.key.host e

pub struck : (b : Book) (o : Option Lease) (link : ℕ) (server : KeyView) → Strike link server ≡ (cancels b o).reply → ((cancels b o).book ≡ record b { marked = with_number link b.marked }) × (list_any (is_link link) b.lent ≡ true)
unfolding Leaves
struck b o link server e = subst (λ (r : Reply). Leaves b r (cancels b o).book) (sym e) (leaves b o)

pub unstruck : (b : Book) (o : Option Lease) (r : Reply) → r ≡ (cancels b o).reply → ((link : ℕ) (server : KeyView) → r ≡ Strike link server → ⊥) → (cancels b o).book ≡ b
unfolding Leaves
unstruck b o r e other = go r refl (subst (λ (s : Reply). Leaves b s (cancels b o).book) (sym e) (leaves b o))
  where
    go : (s : Reply) → r ≡ s → Leaves b s (cancels b o).book → (cancels b o).book ≡ b
    go (Strike link server) q h = absurd (other link server q)
    go _ q h = h
