-- The decisions that are shown, one by one.
use Rattle.std.proofs.Common.{◌≡◌, ℕ, zero, suc, ◌+◌, ◌<◌, List, [], ◌∷◌, ◌++◌, Some, None, map, take, length, slice_get, ap, refl, ◌∙◌, arith}
use Rattle.std.proofs.lemmas.List.{map-append}
use Rattle.book_model.specs.Outcomes.{Event}
use Rattle.book_model.specs.Outcomes.Event.{Keyed, Cancel}
use Rattle.book_model.specs.Replay.{Decision}
use Rattle.book_model.specs.declared.events.Reply.{Reply}
use Rattle.book_model.specs.declared.events.Reply.TheVariants.{Strike}
use Rattle.pool_figures.specs.declared.decisions.DecisionSeen.{DecisionSeen}
use Rattle.lease_book.specs.Shown.{SecretsStayHidden, Shown, as_shown, event_name, event_number, event_without_secrets, reply_name, reply_number, reply_without_secrets, shown_from, shown_of}

-- the first n of them, and the next
next_shown : (first n : ℕ) (ds : List Decision) (d : Decision) → slice_get ds n ≡ Some d → shown_from first (take n ds) ++ shown_of (first + n) d ∷ [] ≡ shown_from first (take (suc n) ds)
next_shown first n [] d e = absurd (cc)
next_shown first zero (x ∷ ds) d e = let same : d ≡ x = cc in ap (λ (m : ℕ). shown_of m d ∷ []) (omega arith) ∙ ap (λ (y : Decision). shown_of first y ∷ []) same
next_shown first (suc n) (x ∷ ds) d e =
    ap (λ (rest : List Shown). shown_of first x ∷ rest) (ap (λ (m : ℕ). shown_from (suc first) (take n ds) ++ shown_of m d ∷ []) (omega arith) ∙ next_shown (suc first) n ds d e)

pub one_more : (base n number : ℕ) (ds : List Decision) (d : Decision) (old new : List DecisionSeen) (seen : DecisionSeen) → slice_get ds n ≡ Some d → number ≡ base + n + 1 → as_shown seen ≡ shown_of number d → new ≡ old ++ seen ∷ []
    → map as_shown old ≡ shown_from (suc base) (take n ds) → map as_shown new ≡ shown_from (suc base) (take (suc n) ds)
one_more base n number ds d old new seen there is one pushed all =
    ap (map as_shown) pushed
    ∙ (map-append as_shown old (seen ∷ [])
    ∙ (ap (λ (xs : List Shown). xs ++ as_shown seen ∷ []) all
    ∙ (ap (λ (s : Shown). shown_from (suc base) (take n ds) ++ s ∷ []) (one ∙ ap (λ (m : ℕ). shown_of m d) (omega (arith, is)))
    ∙ next_shown (suc base) n ds d there)))

take_whole : (ds : List Decision) (n : ℕ) → slice_get ds n ≡ None → take n ds ≡ ds
take_whole [] zero e = refl
take_whole [] (suc n) e = refl
take_whole (d ∷ ds) zero e = absurd (cc)
take_whole (d ∷ ds) (suc n) e = ap (λ (rest : List Decision). d ∷ rest) (take_whole ds n e)

-- where there is none
pub all_there : (base n : ℕ) (ds : List Decision) (seen : List DecisionSeen) → slice_get ds n ≡ None → map as_shown seen ≡ shown_from (suc base) (take n ds) → map as_shown seen ≡ shown_from (suc base) ds
all_there base n ds seen none all = all ∙ ap (shown_from (suc base)) (take_whole ds n none)

pub is_there : (n : ℕ) (ds : List Decision) (d : Decision) → slice_get ds n ≡ Some d → n < length ds
is_there n [] d e = absurd (cc)
is_there zero (x ∷ ds) d e = omega arith
is_there (suc n) (x ∷ ds) d e = omega (arith, is_there n ds d e)

-- ---- no secret is shown

names_hide : (e : Event) → event_name e ≡ event_name (event_without_secrets e)
names_hide (Keyed link client server) = refl
names_hide (Cancel client) = refl
names_hide _ = refl

numbers_hide : (e : Event) → event_number e ≡ event_number (event_without_secrets e)
numbers_hide (Keyed link client server) = refl
numbers_hide (Cancel client) = refl
numbers_hide _ = refl

replies_hide : (r : Reply) → reply_name r ≡ reply_name (reply_without_secrets r)
replies_hide (Strike link server) = refl
replies_hide _ = refl

answers_hide : (r : Reply) → reply_number r ≡ reply_number (reply_without_secrets r)
answers_hide (Strike link server) = refl
answers_hide _ = refl

pub secrets_hide : SecretsStayHidden
unfolding shown_of
secrets_hide n d = λ i. record { number = n; pass = d.pass; event = names_hide d.event i; names = numbers_hide d.event i; reply = replies_hide d.reply i; answers = answers_hide d.reply i }
