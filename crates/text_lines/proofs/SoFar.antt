-- Lines that were read so far, and the rest of the file.
use Rattle.std.proofs.Common.{◌≡◌, ◌+◌, ◌-◌, ℕ, zero, suc, Bool, List, [], ◌∷◌, ◌++◌, length, take, drop, Option, Some, None, Err, refl, sym, ap, ◌∙◌, inl, inr, arith, append_assoc, append-nil, length-take-le, take_all}
use Rattle.std.specs.Prelude.{map, slice_get, option_map}
use Rattle.std.proofs.Math.Numerals.{add-one}
use Rattle.std.proofs.lemmas.Grind.{fold-append}
use Rattle.std.proofs.lemmas.List.{take-append-drop, length-map}
use Rattle.text_lines.specs.Lines.{trimmed}
use Rattle.text_lines.specs.Files.{Line, said_by, first_fault, or_later, IsFaultless, IsReported, TookLine}

-- the next line, and those after it
take-suc-next : (all : List Line) (n : ℕ) (line : Line) (later : List Line) → line ∷ later ≡ drop n all → take (suc n) all ≡ take n all ++ line ∷ []
take-suc-next [] zero line later same = absurd (cc)
take-suc-next [] (suc n) line later same = absurd (cc)
take-suc-next (a ∷ all) zero line later same = let first : line ≡ a = cc in ap (λ b. b ∷ []) (sym first)
take-suc-next (a ∷ all) (suc n) line later same = ap (λ t. a ∷ t) (take-suc-next all n line later same)

drop-suc-next : (all : List Line) (n : ℕ) (line : Line) (later : List Line) → line ∷ later ≡ drop n all → later ≡ drop (suc n) all
drop-suc-next [] zero line later same = absurd (cc)
drop-suc-next [] (suc n) line later same = absurd (cc)
drop-suc-next (a ∷ all) zero line later same = cc
drop-suc-next (a ∷ all) (suc n) line later same = drop-suc-next all n line later same

take-next : (all : List Line) (n : ℕ) (line : Line) (later : List Line) → line ∷ later ≡ drop n all → take (n + 1) all ≡ take n all ++ line ∷ []
take-next all n line later same = ap (λ k. take k all) (add-one n) ∙ take-suc-next all n line later same

drop-next : (all : List Line) (n : ℕ) (line : Line) (later : List Line) → line ∷ later ≡ drop n all → later ≡ drop (n + 1) all
drop-next all n line later same = drop-suc-next all n line later same ∙ ap (λ k. drop k all) (sym (add-one n))

-- and its place
next-at : (all : List Line) (n : ℕ) (line : Line) (later : List Line) → line ∷ later ≡ drop n all → slice_get all n ≡ Some line
next-at [] zero line later same = absurd (cc)
next-at [] (suc n) line later same = absurd (cc)
next-at (a ∷ all) zero line later same = let first : line ≡ a = cc in ap Some (sym first)
next-at (a ∷ all) (suc n) line later same = next-at all n line later same

module _ {S C : Type 0} (add : S → Line → S) (fault : S → Line → Option C) (empty : S) where
  -- n lines were read without a fault, and these are the rest
  pub record ReadUpTo (all : List Line) (n : ℕ) (rest : List Line) (read : S) : Type 0 where
    pub counted : n + length rest ≡ length all
    pub rest_is : map trimmed rest ≡ drop n all
    pub faultless : IsFaultless add fault empty (take n all)
    pub read_is : read ≡ said_by add fault empty (take n all)

  said_by-push : (xs : List Line) (x : Line) → said_by add fault empty (xs ++ x ∷ []) ≡ add (said_by add fault empty xs) x
  unfolding said_by
  said_by-push xs x = fold-append add empty xs (x ∷ [])

  -- no fault among some lines: the first fault is among the rest
  first_fault-append : (before xs ys : List Line) → first_fault add fault empty before xs ≡ None
      → first_fault add fault empty before (xs ++ ys) ≡ first_fault add fault empty (before ++ xs) ys
  first_fault-append before [] ys none = ap (λ b. first_fault add fault empty b ys) (sym (append-nil before))
  first_fault-append before (x ∷ xs) ys none =
      by (fault (said_by add fault empty before) x) (λ later. first_fault-append (before ++ x ∷ []) xs ys later) none
    where
      by : (f : Option C)
          → (first_fault add fault empty (before ++ x ∷ []) xs ≡ None → first_fault add fault empty (before ++ x ∷ []) (xs ++ ys) ≡ first_fault add fault empty ((before ++ x ∷ []) ++ xs) ys)
          → or_later f (length before + 1) (first_fault add fault empty (before ++ x ∷ []) xs) ≡ None
          → or_later f (length before + 1) (first_fault add fault empty (before ++ x ∷ []) (xs ++ ys)) ≡ first_fault add fault empty (before ++ x ∷ xs) ys
      by None more later = more later ∙ ap (λ b. first_fault add fault empty b ys) (append_assoc before (x ∷ []) xs)
      by (Some c) more later = absurd (cc)

  -- nothing is read yet
  pub at_start : (all rest : List Line) (read : S) → all ≡ map trimmed rest → read ≡ empty → ReadUpTo all 0 rest read
  unfolding said_by
  at_start all rest read same start = record {
    counted = omega (arith, length-map rest trimmed, ap length same);
    rest_is = sym same;
    faultless = refl;
    read_is = start;
  }

  -- all is read
  pub at_end : (all : List Line) (n : ℕ) (read : S) → ReadUpTo all n [] read → IsFaultless add fault empty all × (read ≡ said_by add fault empty all)
  at_end all n read so_far =
      let whole : take n all ≡ all = take_all n all (let k = so_far.counted in omega arith) in
      (ap (first_fault add fault empty []) (sym whole) ∙ so_far.faultless, so_far.read_is ∙ ap (said_by add fault empty) whole)

  module _ (all : List Line) (n : ℕ) (line : Line) (rest : List Line) (read : S) (so_far : ReadUpTo all n (line ∷ rest) read) where
    faultless-next : fault read (trimmed line) ≡ None → IsFaultless add fault empty (take (n + 1) all)
    faultless-next none =
        ap (first_fault add fault empty []) (take-next all n (trimmed line) (map trimmed rest) so_far.rest_is)
        ∙ first_fault-append [] (take n all) (trimmed line ∷ []) so_far.faultless
        ∙ ap (λ s. or_later (fault s (trimmed line)) (length (take n all) + 1) None) (sym so_far.read_is)
        ∙ ap (λ f. or_later f (length (take n all) + 1) None) none

    -- a line is taken
    pub taken : (new : S) → fault read (trimmed line) ≡ None → new ≡ add read (trimmed line) → ReadUpTo all (n + 1) rest new
    taken new none is = record {
      counted = let c = so_far.counted in omega arith;
      rest_is = drop-next all n (trimmed line) (map trimmed rest) so_far.rest_is;
      faultless = faultless-next none;
      read_is =
          is ∙ ap (λ s. add s (trimmed line)) so_far.read_is ∙ sym (said_by-push (take n all) (trimmed line))
          ∙ ap (said_by add fault empty) (sym (take-next all n (trimmed line) (map trimmed rest) so_far.rest_is));
    }

    -- or it is the first faulty one
    pub first_faulty : (c : C) → fault read (trimmed line) ≡ Some c → first_fault add fault empty [] all ≡ Some (c, n + 1)
    first_faulty c own =
        let later = first_fault add fault empty (take n all ++ trimmed line ∷ []) (map trimmed rest) in
        let short : length (take n all) ≡ n = length-take-le n all (let k = so_far.counted in omega arith) in
        ap (first_fault add fault empty []) (sym (take-append-drop n all) ∙ ap (λ d. take n all ++ d) (sym so_far.rest_is))
        ∙ first_fault-append [] (take n all) (trimmed line ∷ map trimmed rest) so_far.faultless
        ∙ ap (λ s. or_later (fault s (trimmed line)) (length (take n all) + 1) later) (sym so_far.read_is)
        ∙ ap (λ f. or_later f (length (take n all) + 1) later) own
        ∙ ap (λ k. Some (c, k + 1)) short

    -- so the file is refused
    pub refused : (memory : C) (keeps : Line → Bool) (next new : S) (c : C) → TookLine memory (keeps (trimmed line)) (fault read (trimmed line)) next new (Err c)
        → IsReported add fault empty memory keeps all c (n + 1)
    refused memory keeps next new c (inr out) =
        let place : n + 1 - 1 ≡ n = omega arith in
        let kept = ap (λ k. option_map keeps (slice_get all k)) place ∙ ap (option_map keeps) (next-at all n (trimmed line) (map trimmed rest) so_far.rest_is) ∙ ap Some out.2 in
        inr (out.1, (omega arith, kept, faultless-next out.0))
    refused memory keeps next new c (inl own) = inl (first_faulty c own)
