-- Lines of a catalogue file that were read so far, and the rest of the file.
use Rattle.std.proofs.Common.{◌≡◌, ◌+◌, ℕ, zero, suc, List, [], ◌∷◌, ◌++◌, length, take, drop, map, Option, Some, None, Result, Ok, Err, refl, sym, ap, ◌∙◌, inl, inr, subst, ◌≤◌, true, is_some, arith, append_assoc, append-nil, length-take-le, take_all}
use Rattle.std.proofs.Math.Numerals.{add-one}
use Rattle.std.proofs.lemmas.List.{take-append-drop, length-map, map-append}
use Rattle.text_lines.specs.Files.{Took, or_later}
use Rattle.mini_sql.specs.Words.{Text}
use Rattle.session_catalogue.specs.declared.catalogue_fault.CatalogueCause.{CatalogueCause}
use Rattle.session_catalogue.specs.declared.catalogue_fault.CatalogueCause.TheVariants.{Memory}
use Rattle.session_catalogue.specs.declared.catalogue_fault.CatalogueError.{CatalogueError}
use Rattle.session_values.specs.State.{CatalogueOf}
use Rattle.session_catalogue.specs.Catalogues.{PartsOf, Said, said, parts, fault_of, first_fault, IsFaultless, judged, IsReadOf}
use Rattle.session_catalogue.specs.Drafts.{with_said, IsWholeOf}
use Rattle.session_catalogue.proofs.Saids.{parts-push}

-- the next line, and those after it
take-suc-next : (all : List Text) (n : ℕ) (line : Text) (later : List Text) → line ∷ later ≡ drop n all → take (suc n) all ≡ take n all ++ line ∷ []
take-suc-next [] zero line later same = absurd (cc)
take-suc-next [] (suc n) line later same = absurd (cc)
take-suc-next (a ∷ all) zero line later same = let first : line ≡ a = cc in ap (λ b. b ∷ []) (sym first)
take-suc-next (a ∷ all) (suc n) line later same = ap (λ t. a ∷ t) (take-suc-next all n line later same)

drop-suc-next : (all : List Text) (n : ℕ) (line : Text) (later : List Text) → line ∷ later ≡ drop n all → later ≡ drop (suc n) all
drop-suc-next [] zero line later same = absurd (cc)
drop-suc-next [] (suc n) line later same = absurd (cc)
drop-suc-next (a ∷ all) zero line later same = cc
drop-suc-next (a ∷ all) (suc n) line later same = drop-suc-next all n line later same

take-next : (all : List Text) (n : ℕ) (line : Text) (later : List Text) → line ∷ later ≡ drop n all → take (n + 1) all ≡ take n all ++ line ∷ []
take-next all n line later same = ap (λ k. take k all) (add-one n) ∙ take-suc-next all n line later same

drop-next : (all : List Text) (n : ℕ) (line : Text) (later : List Text) → line ∷ later ≡ drop n all → later ≡ drop (n + 1) all
drop-next all n line later same = drop-suc-next all n line later same ∙ ap (λ k. drop k all) (sym (add-one n))

-- no fault among some lines: the first fault is among the rest
pub first_fault-append : (before xs ys : List Said) → first_fault before xs ≡ None → first_fault before (xs ++ ys) ≡ first_fault (before ++ xs) ys
first_fault-append before [] ys none = ap (λ b. first_fault b ys) (sym (append-nil before))
first_fault-append before (x ∷ xs) ys none =
    by (fault_of (parts before) x) (λ later. first_fault-append (before ++ x ∷ []) xs ys later) none
  where
    by : (f : Option CatalogueCause)
        → (first_fault (before ++ x ∷ []) xs ≡ None → first_fault (before ++ x ∷ []) (xs ++ ys) ≡ first_fault ((before ++ x ∷ []) ++ xs) ys)
        → or_later f (length before + 1) (first_fault (before ++ x ∷ []) xs) ≡ None
        → or_later f (length before + 1) (first_fault (before ++ x ∷ []) (xs ++ ys)) ≡ first_fault (before ++ x ∷ xs) ys
    by None more later = more later ∙ ap (λ b. first_fault b ys) (append_assoc before (x ∷ []) xs)
    by (Some c) more later = absurd (cc)

-- n lines were read without a fault, and these are the rest
pub record ReadUpTo (all : List Text) (n : ℕ) (rest : List Text) (p : PartsOf) : Type 0 where
  pub counted : n + length rest ≡ length all
  pub rest_is : rest ≡ drop n all
  pub faultless : IsFaultless (take n all)
  pub parts_are : p ≡ parts (map said (take n all))

-- nothing is read yet
pub at_start : (all rest : List Text) (p : PartsOf) → rest ≡ all → p ≡ parts [] → ReadUpTo all 0 rest p
at_start all rest p same start = record {
  counted = let k = ap length same in omega arith;
  rest_is = same;
  faultless = refl;
  parts_are = start;
}

-- all is read
pub at_end : (all : List Text) (n : ℕ) (p : PartsOf) → ReadUpTo all n [] p → (length all ≡ n) × IsFaultless all × (p ≡ parts (map said all))
at_end all n p so_far =
    let whole : take n all ≡ all = take_all n all (let k = so_far.counted in omega arith) in (
      let k = so_far.counted in omega arith,
      ap (λ ls. first_fault [] (map said ls)) (sym whole) ∙ so_far.faultless,
      so_far.parts_are ∙ ap (λ ls. parts (map said ls)) whole,
    )

module _ (all : List Text) (n : ℕ) (line : Text) (rest : List Text) (p : PartsOf) (so_far : ReadUpTo all n (line ∷ rest) p) where
  said-next : map said (take (n + 1) all) ≡ map said (take n all) ++ said line ∷ []
  said-next = ap (map said) (take-next all n line rest so_far.rest_is) ∙ map-append said (take n all) (line ∷ [])

  fault-same : fault_of p (said line) ≡ fault_of (parts (map said (take n all))) (said line)
  fault-same = ap (λ q. fault_of q (said line)) so_far.parts_are

  faultless-next : fault_of p (said line) ≡ None → IsFaultless (take (n + 1) all)
  faultless-next none =
      ap (first_fault []) said-next
      ∙ first_fault-append [] (map said (take n all)) (said line ∷ []) so_far.faultless
      ∙ ap (λ f. or_later f (length (map said (take n all)) + 1) None) (sym fault-same ∙ none)

  -- a line is taken
  pub taken : (new : PartsOf) → fault_of p (said line) ≡ None → new ≡ with_said p (said line) → ReadUpTo all (n + 1) rest new
  taken new none is = record {
    counted = let c = so_far.counted in omega arith;
    rest_is = drop-next all n line rest so_far.rest_is;
    faultless = faultless-next none;
    parts_are =
        is ∙ ap (λ q. with_said q (said line)) so_far.parts_are ∙ sym (parts-push (map said (take n all)) (said line) (sym fault-same ∙ none))
        ∙ ap parts (sym said-next);
  }

  -- or it is the first faulty one
  first_faulty : (c : CatalogueCause) → fault_of p (said line) ≡ Some c → first_fault [] (map said all) ≡ Some (c, n + 1)
  first_faulty c own =
      let before = map said (take n all) in
      let later = first_fault (before ++ said line ∷ []) (map said rest) in
      let short : length before ≡ n = length-map (take n all) said ∙ length-take-le n all (let k = so_far.counted in omega arith) in
      ap (λ ls. first_fault [] (map said ls)) (sym (take-append-drop n all) ∙ ap (λ d. take n all ++ d) (sym so_far.rest_is))
      ∙ ap (first_fault []) (map-append said (take n all) (line ∷ rest))
      ∙ first_fault-append [] before (said line ∷ map said rest) so_far.faultless
      ∙ ap (λ f. or_later f (length before + 1) later) (sym fault-same ∙ own)
      ∙ ap (λ k. Some (c, k + 1)) short

  -- so the file is refused
  pub refused : (next new : PartsOf) (c : CatalogueCause) → Took Memory (fault_of p (said line)) next new (Err c)
      → IsReadOf all (Err (record { cause = c; line = n + 1 }))
  refused next new c (inl own) = inl (ap (λ f. judged f (parts (map said all))) (first_faulty c own))
  refused next new c (inr want) = inr (want.1, omega arith, let k = so_far.counted in omega arith, faultless-next want.0)

-- where there is a version there is a line
not_empty : (all : List Text) (p : PartsOf) → p ≡ parts (map said all) → is_some p.version ≡ true → 1 ≤ length all
unfolding parts
not_empty [] p same is = let none = ap (λ q. is_some q.version) same in absurd (cc)
not_empty (line ∷ all) p same is = omega arith

-- the end of a file without a faulty line
pub ended : (all : List Text) (n : ℕ) (p : PartsOf) (r : Result CatalogueOf CatalogueError) → ReadUpTo all n [] p → IsWholeOf p n r → IsReadOf all r
ended all n p (Ok c) so_far is =
    let end = at_end all n p so_far in
    ap (λ f. judged f (parts (map said all))) end.1 ∙ ap (judged None) (sym end.2) ∙ is
ended all n p (Err f) so_far (inl is) =
    let end = at_end all n p so_far in
    inl (ap (λ f. judged f (parts (map said all))) end.1 ∙ ap (judged None) (sym end.2) ∙ is)
ended all n p (Err f) so_far (inr want) =
    let end = at_end all n p so_far in
    let is_last : f.line ≡ length all = want.1 ∙ sym end.0 in
    inr (
      want.0,
      subst (λ k. 1 ≤ k) (sym is_last) (not_empty all p end.2 want.2),
      omega (arith, is_last),
      ap (λ ls. first_fault [] (map said ls)) (take_all f.line all (omega (arith, is_last))) ∙ end.1,
    )
