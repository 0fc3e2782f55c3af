-- What a session may leave out: what would change nothing.
use Rattle.std.proofs.Common.{◌≡◌, ℕ, zero, suc, List, [], ◌∷◌, ◌++◌, take, map, filter, Option, None, refl, ap, ◌∙◌, Bool, true, false, not}
use Rattle.std.specs.Prelude.{if◌then◌else◌}
use Rattle.std.specs.List.{list_all}
use Rattle.std.proofs.lemmas.Slice.Eq.{bytes_eq-Decides}
use Rattle.message_view.specs.Messages.{parameter_status}
use Rattle.mini_sql.specs.Words.{Text}
use Rattle.session_values.specs.declared.parameter.Parameter.{Parameter}
use Rattle.session_values.specs.Extended.{is_of, is_of_other, orphaned}
use Rattle.session_state.specs.Known.{AreNamedUnless}
use Rattle.session_values.specs.Named.{is_other, without}
use Rattle.session_values.specs.Parameters.{name}
use Rattle.session_values.specs.State.{PortalOf, PreparedOf, prepared_name, reports_from}
use Rattle.session_values.proofs.Passing.{filtered_pass, filtered_still_pass, passing_stays}
use Rattle.session_values.proofs.Alls.{and-first, and-second}

-- ---- statements without a name

pub all_named_without : (ps : List PreparedOf) → AreNamedUnless false (without prepared_name ps [])
all_named_without ps = filtered_pass (is_other prepared_name []) ps

pub named_without : (b : Bool) (ps : List PreparedOf) (n : Text) → AreNamedUnless b ps → AreNamedUnless b (without prepared_name ps n)
named_without true ps n h = tt
named_without false ps n h = filtered_still_pass (is_other prepared_name []) (is_other prepared_name n) ps h

pub nothing_unnamed : (ps : List PreparedOf) → AreNamedUnless false ps → without prepared_name ps [] ≡ ps
nothing_unnamed ps h = passing_stays (is_other prepared_name []) ps h

-- ---- portals of other statements

orphaned_other : (n : Text) (p : PortalOf) → is_of_other n p ≡ true → orphaned n p ≡ p
orphaned_other n p h = ap (λ (o : Option Text). record p { statement = o }) (by_test (is_of n p.statement) h)
  where
    by_test : (b : Bool) → not b ≡ true → (if b then None else p.statement) ≡ p.statement
    by_test true e = absurd cc
    by_test false e = refl

pub none_orphaned : (n : Text) (ps : List PortalOf) → list_all (is_of_other n) ps ≡ true → map (orphaned n) ps ≡ ps
none_orphaned n [] h = refl
none_orphaned n (p ∷ ps) h =
    ap (λ (q : PortalOf). q ∷ map (orphaned n) ps) (orphaned_other n p (and-first (is_of_other n p) (list_all (is_of_other n) ps) h))
    ∙ ap (λ (qs : List PortalOf). p ∷ qs) (none_orphaned n ps (and-second (is_of_other n p) (list_all (is_of_other n) ps) h))

pub others_stay : (n : Text) (ps : List PortalOf) → list_all (is_of_other n) ps ≡ true → filter (is_of_other n) ps ≡ ps
others_stay n ps h = passing_stays (is_of_other n) ps h

-- ---- reports

-- values that were reported aren't reported again
pub none_reported : (ps : List Parameter) (vs : List Text) (n : ℕ) → reports_from ps vs (take n vs) ≡ []
none_reported [] vs n = refl
none_reported (p ∷ ps) [] n = refl
none_reported (p ∷ ps) (v ∷ vs) zero = refl
none_reported (p ∷ ps) (v ∷ vs) (suc n) =
    ap (λ (b : Bool). (if b then [] else (parameter_status (name p) v ∷ [])) ++ reports_from ps vs (take n vs)) ((bytes_eq-Decides v v).1 refl)
    ∙ none_reported ps vs n
