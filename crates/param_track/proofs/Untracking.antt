-- Which names are followed.
use Rattle.std.proofs.Common.{◌≡◌, ◌∙◌, Bool, true, false, cond, List, [], ◌∷◌, ◌||◌, refl, sym, ap}
use Rattle.std.specs.Prelude.{not, ◌&&◌, filter}
use Rattle.std.specs.List.{list_any}
use Rattle.std.specs.Str.{bytes_eq, str_eq_ignore_ascii_case, str_to_ascii_lowercase}
use Rattle.std.proofs.lemmas.Slice.Eq.{bytes_eq-Decides}
use Rattle.std.proofs.lemmas.List.Folds.{list_any-append}
use Rattle.ini_config.specs.declared.option_values.Settings.{Settings}
use Rattle.ini_config.specs.OptionValues.{always_followed, has_folded, tracks, untracks}
use Rattle.param_track.specs.StartKeys.{Text, names_of, still_followed}

abbrev pub left_of : List Text → List Text → List Text
left_of out names = filter (λ name. not (has_folded out name)) names

-- equal but for their case, both are in a list or neither is
has-folded : (list : List Text) (a b : Text) → str_eq_ignore_ascii_case a b ≡ true → has_folded list a ≡ has_folded list b
has-folded list a b e =
    ap (λ (t : Text). list_any (λ m. bytes_eq (str_to_ascii_lowercase m) t) list) ((bytes_eq-Decides (str_to_ascii_lowercase a) (str_to_ascii_lowercase b)).0 e)

and-false : (b : Bool) → (b && false) ≡ false
and-false true = refl
and-false false = refl

-- a name is among those that are left of a list where it is in the list, and isn't taken out
left_folded : (out names : List Text) (name : Text) → has_folded (left_of out names) name ≡ (has_folded names name && not (has_folded out name))
left_folded out [] name = refl
left_folded out (n ∷ ns) name = by (str_eq_ignore_ascii_case n name) (has_folded out n) refl refl (left_folded out ns name)
  where
    by : (e o : Bool) → str_eq_ignore_ascii_case n name ≡ e → has_folded out n ≡ o
        → has_folded (left_of out ns) name ≡ (has_folded ns name && not (has_folded out name))
        → has_folded (cond (not o) (n ∷ left_of out ns) (left_of out ns)) name ≡ ((str_eq_ignore_ascii_case n name || has_folded ns name) && not (has_folded out name))
    by true true same outside others =
        let there : has_folded out name ≡ true = sym (has-folded out n name same) ∙ outside in
        rw (same, there) (others ∙ rw there (and-false (has_folded ns name)))
    by true false same outside others =
        let there : has_folded out name ≡ false = sym (has-folded out n name same) ∙ outside in
        rw (same, there) refl
    by false true other outside others = rw other others
    by false false other outside others = rw other others

pub still_named : (s : Settings) (name : Text) → has_folded (still_followed s) name ≡ (has_folded always_followed name && not (untracks s name))
unfolding still_followed
still_named s name = left_folded s.untrack_parameters always_followed name

pub followed_named : (s : Settings) (name : Text) → has_folded (names_of s).followed name ≡ (has_folded (still_followed s) name || tracks s name)
followed_named s name = list_any-append _ (still_followed s) s.track_extra_parameters
