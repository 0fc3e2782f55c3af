-- The fields of an error or a notice.
use Rattle.std.proofs.Common.{◌≡◌, ◌<◌, ℕ, suc, List, [], ◌∷◌, length, Option, Some, None, Ok, Err, refl, ap, Bool, true, false, arith}
use Rattle.std.specs.Prelude.{◌==◌, if◌then◌else◌}
use Rattle.message_view.specs.Bodies.{Text}
use Rattle.message_view.specs.Reading.{Part, ◌>>=◌, rest_of, items_of, ended_at, text_at, field_at}
use Rattle.message_view.proofs.Texts.{text_shrinks}
use Rattle.message_view.proofs.Pieces.{same_rest}
use Rattle.message_view.proofs.Ended.{ended_none}

abbrev with_text : ℕ → Text × List ℕ → Part (Option (ℕ × Text))
with_text b t = Ok (Some (b, t.0), t.1)

abbrev ends : List ℕ → Part (Option (ℕ × Text))
ends after = Ok (None, after)

text-shrinks : (b : ℕ) (after rest : List ℕ) (x : Option (ℕ × Text)) (v : Part Text) → text_at after ≡ v → (v >>= with_text b) ≡ Ok (x, rest) → length rest < length after
text-shrinks b after rest x (Err f) is e = absurd (cc)
text-shrinks b after rest x (Ok v) is e = let same : v.1 ≡ rest = same_rest e in omega (arith, ap length same, text_shrinks after v.1 v.0 is)

by-code : (b : ℕ) (after rest : List ℕ) (x : Option (ℕ × Text)) (z : Bool) → (if z then ends after else (text_at after >>= with_text b)) ≡ Ok (x, rest) → length rest < suc (length after)
by-code b after rest x true e = let same : after ≡ rest = same_rest e in omega (arith, ap length same)
by-code b after rest x false e = omega (arith, text-shrinks b after rest x (text_at after) refl e)

pub field_shrinks : (bytes rest : List ℕ) (x : Option (ℕ × Text)) → field_at bytes ≡ Ok (x, rest) → length rest < length bytes
unfolding field_at
field_shrinks [] rest x e = absurd (cc)
field_shrinks (b ∷ bytes) rest x e = by-code b bytes rest x (b == 0) e

pub fields_end : (bytes rest : List ℕ) → field_at bytes ≡ Ok (None, rest) → rest_of (ended_at field_at bytes) ≡ Ok rest
fields_end bytes rest is = ap rest_of (ended_none field_at field_shrinks bytes rest is)

pub no_more_fields : (bytes rest : List ℕ) → field_at bytes ≡ Ok (None, rest) → items_of (ended_at field_at bytes) ≡ []
no_more_fields bytes rest is = ap items_of (ended_none field_at field_shrinks bytes rest is)
