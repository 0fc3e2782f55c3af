-- The pairs of a StartupMessage.
use Rattle.std.proofs.Common.{◌≡◌, ◌<◌, ℕ, suc, List, [], ◌∷◌, length, Option, Some, None, Ok, Err, refl, ap, arith}
use Rattle.message_view.specs.Bodies.{Text}
use Rattle.message_view.specs.Reading.{Part, ◌>>=◌, rest_of, items_of, ended_at, text_at, pair_named, pair_at}
use Rattle.message_view.proofs.Texts.{text_shrinks}
use Rattle.message_view.proofs.Pieces.{same_rest}
use Rattle.message_view.proofs.Ended.{ended_none}

abbrev with_value : ℕ → Text → Text × List ℕ → Part (Option (Text × Text))
with_value b name setting = Ok (Some (b ∷ name, setting.0), setting.1)

value-shrinks : (b : ℕ) (name after rest : List ℕ) (x : Option (Text × Text)) (v : Part Text) → text_at after ≡ v → (v >>= with_value b name) ≡ Ok (x, rest) → length rest < length after
value-shrinks b name after rest x (Err f) is e = absurd (cc)
value-shrinks b name after rest x (Ok v) is e = let same : v.1 ≡ rest = same_rest e in omega (arith, ap length same, text_shrinks after v.1 v.0 is)

named-shrinks : (name after rest : List ℕ) (x : Option (Text × Text)) → pair_named name after ≡ Ok (x, rest) → length rest < suc (length after)
named-shrinks [] after rest x e = let same : after ≡ rest = same_rest e in omega (arith, ap length same)
named-shrinks (b ∷ name) after rest x e = omega (arith, value-shrinks b name after rest x (text_at after) refl e)

by-name : (bytes rest : List ℕ) (x : Option (Text × Text)) (t : Part Text) → text_at bytes ≡ t → (t >>= λ name. pair_named name.0 name.1) ≡ Ok (x, rest) → length rest < length bytes
by-name bytes rest x (Err f) is e = absurd (cc)
by-name bytes rest x (Ok t) is e = omega (arith, text_shrinks bytes t.1 t.0 is, named-shrinks t.0 t.1 rest x e)

pub pair_shrinks : (bytes rest : List ℕ) (x : Option (Text × Text)) → pair_at bytes ≡ Ok (x, rest) → length rest < length bytes
unfolding pair_at
pair_shrinks bytes rest x e = by-name bytes rest x (text_at bytes) refl e

pub pairs_end : (bytes rest : List ℕ) → pair_at bytes ≡ Ok (None, rest) → rest_of (ended_at pair_at bytes) ≡ Ok rest
pairs_end bytes rest is = ap rest_of (ended_none pair_at pair_shrinks bytes rest is)

pub no_more_pairs : (bytes rest : List ℕ) → pair_at bytes ≡ Ok (None, rest) → items_of (ended_at pair_at bytes) ≡ []
no_more_pairs bytes rest is = ap items_of (ended_none pair_at pair_shrinks bytes rest is)
