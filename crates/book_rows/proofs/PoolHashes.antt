-- Keys of one pool share its number.
use Rattle.std.proofs.Common.{◌≡◌, ℕ, List, Bool, true, false, ◌&&◌, ◌==◌, refl, sym, ap, ◌∙◌, eq-eqb}
use Rattle.std.specs.Prelude.{bytes_eq}
use Rattle.std.proofs.lemmas.Slice.Eq.{bytes_eq-Decides}
use Rattle.std.proofs.lemmas.Bool.{true≢false}
use Rattle.session_values.specs.State.{StartKeyOf}
use Rattle.start_keys.specs.Keys.{same_host, same_key, same_pairs}
use Rattle.book_model.specs.Book.{same_pool}
use Rattle.book_rows.specs.PoolHashes.{pool_hash, pool_hash_of}

pub unlike : (a b : StartKeyOf) → (pool_hash_of a == pool_hash_of b) ≡ false → false ≡ same_pool a b
unlike a b e = go (bytes_eq a.row b.row) (bytes_eq a.user b.user) refl refl
  where
    go : (r u : Bool) → bytes_eq a.row b.row ≡ r → bytes_eq a.user b.user ≡ u → false ≡ (r && u)
    go true true p q =
        let same : pool_hash_of a ≡ pool_hash_of b = ap (λ (row : List ℕ). pool_hash row a.user) ((bytes_eq-Decides a.row b.row).0 p) ∙ ap (λ (user : List ℕ). pool_hash b.row user) ((bytes_eq-Decides a.user b.user).0 q) in
        absurd (true≢false (sym (eq-eqb (pool_hash_of a) (pool_hash_of b) same) ∙ e))
    go true false p q = refl
    go false u p q = refl

and_false : (x : Bool) → (x && false) ≡ false
and_false true = refl
and_false false = refl

apart : (r u h p d s : Bool) → (r && u) ≡ false → (r && (h && (p && (d && (u && s))))) ≡ false
apart false u h p d s e = refl
apart true u h p d s e = ap (λ (v : Bool). h && (p && (d && (v && s)))) e ∙ (ap (λ (v : Bool). h && (p && v)) (and_false d) ∙ (ap (λ (v : Bool). h && v) (and_false p) ∙ and_false h))

-- keys of two pools are two
pub other_pool : (a b : StartKeyOf) → same_pool a b ≡ false → same_key a b ≡ false
other_pool a b e = apart (bytes_eq a.row b.row) (bytes_eq a.user b.user) (same_host a.host b.host) (a.port == b.port) (bytes_eq a.dbname b.dbname) (same_pairs a.parameters b.parameters) e
