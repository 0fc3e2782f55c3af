-- The parameters that are followed have lawful names, and the key is lawful.
use Rattle.std.proofs.Common.{◌≡◌, ℕ, ◌+◌, ◌<◌, ◌≤◌, Bool, true, false, cond, List, [], ◌∷◌, length, Option, Some, None, Result, Ok, Err, refl, ap₂, arith, subst}
use Rattle.std.specs.Prelude.{not, ◌&&◌, ◌==◌, nat_lt}
use Rattle.std.proofs.lemmas.Bool.{false≢true, ltb-false, le-ltb}
use Rattle.std.specs.List.{AllByRecursion}
use Rattle.std.specs.Char.{to_ascii_lowercase}
use Rattle.std.specs.Str.{str_to_ascii_lowercase}
use Rattle.message_view.specs.Bodies.{HasNoZero}
use Rattle.ini_config.specs.OptionValues.{has_folded}
use Rattle.ini_config.specs.declared.database_rows.DbRow.{DbRow}
use Rattle.session_values.specs.Lawful.{IsLawfulParameter, IsFollowedName, IsClientKey}
use Rattle.session_values.specs.State.{StartKeyOf}
use Rattle.start_keys.specs.StartPairs.{put, folded}
use Rattle.param_track.specs.declared.StartKeyError.{StartKeyError}
use Rattle.param_track.specs.StartKeys.{Text, Pair, Names, user_in, database_in, is_followed, folds_to_identity, put_if_followed, parameters_in, key_at, unless}
use Rattle.param_track.proofs.Following.{followed-is}
use Rattle.key_laws.specs.Keys.{ArePairs}
use Rattle.key_laws.proofs.Choices.{choose}
use Rattle.key_laws.proofs.Lawful.{AreKept, put-kept, put-all, fold-keeps, user-plain, database-plain, some-text}
use Rattle.login_laws.specs.StartKeys.{IsLawfulRow, StartKeysAreClientKeys}

-- ---- names in lower case

lower_byte : (c : ℕ) → to_ascii_lowercase (to_ascii_lowercase c) ≡ to_ascii_lowercase c
lower_byte c = by (nat_lt c 65) (nat_lt c 91) refl refl
  where
    by : (a b : Bool) → nat_lt c 65 ≡ a → nat_lt c 91 ≡ b → to_ascii_lowercase (cond a c (cond b (c + 32) c)) ≡ cond a c (cond b (c + 32) c)
    by true b h k = rw h refl
    by false true h k = let low : 65 ≤ c = ltb-false c 65 h in rw (le-ltb (c + 32) 65 (omega (arith, low)), le-ltb (c + 32) 91 (omega (arith, low))) refl
    by false false h k = rw (h, k) refl

lower_again : (t : Text) → str_to_ascii_lowercase (str_to_ascii_lowercase t) ≡ str_to_ascii_lowercase t
lower_again [] = refl
lower_again (c ∷ t) = ap₂ (λ (x : ℕ) (xs : Text). x ∷ xs) (lower_byte c) (lower_again t)

-- ---- which are followed

not_both : (a b : Bool) → (not a && b) ≡ true → a ≡ false
not_both true b e = absurd (false≢true e)
not_both false b e = refl

followed-name : (names : Names) (p : Pair) → is_followed names p.0 ≡ true → IsFollowedName (folded p)
followed-name names p f = (lower_again p.0, not_both (folds_to_identity p.0) (has_folded names.followed p.0) f)

-- ---- parameters

-- lawful parameters in order, with names as they are followed
abbrev AreFollowed : List Pair → Type 0
AreFollowed ps = AreKept ps × AllByRecursion IsFollowedName ps

followed-step : (names : Names) (kept : List Pair) (p : Pair) → IsLawfulParameter p → AreFollowed kept → AreFollowed (put_if_followed names kept p)
followed-step names kept p h k =
    choose AreFollowed _ (put (folded p) kept) kept
    (λ e. (put-kept p kept h k.0, put-all IsFollowedName (folded p) kept (followed-name names p (followed-is names p.0 e)) k.1)) (λ e. k)

-- ---- the key

key_at-client : (row : Option DbRow) (database user : Text) (parameters : List Pair) → IsLawfulRow row → HasNoZero database → 0 < length user → HasNoZero user → AreFollowed parameters → IsClientKey (key_at row database user parameters)
key_at-client None database user parameters r d n u k = record {
  lawful = record { row = d; dbname = tt; user = u; has_user = n; has_dbname = tt; parameters = k.0.0; ordered = k.0.1 };
  names = k.1;
}
key_at-client (Some row) database user parameters r d n u k = record {
  lawful = record { row = d; dbname = r.dbname.1; user = u; has_user = n; has_dbname = r.dbname.0; parameters = k.0.0; ordered = k.0.1 };
  names = k.1;
}

abbrev IsClients : Result StartKeyOf StartKeyError → Type 0
IsClients (Ok key) = IsClientKey key
IsClients (Err fault) = Unit {0}

unless-client : (o : Option StartKeyError) (key : StartKeyOf) → IsClientKey key → IsClients (unless o key)
unless-client None key h = h
unless-client (Some fault) key h = tt

made : (row : Option DbRow) (names : Names) (pairs : List Pair) → IsLawfulRow row → ArePairs pairs → 0 < length (user_in pairs) → IsClientKey (key_at row (database_in pairs) (user_in pairs) (parameters_in names pairs))
made row names pairs r h n =
    let k : AreFollowed (parameters_in names pairs) = fold-keeps AreFollowed IsLawfulParameter (put_if_followed names) (followed-step names) [] pairs ((tt, tt), tt) h in
    key_at-client row (database_in pairs) (user_in pairs) (parameters_in names pairs) r (database-plain pairs h) n (user-plain pairs h) k

pub start-client : StartKeysAreClientKeys
start-client row names pairs key r h e =
    subst IsClients e (choose (λ (o : Option StartKeyError). IsClients (unless o (key_at row (database_in pairs) (user_in pairs) (parameters_in names pairs)))) (length (user_in pairs) == 0) _ _ (λ z. tt)
    (λ z. unless-client _ (key_at row (database_in pairs) (user_in pairs) (parameters_in names pairs)) (made row names pairs r h (some-text (length (user_in pairs)) z))))
