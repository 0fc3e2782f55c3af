-- What a client reveals of its user's secret.
use Rattle.std.proofs.Common.{◌≡◌, ◌∙◌, ap, inl, inr, Option, Some, None, refl, sym, subst, Bool, true, false}
use Rattle.std.specs.Prelude.{IfSome, if◌then◌else◌, is_some, option_map}
use Rattle.scram.specs.Keys.{is_client_key, revealed}
use Rattle.scram.specs.declared.keys.ServerKeys.{ServerKeys}
use Rattle.ini_config.specs.declared.option_values.AuthType.{AuthType}
use Rattle.ini_config.specs.declared.option_values.AuthType.TheVariants.{Trust, Plain, Md5, ScramSha256}
use Rattle.user_file.specs.declared.secrets.Secret.{Secret}
use Rattle.user_file.specs.declared.secrets.Secret.TheVariants as secret
use Rattle.user_file.specs.declared.user_table.UserRow.{UserRow}
use Rattle.user_file.specs.Salts.{keys_for, keys_of}
use Rattle.user_file.specs.Secrets.{IsRevealedOf, accepts_md5, client_key_by, is_verified, is_verifier, revealed_by}
use Rattle.param_track.specs.StartKeys.{Text}
use Rattle.login_core.specs.declared.dialogue.Verdict.{Verdict}
use Rattle.login_core.specs.declared.dialogue.Verdict.TheVariants as verdict
use Rattle.ini_config.specs.declared.database_rows.DbRow.{DbRow}
use Rattle.ini_config.specs.declared.option_values.Settings.{Settings}
use Rattle.ini_config.specs.Tables.{row_for}
use Rattle.user_file.specs.Users.{UsersOf, user_named}
use Rattle.session_values.specs.State.{StartKeyOf}
use Rattle.login_core.specs.Dialogue.{has_verifier, row_in}
use Rattle.login_core.specs.Logins.{IfToLink, IsRevealedTo, RevealsOf, RevealsTo, RevealsUnder, named_key, names_user}

pub unverified : (s : Secret) → is_verifier s ≡ false → IsRevealedOf s None
unverified (secret.Plain own) e = refl
unverified (secret.Md5 own) e = refl
unverified (secret.Scram v) e = absurd cc
unverified secret.Unusable e = refl

-- an MD5 answer is no verifier's
pub answered : (s : Secret) (user salt given : Text) → accepts_md5 s user salt given ≡ true → IsRevealedOf s None
answered (secret.Plain own) user salt given e = refl
answered (secret.Md5 own) user salt given e = refl
answered (secret.Scram v) user salt given e = absurd cc
answered secret.Unusable user salt given e = refl

chosen : (b : Bool) (x k : Text) → Some k ≡ (if b then Some x else None) → (b ≡ true) × (x ≡ k)
chosen true x k e = (refl, cc)
chosen false x k e = absurd cc

both : (a b : Bool) → (if a then b else false) ≡ true → b ≡ true
both true b e = e
both false b e = absurd cc

-- a password that is right reveals the verifier's client key
pub verified : (s : Secret) (password : Text) (r : Option Text) → is_verifier s ≡ true → r ≡ revealed_by s password → is_some r ≡ true → IsRevealedOf s r
verified (secret.Plain own) password r v e i = absurd cc
verified (secret.Md5 own) password r v e i = absurd cc
verified secret.Unusable password r v e i = absurd cc
verified (secret.Scram v) password None w e i = absurd cc
verified (secret.Scram v) password (Some k) w e i =
    let c = chosen (is_verified v password) (client_key_by v password) k e in
    subst (λ (x : Text). is_client_key v.keys.stored x ≡ true) c.1 (both _ (is_client_key v.keys.stored (client_key_by v password)) c.0)

-- and so does a proof
pub by_proof : (stored auth given client : Text) → Some client ≡ revealed stored auth given → is_client_key stored client ≡ true
by_proof stored auth given client e =
    let c = chosen _ _ client e in
    subst (λ (x : Text). is_client_key stored x ≡ true) c.1 c.0

under : (auth : AuthType) (user : Option UserRow) (r : Option Text) → RevealsOf user r → RevealsUnder auth user r
under Trust user r h = inr h
under Plain user r h = h
under Md5 user r h = h
under ScramSha256 user r h = h

proved_of : (s : Secret) (salt client : Text) → IfSome (keys_of s salt) (λ (k : ServerKeys). is_client_key k.stored client ≡ true) → IsRevealedOf s (if is_verifier s then Some client else None)
proved_of (secret.Plain own) salt client h = refl
proved_of (secret.Md5 own) salt client h = refl
proved_of (secret.Scram v) salt client h = h
proved_of secret.Unusable salt client h = refl

proved_for : (user : Option UserRow) (salt client : Text) → IfSome (keys_for user salt) (λ (k : ServerKeys). is_client_key k.stored client ≡ true) → RevealsOf user (if has_verifier user then Some client else None)
proved_for None salt client h = refl
proved_for (Some user) salt client h = proved_of user.secret salt client h

-- a client that proved to have the client key of its name's keys
pub proved : (auth : AuthType) (user : Option UserRow) (salt client : Text) (judged : Option ServerKeys) (r : Option Text) → judged ≡ keys_for user salt → IfSome judged (λ (k : ServerKeys). is_client_key k.stored client ≡ true) → r ≡ (if has_verifier user then Some client else None)
    → RevealsUnder auth user r
proved auth user salt client judged r j h e =
    under auth user r (subst (RevealsOf user) (sym e) (proved_for user salt client (subst (λ (k : Option ServerKeys). IfSome k (λ (x : ServerKeys). is_client_key x.stored client ≡ true)) j h)))

-- of who isn't asked nothing may be known
pub unasked : (auth : AuthType) (user : Option UserRow) (v : Verdict) → auth ≡ Trust → IfToLink v (RevealsUnder auth user None)
unasked auth user verdict.ToLink e = subst (λ (a : AuthType). RevealsUnder a user None) (sym e) (inl refl)
unasked auth user verdict.ToConsole e = tt
unasked auth user verdict.Wrong e = tt
unasked auth user verdict.Nowhere e = tt

pub if_to_link : {P : Type 0} (v : Verdict) → P → IfToLink v P
if_to_link verdict.ToLink p = p
if_to_link verdict.ToConsole p = tt
if_to_link verdict.Wrong p = tt
if_to_link verdict.Nowhere p = tt

-- whom the row names is told nothing of what a client reveals
pub named_reveals : (s : Settings) (users : UsersOf) (key link : StartKeyOf) → Some link ≡ named_key (row_in s users key.row key.user).database key → IsRevealedTo (row_in s users link.row link.user) None
unfolding row_in
named_reveals s users key link e = go (row_for key.row s.rows) refl e
  where
    named : (row : DbRow) → row_for key.row s.rows ≡ Some row → (u : Option Text) → row.user ≡ u → Some link ≡ option_map (λ (user : Text). record key { user = user }) u → IsRevealedTo (row_in s users link.row link.user) None
    named row o None u h = absurd cc
    named row o (Some user) u h =
        let same : record key { user = user } ≡ link = cc in
        let is_named : names_user (row_for key.row s.rows) ≡ true = ap names_user o ∙ ap is_some u in
        subst (λ (k : StartKeyOf). IsRevealedTo (row_in s users k.row k.user) None) same
        (subst (λ (b : Bool). RevealsTo b s.auth_type (user_named user users.rows) None) (sym is_named) refl)

    go : (o : Option DbRow) → row_for key.row s.rows ≡ o → Some link ≡ named_key o key → IsRevealedTo (row_in s users link.row link.user) None
    go None o h = absurd cc
    go (Some row) o h = named row o row.user refl h
