-- A client's login, and what it leads to.
use Rattle.std.proofs.Common.{◌≡◌, ◌⊎◌, ℕ, Bool, true, List, [], refl, sym, ap, ap₂, ◌∙◌, subst, Option, None, Some}
use Rattle.std.specs.declared.sync.Arc.{Arc}
use Rattle.std.specs.Arc.{arc_value}
use Rattle.message_view.specs.declared.KeyWord.{KeyWord}
use Rattle.message_view.specs.declared.refusal.Refusal.{Refusal}
use Rattle.message_view.specs.declared.refusal.Refusal.TheVariants.{OutOfMemory}
use Rattle.ini_config.specs.Bounds.{AreWithinBounds}
use Rattle.ini_config.specs.Tables.{row_for as row_of_database}
use Rattle.ini_config.specs.declared.database_rows.DbRow.{DbRow}
use Rattle.ini_config.specs.declared.option_values.Settings.{Settings}
use Rattle.user_file.specs.Users.{UsersOf, user_named}
use Rattle.session_values.specs.State.{Address, CatalogueOf, StartKeyOf}
use Rattle.link_model.specs.Standing.{ClientFacts}
use Rattle.login_core.specs.Talk.End.{Stopped as StoppedFor}
use Rattle.login_core.specs.Dialogue.{Refused as RefusedBy, Rows, login_among, row_in}
use Rattle.login_core.specs.Logins.{LoginView, RevealsTo, names_user, rows_of}
use Rattle.login_core.specs.Laws.{names_in, row_for}
use Rattle.login_core.specs.Solo.{solo_in}
use Rattle.login_laws.specs.Laws.{BoundedRowsAreLawful, IsOfRow, PassedKeysAreLinkKeys, PassedKeysAreOfTheirRows}
use Rattle.login_run.specs.Runs.{Arrived, Awaits, Cancelling, Console, Gone, IsAllGiven, IsKeyOf, IsPiece, IsRun, IsSameLogin, Passed, PhaseOf, RunView, Stopped, Talking}
use Rattle.login_run.specs.Laws.{AllowedBy, IsAtPiece, PassedRunsAreLetIn, PassedRunsHavePassed, RunsAreAllowed, RunsStandAtPieces, own}
use Rattle.link_desk.specs.Homes.{HomeOf}
use Rattle.link_desk.specs.Refusing.{RefusesArrival}
use Rattle.pool_serve.specs.declared.logged_in.LoggedIn.{LoggedIn}
use Rattle.pool_serve.specs.declared.final_message.FinalMessage.{FinalMessage}
use Rattle.pool_serve.specs.declared.final_message.FinalMessage.TheVariants as last
use Rattle.pool_serve.specs.Causes.{HasFault}
use Rattle.pool_serve.specs.LinkSecrets.{IsItsUser, RevealsToLink, secret_by}
use Rattle.pool_serve.specs.Serving.{IsLoggedIn, IsServed, IsServedUnder, LetsIn, MayEnd, Serves, limit_of, owed}
use Rattle.pool_serve.proofs.Causing.{arrival_fault}
use Rattle.pool_serve.proofs.Owing.{behind_login}

-- ---- the same login

pub same_both : (a b c : RunView) → IsSameLogin a b → IsSameLogin b c → IsSameLogin a c
same_both a b c x y = record { settings = y.settings ∙ x.settings; users = y.users ∙ x.users; word = y.word ∙ x.word; tells = y.tells ∙ x.tells }

owes : (Address → CatalogueOf) → Rows → KeyWord → List Bool → List ℕ → List (List ℕ)
owes catalogue rows word marks bytes = solo_in catalogue (row_for rows (names_in bytes)) word marks bytes

same_owed : (catalogue : Address → CatalogueOf) (v w : LoginView) (marks : List Bool) (bytes : List ℕ) → w.settings ≡ v.settings → w.users ≡ v.users → w.word ≡ v.word → own catalogue w marks bytes ≡ own catalogue v marks bytes
same_owed catalogue v w marks bytes s u k =
    ap₂ (λ (r : Rows) (x : KeyWord). solo_in catalogue (row_for r (names_in bytes)) x marks bytes) (ap₂ (λ (a : Settings) (b : UsersOf). row_in a b) s u) k

pub same_rows : (old new : RunView) → IsSameLogin old new → rows_of new.login ≡ rows_of old.login
same_rows old new s = ap₂ row_in s.settings s.users

abbrev AtLogin : List Bool → (Address → CatalogueOf) → Rows → KeyWord → ClientFacts → Type 0
AtLogin marks catalogue rows word c = AllowedBy (λ (r : Refusal). ((login_among rows word c.taken).ended ≡ StoppedFor (RefusedBy r)) ⊎ (r ≡ OutOfMemory)) c.given (owes catalogue rows word marks c.taken)

same_fault : (old new : RunView) (taken : List ℕ) (r : Refusal) → IsSameLogin old new → HasFault (rows_of new.login) new.login.word new.login.settings.max_packet_size taken r → HasFault (rows_of old.login) old.login.word old.login.settings.max_packet_size taken r
same_fault old new taken r s h =
    subst (λ (x : Settings). HasFault (rows_of old.login) old.login.word x.max_packet_size taken r) s.settings
    (subst (λ (k : KeyWord). HasFault (rows_of old.login) k new.login.settings.max_packet_size taken r) s.word (subst (λ (rows : Rows). HasFault rows new.login.word new.login.settings.max_packet_size taken r) (same_rows old new s) h))

same_under : (marks : List Bool) (catalogue : Address → CatalogueOf) (old new : RunView) (c : ClientFacts) (word : FinalMessage) → IsSameLogin old new → IsServedUnder marks catalogue new.login c word → IsServedUnder marks catalogue old.login c word
unfolding row_in owes
same_under marks catalogue old new c last.Nothing s h = subst (λ (k : KeyWord). AtLogin marks catalogue (rows_of old.login) k c) s.word (subst (λ (rows : Rows). AtLogin marks catalogue rows new.login.word c) (same_rows old new s) h)
same_under marks catalogue old new c (last.Refusal r) s h = (
  subst (λ (ps : List (List ℕ)). IsAtPiece c.given ps) (same_owed catalogue old.login new.login marks c.taken s.settings s.users s.word) h.0,
  same_fault old new c.taken r s h.1,
)
same_under marks catalogue old new c (last.Error error) s h =
    subst (λ (ps : List (List ℕ)). MayEnd c.given ps (last.Error error)) (same_owed catalogue old.login new.login marks c.taken s.settings s.users s.word) h

pub same_served : (home : HomeOf) (old new : RunView) (c : ClientFacts) (word : FinalMessage) → IsSameLogin old new → IsServed home new.login c word → IsServed home old.login c word
same_served home old new c word s h = (h.0, (h.1.0, same_under h.0 home.catalogue old new c word s h.1.1))

-- ---- a login that leads nowhere

pub run_ends : RunsAreAllowed → (home : HomeOf) (old new : RunView) (c : ClientFacts) → IsSameLogin old new → IsRun new → c ≡ new.client → old.client.tells ≡ true → IsServed home old.login c last.Nothing
run_ends law home old new c s x e t =
    same_served home old new c last.Nothing s
    (subst (λ (d : ClientFacts). IsServed home new.login d last.Nothing) (sym e) ([], (λ e. refl, law new home.catalogue [] x (s.tells ∙ t))))

arrived_piece : (v : RunView) → v.phase ≡ Arrived → IsRun v → IsPiece v.said
arrived_piece v e x = (subst (λ (p : PhaseOf). Awaits p v.said v.login) e x.1).0

pub arrival_ends : RunsStandAtPieces → (home : HomeOf) (v : RunView) (c : ClientFacts) (r : Refusal) → RefusesArrival r → v.phase ≡ Arrived → IsAllGiven v → IsRun v → c ≡ v.client → v.client.tells ≡ true → IsServed home v.login c (last.Refusal r)
arrival_ends law home v c r h p n x e t =
    subst (λ (d : ClientFacts). IsServed home v.login d (last.Refusal r)) (sym e) ([], (λ e. refl, (law v home.catalogue [] x t (arrived_piece v p x) n, arrival_fault (rows_of v.login) v.login.word v.login.settings.max_packet_size v.client.taken r h)))

-- ---- a client that was let in

pub key_is : {Z : Type 0} (p : PhaseOf) (o : Option (Arc StartKeyOf Z)) (k : Arc StartKeyOf Z) → o ≡ Some k → IsKeyOf p o → p ≡ Passed (arc_value k)
key_is p o k e h = key_of p k (subst (IsKeyOf p) e h)
  where
    key_of : {Z : Type 0} (q : PhaseOf) (l : Arc StartKeyOf Z) → IsKeyOf q (Some l) → q ≡ Passed (arc_value l)
    key_of (Passed key) l i = ap Passed (sym i)
    key_of Talking l i = absurd cc
    key_of Arrived l i = absurd cc
    key_of Console l i = absurd cc
    key_of (Cancelling key) l i = absurd cc
    key_of Stopped l i = absurd cc
    key_of Gone l i = absurd cc

pub is_logged_in : BoundedRowsAreLawful → PassedKeysAreLinkKeys → PassedKeysAreOfTheirRows → PassedRunsHavePassed → (v : RunView) (g : LoggedIn) → IsRun v → v.phase ≡ Passed (arc_value g.key) → g.login ≡ v.login → AreWithinBounds v.login.settings → IsLoggedIn g
unfolding row_in
is_logged_in bounded keys rows passed v g x e l b =
    let p = passed v (arc_value g.key) x e in
    let lawful = bounded v.login.settings v.login.users b in
    let k = keys (rows_of v.login) v.login.word p.0 [] (arc_value g.key) lawful p.1 in
    record {
      key = (k.client, k.dbname);
      row = subst (λ (w : LoginView). IsOfRow (row_of_database (arc_value g.key).row w.settings.rows) (arc_value g.key)) (sym l) (rows (rows_of v.login) v.login.word p.0 [] (arc_value g.key) lawful p.1).1;
      settings = subst (λ (w : LoginView). AreWithinBounds w.settings) (sym l) b;
      revealed = subst (λ (w : LoginView). RevealsToLink w (arc_value g.key) w.revealed) (sym l) (subst (λ (q : PhaseOf). Awaits q v.said v.login) e x.1).1;
    }

pub its_user : (row : Option DbRow) (key : StartKeyOf) → IsOfRow row key → IsItsUser row key.user
its_user None key h = tt
its_user (Some row) key h = h.user

-- the premise hangs on the login's settings and users alone
pub still_lets_in : (home : HomeOf) (v w : LoginView) → w.settings ≡ v.settings → w.users ≡ v.users → LetsIn home v → LetsIn home w
still_lets_in home v w s u l = record {
  follow = l.follow;
  accept = λ key secret revealed nonce own named r.
      l.accept key secret revealed nonce
      (subst (λ (x : Settings). IsItsUser (row_of_database key.row x.rows) key.user) s own)
      (subst (λ (x : Settings). secret_by (row_of_database key.row x.rows) (user_named key.user v.users.rows) ≡ Some secret) s (subst (λ (x : UsersOf). secret_by (row_of_database key.row w.settings.rows) (user_named key.user x.rows) ≡ Some secret) u named))
      (subst (λ (x : Settings). RevealsTo (names_user (row_of_database key.row x.rows)) x.auth_type (user_named key.user v.users.rows) revealed) s
      (subst (λ (x : UsersOf). RevealsTo (names_user (row_of_database key.row w.settings.rows)) w.settings.auth_type (user_named key.user x.rows) revealed) u r));
}

pub logged_in_ends : PassedRunsAreLetIn → (home : HomeOf) (old new : RunView) (g : LoggedIn) (before after : ClientFacts) (word : FinalMessage) → IsSameLogin old new → IsRun new → new.phase ≡ Passed (arc_value g.key) → IsAllGiven new → before ≡ new.client → g.word ≡ new.login.word → g.login ≡ new.login → old.client.tells ≡ true
    → Serves (limit_of g) home.strikable before after (owed home.catalogue g) word → IsServed home old.login after word
logged_in_ends law home old new g before after word s x p n e w l t m =
    same_served home old new after word s (behind_login home new g before after word e w l (law new home.catalogue (arc_value g.key) x (s.tells ∙ t) p n) m)
