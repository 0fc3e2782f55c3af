-- Whose secret the server of a client's link is told (PgBouncer manual, "Section [databases]": user, password).
use Rattle.std.specs.Prelude.{if◌then◌else◌, Option, None, Some, is_some, option_map}
use Rattle.message_view.specs.Bodies.{Text}
use Rattle.ini_config.specs.declared.database_rows.DbRow.{DbRow}
use Rattle.ini_config.specs.Tables.{row_for}
use Rattle.user_file.specs.declared.user_table.UserRow.{UserRow}
use Rattle.user_file.specs.declared.secrets.Secret.{Secret}
use Rattle.user_file.specs.declared.secrets.Secret.TheVariants.{Unusable}
use Rattle.user_file.specs.Secrets.{secret_of}
use Rattle.user_file.specs.Users.{user_named}
use Rattle.session_values.specs.State.{StartKeyOf}
use Rattle.login_core.specs.Logins.{LoginView, RevealsTo, names_user}
use Rattle.login_laws.specs.Laws.{IsNamed}
use Rattle.pool_serve.specs.declared.opening.LinkSecret.{LinkSecret}
use Rattle.pool_serve.specs.declared.opening.LinkSecret.TheVariants as link

-- of a user whom a row names: the row's password, as the user file writes secrets; without one that of the user file, and where that has none,
-- one that answers nothing
abbrev pub named_secret : Option Text → Option UserRow → Secret
named_secret (Some password) user = secret_of password
named_secret None (Some user) = user.secret
named_secret None None = Unusable

-- a client's own user has that of the user file
abbrev pub secret_by : Option DbRow → Option UserRow → Option Secret
secret_by None user = option_map (λ u. u.secret) user
secret_by (Some row) user = if is_some row.user then Some (named_secret row.password user) else option_map (λ u. u.secret) user

abbrev pub link_secret : LoginView → StartKeyOf → Option Secret
link_secret v key = secret_by (row_for key.row v.settings.rows) (user_named key.user v.users.rows)

abbrev pub RevealsToLink : LoginView → StartKeyOf → Option Text → Type 0
RevealsToLink v key revealed = RevealsTo (names_user (row_for key.row v.settings.rows)) v.settings.auth_type (user_named key.user v.users.rows) revealed

abbrev pub IsItsUser : Option DbRow → Text → Type 0
IsItsUser None user = Unit {0}
IsItsUser (Some row) user = IsNamed row.user user

-- what is taken for it
abbrev pub secret_in : LinkSecret → Secret
secret_in (link.OfRow secret) = secret
secret_in (link.OfUsers secret) = secret.now
