-- What is known of a pool beside its lease book.
use Rattle.std.specs.Prelude.{ℕ, List, [], Option, Some, None}
use Rattle.std.specs.Arc.{arc_value}
use Rattle.std.specs.declared.sync.Arc.{Arc}
use Rattle.message_view.specs.Bodies.{Text}
use Rattle.user_file.specs.declared.user_table.UserRow.{UserRow}
use Rattle.user_file.specs.Users.{UsersOf}
use Rattle.pool_figures.specs.declared.decisions.DecisionSeen.{DecisionSeen}
use Rattle.pool_figures.specs.declared.figures.Figures.{Figures}
use Rattle.pool_figures.specs.declared.seen.Activity.{Activity}

-- what went through a database, in all and in the last whole period
pub record DatabaseOf : Type 0 where
  pub name : Text
  pub total : Figures
  pub recent : Figures

-- ages in milliseconds; a link or a process of 0 is none
pub record ClientOf : Type 0 where
  pub number : ℕ
  pub user : Text
  pub database : Text
  pub host : Text
  pub port : ℕ
  pub age : ℕ
  pub activity : Activity
  pub since : ℕ
  pub link : ℕ
  pub process : ℕ
  pub figures : Figures

-- none, where they aren't known
abbrev pub users_in : {Z : Type 0} → Option (Arc UsersOf Z) → List UserRow
users_in None = []
users_in (Some users) = (arc_value users).rows

pub record SeenOf : Type 0 where
  pub databases : List DatabaseOf
  pub clients : List ClientOf
  pub users : List UserRow
  pub decisions : List DecisionSeen
  pub period : ℕ
  -- the seconds since 1970 began
  pub second : ℕ
