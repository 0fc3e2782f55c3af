-- What is shown of users and of the book's last decisions.
use Rattle.std.specs.Prelude.{ℕ, List, [], ◌∷◌, ◌++◌, decimal, map}
use Rattle.mini_sql.specs.Words.{Text}
use Rattle.user_file.specs.declared.user_table.UserRow.{UserRow}
use Rattle.pool_figures.specs.declared.decisions.DecisionSeen.{DecisionSeen}
use Rattle.pool_figures.specs.Seen.{SeenOf}

-- a user's name, and no pool mode of its own; of its secret nothing
unfoldable pub user_row : UserRow → List Text
user_row u = u.name ∷ [] ∷ []

abbrev pub users : SeenOf → List (List Text)
users x = map user_row x.users

-- its number, its pass, what happened to whom, and what was answered with which number
unfoldable pub decision_row : DecisionSeen → List Text
decision_row d = map decimal (d.number ∷ d.pass ∷ []) ++ d.event.now ∷ decimal d.of ∷ d.reply.now ∷ decimal d.to ∷ []

abbrev pub decisions : SeenOf → List (List Text)
decisions x = map decision_row x.decisions
