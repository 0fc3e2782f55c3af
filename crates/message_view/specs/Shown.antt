-- The parts that a view shows.
use Rattle.std.specs.Prelude.{ℕ, List}
use Rattle.std.specs.Borrow.{Bor}
use Rattle.std.specs.Int.{w32, cast_unsigned}
use Rattle.frame_view.specs.Answers.{LiesAt}
use Rattle.message_view.specs.declared.views.Target as declared
use Rattle.message_view.specs.declared.views.Target.TheVariants.{Statement, Portal}
use Rattle.message_view.specs.declared.views.ExecuteView.{ExecuteView}
use Rattle.message_view.specs.declared.parse_and_bind.ParseView.{ParseView}
use Rattle.message_view.specs.declared.parse_and_bind.BindView.{BindView}
use Rattle.message_view.specs.Left.{codes_left, oids_left, values_left}
use Rattle.message_view.specs.Bodies.{Parse, Bind, Text, Target, OfStatement, OfPortal}

abbrev pub shown_target : declared.Target → Target
shown_target (Statement name) = OfStatement name.now
shown_target (Portal name) = OfPortal name.now

-- the name of a target lies there
abbrev pub TargetLiesAt : declared.Target → Bor (List ℕ) → ℕ → Type 0
TargetLiesAt (Statement name) body i = LiesAt name body i
TargetLiesAt (Portal name) body i = LiesAt name body i

-- the row limit as the unsigned number of the same bytes
abbrev pub shown_execute : ExecuteView → Text × ℕ
shown_execute v = (v.portal.now, cast_unsigned w32 v.limit)

abbrev pub shown_parse : ParseView → Parse
shown_parse v = record { name = v.name.now; query = v.query.now; oids = oids_left v.oids }

abbrev pub shown_bind : BindView → Bind
shown_bind v = record { portal = v.portal.now; statement = v.statement.now; formats = codes_left v.formats; given = values_left v.given; results = codes_left v.results }
