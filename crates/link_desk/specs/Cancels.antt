-- What a desk answers to a CancelRequest.
use Rattle.std.specs.Prelude.{◌≡◌}
use Rattle.message_view.specs.declared.views.KeyView.{KeyView}
use Rattle.book_model.specs.Book.{Book}
use Rattle.book_model.specs.Outcomes.{apply}
use Rattle.book_model.specs.Outcomes.Event.{Cancel}
use Rattle.book_model.specs.Places.{IsPlaceOf}
use Rattle.book_model.specs.declared.events.Reply.{Reply}
use Rattle.book_model.specs.declared.events.Reply.TheVariants as reply
use Rattle.link_desk.specs.declared.answers.Cancelled.{Cancelled}
use Rattle.link_desk.specs.declared.answers.Cancelled.TheVariants.{Strike, Nobody, Last}
use Rattle.link_desk.specs.declared.answers.Strike.{Strike as StrikeOf}
use Rattle.link_desk.specs.declared.answers.Target.{Target}

-- the session that a cancel is for
abbrev pub target_of : StrikeOf → Target
target_of s = record { link = s.link; server = s.server }

-- by what its book answered: a cancel for the link that was found, which goes to that link's place; nobody; or else that it has made its
-- last decision
abbrev pub IsAnswered : Book → Reply → Cancelled → Type 0
IsAnswered b (reply.Strike link server) (Strike s) = (link ≡ s.link) × (server ≡ s.server) × IsPlaceOf b s.link s.host s.port
IsAnswered b (reply.Strike link server) _ = ⊥
IsAnswered b reply.Nobody r = r ≡ Nobody
IsAnswered b _ r = r ≡ Last

abbrev pub IsAnswerToCancel : Book → KeyView → Cancelled → Type 0
IsAnswerToCancel b client r = IsAnswered b (apply b (Cancel client)).reply r
