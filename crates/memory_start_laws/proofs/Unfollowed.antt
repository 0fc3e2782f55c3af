-- An end that follows nothing, and tells that a link was started over it.
use Rattle.std.proofs.Common.{◌≡◌, ℕ, true, false, Bool, Ok, None, Some, List, [], ◌++◌, refl, sym, ap, ◌∙◌, append-nil}
use Rattle.std.proofs.lemmas.Bool.{true≢false}
use Rattle.message_view.specs.declared.kinds.TheConstants.{ASKS_NOTHING}
use Rattle.message_view.specs.Reading.{authentication_of, int32_at}
use Rattle.session_values.specs.State.{StartKeyOf}
use Rattle.link_model.specs.Stages.{let_in}
use Rattle.link_model.specs.Standing.{Standing, Moves}
use Rattle.link_model.proofs.Both.{none_since}
use Rattle.link_run.specs.Dialogues.{IsStartAnswer, Trusts}
use Rattle.link_run.specs.Receipts.{HasStarted, by_start}
use Rattle.memory_ends.specs.Gone.{shortest_welcome, start_of, welcome_of}
use Rattle.memory_start_laws.specs.Starts.{UnfollowedStartsAreClean}

-- the same end, before anything went over it
abbrev before : Standing → Standing
before at = record at { lives = true; accepted = []; given = [] }

moves_since : (at : Standing) (put got : List ℕ) → at.follows ≡ false → at.accepted ≡ put → at.given ≡ got → Moves (before at) put at got
moves_since at put got f a g = record {
  follows = refl;
  server = refl;
  dead = λ d. absurd (true≢false d);
  silent = λ d. absurd (true≢false d);
  accepted = a;
  given = g;
  noted = sym (append-nil at.struck) ∙ ap (λ (ms : List Bool). at.struck ++ ms) (sym (none_since (before at) at refl));
  unstruck = λ d. refl;
  served = λ w l. absurd (true≢false (sym w ∙ f));
  passed = λ w l. absurd (true≢false (sym w ∙ f));
}

lets_in : authentication_of let_in.body ≡ Ok (ASKS_NOTHING, [])
unfolding authentication_of int32_at
lets_in = refl

is_answer : IsStartAnswer shortest_welcome
is_answer = record {
  asking = [];
  lets_in = let_in;
  welcome = [];
  whole = refl;
  is_asking = (Trusts, tt);
  is_let_in = (refl, lets_in);
  is_welcome = tt;
}

has_started : (key : StartKeyOf) (at : Standing) → at.follows ≡ false → at.accepted ≡ start_of (Some key) → at.given ≡ welcome_of (Some key) → HasStarted key at None []
has_started key at f a g = record { began = before at; is_new = λ w. absurd (true≢false (sym w ∙ f)); given = []; replies = shortest_welcome; moves = moves_since at _ _ f a g; answers = is_answer; keyed = refl; reported = refl }

pub is_clean : UnfollowedStartsAreClean
is_clean key at f a g = record { came = by_start (has_started key at f a g); fresh = λ w. absurd (true≢false (sym w ∙ f)) }
