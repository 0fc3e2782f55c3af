-- What a link's receipt says of it, after a move of no byte.
use Rattle.std.proofs.Common.{ℕ, List, [], append-nil, subst}
use Rattle.std.specs.List.{flat_map}
use Rattle.frame_view.specs.Frames.{spelling}
use Rattle.session_run_laws.specs.Laws.{discard_all}
use Rattle.link_model.specs.Dialogues.{start_packets}
use Rattle.link_model.specs.Stages.{packets_bytes}
use Rattle.server_end.specs.Standing.{Standing, Moves}
use Rattle.server_end.proofs.Both.{moves_got}
use Rattle.link_run.specs.Receipts.{by_start, by_reset, UntouchedIsClean}

-- a move, and then one of no byte
still : (a b c : Standing) (put got : List ℕ) → Moves a put b got → Moves b [] c [] → Moves a put c got
still a b c put got x y = subst (λ (g : List ℕ). Moves a put c g) (append-nil got) (moves_got a b c put got [] x y)

pub untouched_is_clean : UntouchedIsClean
untouched_is_clean key _ _ at _ (by_start {at = clean} x) m = by_start (record {
  began = x.began;
  is_new = x.is_new;
  given = x.given;
  replies = x.replies;
  moves = still x.began clean at (packets_bytes (start_packets key x.given)) (flat_map spelling x.replies) x.moves m;
  answers = x.answers;
  keyed = x.keyed;
  reported = x.reported;
})
untouched_is_clean key _ _ at _ (by_reset {used = used} {at = clean} came lease d) m = by_reset came lease (record {
  answer = d.answer;
  moves = still used clean at (spelling discard_all) (flat_map spelling d.answer) d.moves m;
  each = d.each;
  whole = d.whole;
  known = d.known;
  told = d.told;
  back = d.back;
})
