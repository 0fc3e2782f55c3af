-- What a server will still send, once these bytes follow those under way, where cancels strike those of its next frames that are
-- marked.
use Rattle.std.specs.Prelude.{◌≡◌, ℕ, zero, suc, Bool, true, List, [], ◌++◌, length}
use Rattle.std.specs.List.{flat_map}
use Rattle.frame_view.specs.Frames.{FrameOf, Front, AFrame, Lacks, Faulty, Start, Cancels, AsksTls, AsksGss, FirstFront, AFirst, LacksFirst, FaultyFirst, front, first_front, spelling}
use Rattle.frame_view.specs.declared.Side.TheVariants.{Client}
use Rattle.frame_view.specs.declared.frames.TheConstants.{MAX_FRAME}
use Rattle.session_run_laws.specs.Step.{later_marks, run_frames}
use Rattle.session_run_laws.specs.Service.{client_frames}
use Rattle.link_model.specs.Stages.{Server, Auth, Stage, Open, Before, Asked, Closed, Turn, begins, hears}
use Rattle.link_model.specs.Standing.{Standing, Moves, marks_since}

-- once it is asked nothing more
abbrev pub replies_open : Server → Stage → List Bool → List ℕ → List ℕ
replies_open v (Open s) marks bytes = flat_map spelling (run_frames v.catalogue s marks (client_frames bytes)).replies
replies_open v (Before auth) marks bytes = []
replies_open v (Asked start answer rest) marks bytes = []
replies_open v Closed marks bytes = []

-- a turn's replies, and those to what follows
abbrev pub turn_open : Server → Turn → List Bool → List ℕ → List ℕ
turn_open v t marks rest = flat_map spelling t.replies ++ replies_open v t.next marks rest

-- at the front of what comes, the answer to a question, and what `next` says to what follows it
abbrev pub at_front : (FrameOf → Turn) → (Stage → List Bool → List ℕ → List ℕ) → List Bool → Front → List ℕ
at_front hear next marks (AFrame kind body rest) =
    flat_map spelling (hear (record { kind = kind; body = body })).replies ++ next (hear (record { kind = kind; body = body })).next (later_marks marks) rest
at_front hear next marks (Lacks n) = []
at_front hear next marks (Faulty fault) = []

-- where at most so many questions are answered
abbrev pub replies_by : Server → ℕ → Stage → List Bool → List ℕ → List ℕ
replies_by v zero s marks bytes = replies_open v s marks bytes
replies_by v (suc n) (Asked start answer rest) marks bytes = at_front (hears v start answer rest) (replies_by v n) marks (front Client MAX_FRAME bytes)
replies_by v (suc n) (Open s) marks bytes = replies_open v (Open s) marks bytes
replies_by v (suc n) (Before auth) marks bytes = []
replies_by v (suc n) Closed marks bytes = []

-- the questions that are still to be answered
abbrev pub questions_left : Stage → ℕ
questions_left (Asked start answer rest) = suc (length rest.rounds)
questions_left (Before auth) = 0
questions_left (Open s) = 0
questions_left Closed = 0

abbrev pub replies_started : Server → Stage → List Bool → List ℕ → List ℕ
replies_started v s marks bytes = replies_by v (questions_left s) s marks bytes

-- while it waits for a StartupMessage
abbrev pub replies_before : Server → Auth → List Bool → FirstFront → List ℕ
replies_before v auth marks (AFirst (Start start) rest) = flat_map spelling (begins v auth start).replies ++ replies_started v (begins v auth start).next marks rest
replies_before v auth marks (AFirst (Cancels pid secret) rest) = []
replies_before v auth marks (AFirst AsksTls rest) = []
replies_before v auth marks (AFirst AsksGss rest) = []
replies_before v auth marks (LacksFirst n) = []
replies_before v auth marks (FaultyFirst fault) = []

abbrev pub replies_in : Server → Stage → List Bool → List ℕ → List ℕ
replies_in v (Before auth) marks bytes = replies_before v auth marks (first_front bytes)
replies_in v (Asked start answer rest) marks bytes = replies_started v (Asked start answer rest) marks bytes
replies_in v (Open s) marks bytes = replies_started v (Open s) marks bytes
replies_in v Closed marks bytes = replies_started v Closed marks bytes

abbrev pub future_with : List Bool → Standing → List ℕ → List ℕ
future_with marks at more = at.outbox ++ replies_in at.server at.stage marks (at.inbox ++ more)

-- A strike is noted with the frame that it strikes, so none is ahead of a server.
abbrev pub future : Standing → List ℕ → List ℕ
future at more = future_with [] at more

-- What a server has taken doesn't change what it will have sent: what it gave, and then its future, are what its future was
-- once the bytes that it accepted had come, by the strikes that it noted.
abbrev pub FuturesStay : Type 0
FuturesStay = (old new : Standing) (put got more : List ℕ) (marks : List Bool) → Moves old put new got → old.follows ≡ true → new.lives ≡ true → future_with (marks_since old new ++ marks) old (put ++ more) ≡ got ++ future_with marks new more

-- what came is a beginning of it
pub record ComesFrom (whole got : List ℕ) : Type 0 where
  pub lost : List ℕ
  pub both : got ++ lost ≡ whole

-- A death makes of a future one of its beginnings.
abbrev pub DeathsCut : Type 0
DeathsCut = (old new : Standing) (put got more : List ℕ) (marks : List Bool) → Moves old put new got → old.follows ≡ true → old.lives ≡ true → ComesFrom (future_with (marks_since old new ++ marks) old (put ++ more)) got
