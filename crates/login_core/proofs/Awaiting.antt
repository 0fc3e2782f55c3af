-- What the cutters of packets tell of the bytes that are held.
use Rattle.std.proofs.Common.{◌≡◌, ℕ, ◌<◌, List, [], refl, sym, ap, ap₂, ◌∙◌, Bool, true, false}
use Rattle.std.specs.Borrow.{Bor}
use Rattle.frame_view.specs.declared.FrameError.{FrameError}
use Rattle.frame_view.specs.declared.FirstStep.TheVariants as first
use Rattle.frame_view.specs.declared.Frame.{Frame}
use Rattle.frame_view.specs.declared.Step.TheVariants as message
use Rattle.frame_view.specs.declared.Side.TheVariants.{Client}
use Rattle.frame_view.specs.declared.client.TheConstants.{PASSWORD_MESSAGE, TERMINATE}
use Rattle.frame_view.specs.Frames.{Front, AFrame, Lacks, Faulty, front, Start, Cancels, AsksTls, AsksGss, FirstFront, AFirst, LacksFirst, FaultyFirst, first_front}
use Rattle.frame_view.specs.Answers.{Tells, TellsFirst}
use Rattle.message_view.specs.declared.KeyWord.{KeyWord}
use Rattle.message_view.specs.declared.refusal.Refusal.{Refusal}
use Rattle.message_view.specs.declared.refusal.Refusal.TheVariants.{MalformedClientMessage}
use Rattle.message_view.specs.Reading.{startup_of}
use Rattle.session_values.specs.State.{StartKeyOf}
use Rattle.login_core.specs.declared.steps.LoginStep.{LoginStep}
use Rattle.login_core.specs.declared.steps.LoginStep.TheVariants as step
use Rattle.login_core.specs.declared.steps.Question.TheVariants as question
use Rattle.login_core.specs.Talk.{Cut}
use Rattle.login_core.specs.Talk.Cut.{Whole, Need, Bad}
use Rattle.login_core.specs.Talk.Reaction.{Stops}
use Rattle.login_core.specs.Dialogue.{Rows, Packet, First, Message, Reason, Refused, Left, AtFirst, Asked, Asking, refusal_of, of_first, of_front, packet, react, key_of, to_answer, to_message, longest_message}
use Rattle.login_core.specs.Laws.{PacketsGrow}
use Rattle.login_core.specs.Logins.{Awaiting, AwaitsPacket, Over, Fits, StepIs, StartMeans, IsReaction, TakesMemory, left_after}
use Rattle.login_core.proofs.Turning.{turned_bad, turned_stop, turned_left, turned_cancel, turned_more, tls_from, gss_from, tls_twice, gss_twice, turned_start, answered_by}

abbrev IsWhole : Cut Packet Reason → Packet → Type 0
IsWhole c p = (rest : List ℕ) × (c ≡ Whole p rest)

told_start : (part : Bor (List ℕ)) (f : FirstFront) → TellsFirst (first.Startup part) f → IsWhole (of_first f) (First (Start part.now))
told_start part (AFirst (Start t) rest) h = (rest, ap (λ (x : List ℕ). Whole (First (Start x)) rest) (sym h))
told_start part (AFirst (Cancels p s) rest) h = absurd h
told_start part (AFirst AsksTls rest) h = absurd h
told_start part (AFirst AsksGss rest) h = absurd h
told_start part (LacksFirst m) h = absurd h
told_start part (FaultyFirst o) h = absurd h

told_cancel : (i k : ℕ) (f : FirstFront) → TellsFirst (first.Cancel i k) f → IsWhole (of_first f) (First (Cancels i k))
told_cancel i k (AFirst (Start t) rest) h = absurd h
told_cancel i k (AFirst (Cancels p s) rest) h = (rest, ap₂ (λ (x y : ℕ). Whole (First (Cancels x y)) rest) (sym h.0) (sym h.1))
told_cancel i k (AFirst AsksTls rest) h = absurd h
told_cancel i k (AFirst AsksGss rest) h = absurd h
told_cancel i k (LacksFirst m) h = absurd h
told_cancel i k (FaultyFirst o) h = absurd h

told_tls : (f : FirstFront) → TellsFirst first.Tls f → IsWhole (of_first f) (First AsksTls)
told_tls (AFirst (Start t) rest) h = absurd h
told_tls (AFirst (Cancels p s) rest) h = absurd h
told_tls (AFirst AsksTls rest) h = (rest, refl)
told_tls (AFirst AsksGss rest) h = absurd h
told_tls (LacksFirst m) h = absurd h
told_tls (FaultyFirst o) h = absurd h

told_gss : (f : FirstFront) → TellsFirst first.Gss f → IsWhole (of_first f) (First AsksGss)
told_gss (AFirst (Start t) rest) h = absurd h
told_gss (AFirst (Cancels p s) rest) h = absurd h
told_gss (AFirst AsksTls rest) h = absurd h
told_gss (AFirst AsksGss rest) h = (rest, refl)
told_gss (LacksFirst m) h = absurd h
told_gss (FaultyFirst o) h = absurd h

told_need : (n : ℕ) (f : FirstFront) → TellsFirst (first.Need n) f → (m : ℕ) × (of_first f ≡ Need m) × (0 < m)
told_need n (LacksFirst m) h = (m, refl, h.1)
told_need n (AFirst p rest) h = absurd h
told_need n (FaultyFirst o) h = absurd h

told_fault : (fault : FrameError) (f : FirstFront) → TellsFirst (first.Bad fault) f → of_first f ≡ Bad (Refused (refusal_of fault))
told_fault fault (AFirst p rest) h = absurd h
told_fault fault (LacksFirst m) h = absurd h
told_fault fault (FaultyFirst o) h = ap (λ (x : FrameError). Bad (Refused (refusal_of x))) (sym h)

told_whole : (frame : Frame) (bytes : List ℕ) (f : Front) → Tells (message.Whole frame) bytes f → IsWhole (of_front f) (Message frame.kind frame.body.now)
told_whole frame bytes (AFrame kind body rest) h = (rest, ap (λ (k : ℕ). Whole (Message k body) rest) (sym h.kind_is) ∙ ap (λ (b : List ℕ). Whole (Message frame.kind b) rest) (sym h.body_is))
told_whole frame bytes (Lacks m) h = absurd h
told_whole frame bytes (Faulty o) h = absurd h

told_lack : (n : ℕ) (bytes : List ℕ) (f : Front) → Tells (message.Need n) bytes f → (m : ℕ) × (of_front f ≡ Need m) × (0 < m)
told_lack n bytes (Lacks m) h = (m, refl, h.1)
told_lack n bytes (AFrame kind body rest) h = absurd h
told_lack n bytes (Faulty o) h = absurd h

told_bad : (fault : FrameError) (bytes : List ℕ) (f : Front) → Tells (message.Bad fault) bytes f → of_front f ≡ Bad (Refused MalformedClientMessage)
told_bad fault bytes (Faulty o) h = refl
told_bad fault bytes (AFrame kind body rest) h = absurd h
told_bad fault bytes (Lacks m) h = absurd h

to_stop : (row : _) (word : KeyWord) (key : StartKeyOf) (asking : Asking) (kind : ℕ) (body : List ℕ) → kind ≡ TERMINATE → to_message row word key asking kind body ≡ Stops [] Left
to_stop row word key asking kind body e = ap (λ (k : ℕ). to_message row word key asking k body) e

module _ (grow : PacketsGrow) (rows : Rows) (word : KeyWord) where
  module _ (tls gss : Bool) (held : List ℕ) (fits : Fits (AwaitsPacket (AtFirst tls gss)) held) where
    pub hears_start : (part : Bor (List ℕ)) (s : LoginStep) (to : Awaiting) → TellsFirst (first.Startup part) (first_front held) → StartMeans (key_of rows (startup_of part.now)) s to →
        StepIs rows word (AwaitsPacket (AtFirst tls gss)) held s to (left_after s held)
    hears_start part s to h e = let t = told_start part (first_front held) h in turned_start grow rows word tls gss held part.now t.0 s to fits t.1 e

    pub hears_cancel : (i k : ℕ) → TellsFirst (first.Cancel i k) (first_front held) → StepIs rows word (AwaitsPacket (AtFirst tls gss)) held (step.Cancel i k) Over []
    hears_cancel i k h = let t = told_cancel i k (first_front held) h in turned_cancel grow rows word tls gss held t.0 i k fits t.1

    pub hears_tls : tls ≡ false → TellsFirst first.Tls (first_front held) → StepIs rows word (AwaitsPacket (AtFirst tls gss)) held (step.Ask question.Encryption) (AwaitsPacket (AtFirst true gss)) []
    hears_tls e h = let t = told_tls (first_front held) h in tls_from grow rows word tls gss held t.0 e fits t.1

    pub hears_gss : gss ≡ false → TellsFirst first.Gss (first_front held) → StepIs rows word (AwaitsPacket (AtFirst tls gss)) held (step.Ask question.Encryption) (AwaitsPacket (AtFirst tls true)) []
    hears_gss e h = let t = told_gss (first_front held) h in gss_from grow rows word tls gss held t.0 e fits t.1

    pub hears_tls_twice : tls ≡ true → TellsFirst first.Tls (first_front held) → StepIs rows word (AwaitsPacket (AtFirst tls gss)) held (step.Refused MalformedClientMessage) Over []
    hears_tls_twice e h = let t = told_tls (first_front held) h in tls_twice grow rows word tls gss held t.0 e fits t.1

    pub hears_gss_twice : gss ≡ true → TellsFirst first.Gss (first_front held) → StepIs rows word (AwaitsPacket (AtFirst tls gss)) held (step.Refused MalformedClientMessage) Over []
    hears_gss_twice e h = let t = told_gss (first_front held) h in gss_twice grow rows word tls gss held t.0 e fits t.1

    pub hears_less : (n : ℕ) → TellsFirst (first.Need n) (first_front held) → StepIs rows word (AwaitsPacket (AtFirst tls gss)) held step.More (AwaitsPacket (AtFirst tls gss)) held
    hears_less n h = let t = told_need n (first_front held) h in turned_more grow rows word (AtFirst tls gss) held t.0 fits t.1 t.2

    pub hears_fault : (fault : FrameError) (r : Refusal) → TellsFirst (first.Bad fault) (first_front held) → r ≡ refusal_of fault → StepIs rows word (AwaitsPacket (AtFirst tls gss)) held (step.Refused r) Over []
    hears_fault fault r h e = turned_bad grow rows word (AtFirst tls gss) held r (told_fault fault (first_front held) h ∙ ap (λ (x : Refusal). Bad (Refused x)) (sym e))

  module _ (asking : Asking) (key : StartKeyOf) (held : List ℕ) (fits : Fits (AwaitsPacket (Asked asking key)) held) where
    pub hears_part : (n : ℕ) → Tells (message.Need n) held (front Client longest_message held) → StepIs rows word (AwaitsPacket (Asked asking key)) held step.More (AwaitsPacket (Asked asking key)) held
    hears_part n h = let t = told_lack n held (front Client longest_message held) h in turned_more grow rows word (Asked asking key) held t.0 fits t.1 t.2

    pub hears_bad : (fault : FrameError) → Tells (message.Bad fault) held (front Client longest_message held) → StepIs rows word (AwaitsPacket (Asked asking key)) held (step.Refused MalformedClientMessage) Over []
    hears_bad fault h = turned_bad grow rows word (Asked asking key) held MalformedClientMessage (told_bad fault held (front Client longest_message held) h)

    module _ (frame : Frame) (h : Tells (message.Whole frame) held (front Client longest_message held)) where
      whole : IsWhole (packet (Asked asking key) held) (Message frame.kind frame.body.now)
      whole = told_whole frame held (front Client longest_message held) h

      pub hears_end : frame.kind ≡ TERMINATE → StepIs rows word (AwaitsPacket (Asked asking key)) held step.Left Over []
      hears_end e = turned_left grow rows word (Asked asking key) held (Message frame.kind frame.body.now) whole.0 fits whole.1 (to_stop (rows key.row key.user) word key asking frame.kind frame.body.now e)

      pub hears_stop : react rows word (Asked asking key) (Message frame.kind frame.body.now) ≡ Stops [] (Refused MalformedClientMessage) → StepIs rows word (AwaitsPacket (Asked asking key)) held (step.Refused MalformedClientMessage) Over []
      hears_stop e = turned_stop grow rows word (Asked asking key) held (Message frame.kind frame.body.now) whole.0 MalformedClientMessage fits whole.1 e

      pub hears_answer : (s : LoginStep) (to : Awaiting) → frame.kind ≡ PASSWORD_MESSAGE → IsReaction (TakesMemory (rows key.row key.user) asking) (to_answer (rows key.row key.user) word key asking frame.body.now) s to →
          StepIs rows word (AwaitsPacket (Asked asking key)) held s to (left_after s held)
      hears_answer s to e d = answered_by grow rows word asking key held frame.body.now whole.0 frame.kind fits whole.1 e s to d
