-- What a link's server is in where its traffic is settled, and at the end of a reset.
use Rattle.std.proofs.Common.{◌≡◌, ℕ, Bool, false, List, [], ◌∷◌, ◌++◌, length, ◌⊎◌, inl, inr, refl, sym, ap, ◌∙◌, subst, append_assoc, append-nil, arith, Result, Ok}
use Rattle.std.specs.List.{flat_map, AllByRecursion}
use Rattle.frame_view.specs.declared.Side.TheVariants.{Client, Server}
use Rattle.frame_view.specs.Frames.{FrameOf, IsFrame, spelling}
use Rattle.session_values.specs.declared.cause.Cause.{Cause}
use Rattle.session_values.specs.State.{State, CatalogueOf, StartKeyOf, Answer, fresh}
use Rattle.session_values.specs.Step.{step, run_frames}
use Rattle.session_laws.specs.Laws.{IsSent, IsAtRest, Reaches, HasKey, discard_all}
use Rattle.session_laws.proofs.ByName.{discard_all_gives_fresh, discard_all_is_frame, reached_has_key}
use Rattle.session_run_laws.specs.Settling.{IsAnswered, IsQuiet}
use Rattle.session_run_laws.proofs.ByName.{run_replies_are_frames, settled_is_quiet}
use Rattle.session_run_laws.proofs.GoesOn.{unmarked_run}
use Rattle.link_model.proofs.Splits.{SplitsOff, split_whole}
use Rattle.world_steps.proofs.Sole.{all_client}
use Rattle.frame_view.specs.declared.frames.TheConstants.{MAX_FRAME}
use Rattle.world_steps.specs.Clients.{IsUnstruck}
use Rattle.world_steps.specs.Links.{IsSettled, IsReset, Link}
use Rattle.world_steps.specs.Relation.{Runs}

nil_left : {A : Type 0} (xs ys : List A) → xs ++ ys ≡ [] → xs ≡ []
nil_left [] ys e = refl
nil_left (x ∷ xs) ys e = cc

right_nil : {A : Type 0} (xs ys : List A) → xs ++ ys ≡ [] → ys ≡ []
right_nil [] ys e = e
right_nil (x ∷ xs) ys e = cc

abbrev pub ok : State → Result State Cause
ok s = Ok s

-- its server stands in this session, and nothing is under way
pub record IsDone (y : Link) (s : State) : Type 0 where
  pub session : y.session ≡ s
  pub inbox : y.inbox ≡ []
  pub outbox : y.outbox ≡ []

module _ (cat : CatalogueOf) (key : StartKeyOf) (base : State) (y : Link) (r : Runs cat base y) where
  -- nothing was sent
  no_frames : (fs : List FrameOf) → flat_map spelling fs ≡ [] → fs ≡ []
  no_frames [] e = refl
  no_frames (f ∷ fs) e = absurd (go f.kind _ e)
    where
      go : (a : ℕ) (xs : List ℕ) → a ∷ xs ≡ [] → ⊥
      go a xs p = cc

  none_taken : y.sent ≡ [] → r.taken ≡ []
  none_taken none = no_frames r.taken (nil_left (flat_map spelling r.taken) y.inbox (sym r.sent_is ∙ none))

  pub unsent : y.sent ≡ [] → IsDone y base
  unfolding run_frames
  unsent none =
      let empty = none_taken none in
      record {
        session = r.session_is ∙ ap (λ (fs : List FrameOf). (run_frames cat base y.struck fs).next) empty;
        inbox = right_nil (flat_map spelling r.taken) y.inbox (sym r.sent_is ∙ none);
        outbox = right_nil y.received y.outbox (nil_left (y.received ++ y.outbox) r.told.rest (r.told.is ∙ ap (λ (fs : List FrameOf). flat_map spelling (run_frames cat base y.struck fs).replies) empty));
      }

  -- so nothing was struck
  no_marks : (marks : List Bool) → length marks ≡ 0 → marks ≡ []
  no_marks [] e = refl
  no_marks (m ∷ marks) e = absurd (omega (arith, e))

  pub none_struck : y.sent ≡ [] → y.struck ≡ []
  none_struck none = no_marks y.struck (r.marked ∙ ap (λ (fs : List FrameOf). length fs) (none_taken none))

  -- all was answered
  record AllAnswered (went : List FrameOf) : Type 0 where
    done : IsDone y (run_frames cat base y.struck went).next
    rests : IsAtRest (run_frames cat base y.struck went).next
    are_sent : AllByRecursion IsSent went

  all_answered : (went came : List FrameOf) → Reaches cat key base → AllByRecursion (IsFrame Client MAX_FRAME) went → y.sent ≡ flat_map spelling went →
      AllByRecursion (IsFrame Server MAX_FRAME) came → y.received ≡ flat_map spelling came → IsAnswered went came → AllAnswered went
  all_answered went came reached wents sent cames received answered =
      let said : List FrameOf = (run_frames cat base y.struck r.taken).replies in
      let a : SplitsOff went r.taken [] y.inbox = split_whole Client MAX_FRAME went r.taken y.inbox (omega arith) wents (all_client r.taken r.are_sent) (sym sent ∙ r.sent_is) in
      let told : flat_map spelling said ≡ flat_map spelling came ++ (y.outbox ++ r.told.rest) = sym r.told.is ∙ append_assoc y.received y.outbox r.told.rest ∙ ap (λ (l : List ℕ). l ++ (y.outbox ++ r.told.rest)) received in
      let b : SplitsOff said came [] (y.outbox ++ r.told.rest) = split_whole Server MAX_FRAME said came (y.outbox ++ r.told.rest) (omega arith) (run_replies_are_frames cat key base y.struck r.taken reached r.are_sent) cames told in
      let q : IsQuiet cat base y.struck went came r.taken a.more b.more = settled_is_quiet cat base y.struck went came r.taken a.more b.more answered a.all b.all in
      let all : r.taken ≡ went = q.all in
      record {
        done = record {
          session = r.session_is ∙ ap (λ (fs : List FrameOf). (run_frames cat base y.struck fs).next) all;
          inbox = a.bytes ∙ ap (λ (fs : List FrameOf). flat_map spelling fs ++ []) q.none_left;
          outbox = nil_left y.outbox r.told.rest (b.bytes ∙ ap (λ (fs : List FrameOf). flat_map spelling fs ++ []) q.none_more);
        };
        rests = q.rest;
        are_sent = subst (AllByRecursion IsSent) all r.are_sent;
      }

  -- where the traffic is settled, the server has answered all and rests
  pub record Rests : Type 0 where
    pub frames : List FrameOf
    pub are_sent : AllByRecursion IsSent frames
    pub done : IsDone y (run_frames cat base y.struck frames).next
    pub rests : IsAtRest (run_frames cat base y.struck frames).next

  settled_by : Reaches cat key base → IsAtRest base → (h : IsSettled y.sent y.received) → (h.went ≡ []) ⊎ IsAnswered h.went h.came → Rests
  unfolding run_frames
  settled_by reached rests h (inl none) = record { frames = []; are_sent = tt; done = unsent (h.sent_are.bytes_are ∙ ap (flat_map spelling) none); rests = rests }
  settled_by reached rests h (inr answered) =
      let a = all_answered h.went h.came reached h.sent_are.each h.sent_are.bytes_are h.received_are.each h.received_are.bytes_are answered in
      record { frames = h.went; are_sent = a.are_sent; done = a.done; rests = a.rests }

  pub settled_rests : Reaches cat key base → IsAtRest base → IsSettled y.sent y.received → Rests
  settled_rests reached rests h = settled_by reached rests h h.answered

  -- at the end of a reset the session is fresh and nothing is under way
  pub record IsRenewed : Type 0 where
    pub is_fresh : fresh cat key ≡ Ok y.session
    pub inbox : y.inbox ≡ []
    pub outbox : y.outbox ≡ []

  one_run : (run_frames cat base [] (discard_all ∷ [])).next ≡ (step cat base false discard_all).next
  unfolding run_frames
  one_run = refl

  discard_run : IsUnstruck y.struck → (run_frames cat base y.struck (discard_all ∷ [])).next ≡ (step cat base false discard_all).next
  discard_run unstruck = ap (λ (a : Answer). a.next) (unmarked_run cat base y.struck (discard_all ∷ []) unstruck) ∙ one_run

  pub reset_done : Reaches cat key base → IsAtRest base → IsUnstruck y.struck → IsReset y.sent y.received → IsRenewed
  reset_done reached rests unstruck h =
      let a = all_answered (discard_all ∷ []) h.came reached (discard_all_is_frame, tt) (h.sent_is ∙ sym (append-nil (spelling discard_all))) h.received_are.each h.received_are.bytes_are h.answered in
      let own : HasKey cat key base = reached_has_key cat key base reached in
      let same : y.session ≡ own.origin = a.done.session ∙ discard_run unstruck ∙ ap (λ (t : Answer). t.next) (discard_all_gives_fresh cat key base own.origin own own.is_fresh rests) in
      record {
        is_fresh = own.is_fresh ∙ ap ok (sym same);
        inbox = a.done.inbox;
        outbox = a.done.outbox;
      }
