-- What a server at rest answers to DISCARD ALL, as a reset reads it.
use Rattle.std.proofs.Common.{◌≡◌, ◌⊎◌, inl, inr, ⊎_elim, ℕ, Bool, true, false, List, [], ◌∷◌, ◌++◌, ◌<◌, length, drop, length-drop, refl, sym, ap, ap₂, ◌∙◌, append_assoc, append-nil, subst, arith}
use Rattle.std.specs.Prelude.{◌||◌, if◌then◌else◌, bytes_eq, codes}
use Rattle.std.specs.List.{flat_map, AllByRecursion}
use Rattle.std.proofs.lemmas.Bool.{cases_Bool, true≢false}
use Rattle.frame_view.specs.declared.FrameError.{FrameError}
use Rattle.frame_view.specs.declared.Side.TheVariants.{Client, Server}
use Rattle.frame_view.specs.declared.frames.TheConstants.{MAX_FRAME}
use Rattle.frame_view.specs.Frames.{AreBytes, FrameOf, IsFrame, Front, AFrame, Lacks, Faulty, cut_after, front, frames, spelling}
use Rattle.frame_view.proofs.Cuts.{front-spelling}
use Rattle.frame_view.proofs.Growth.{front-grows}
use Rattle.frame_view.proofs.Splitting.{frames-split}
use Rattle.message_view.specs.Messages.{command_complete, parameter_status, ready_for_query}
use Rattle.start_keys.specs.StartPairs.{Text}
use Rattle.session_values.specs.declared.block.Block.TheVariants.{Outside}
use Rattle.session_values.specs.declared.parameter.Parameter.{Parameter}
use Rattle.session_values.specs.Parameters.{reported_parameters, name}
use Rattle.session_values.specs.State.{State, CatalogueOf, Answer, answers, report_of, reports_from, status}
use Rattle.session_values.specs.Step.{step, first_mark, has_mark, run_frames}
use Rattle.session_run_laws.specs.Laws.{discard_all, discard_replies}
use Rattle.session_run_laws.specs.Starts.{Resets}
use Rattle.session_run_laws.proofs.SessionsByName.{discard_all_gives_fresh, resets_are_read}
use Rattle.server_end.specs.Stages.{Server as TheServer, Stage, packets_marks, MayTakeAll, answers as answers_to}
use Rattle.server_end.specs.Standing.{Standing, Passed, marks_since, was_struck}
use Rattle.server_end.specs.Links.{IsResting}
use Rattle.server_end.proofs.InSession.{InSession, in_session}
use Rattle.server_end.proofs.Splits.{SplitsOff, split_whole}
use Rattle.link_run.specs.declared.reply.Answered.{Answered}
use Rattle.link_run.specs.declared.reply.Answered.TheVariants.{Nothing, Tag, All, Other}
use Rattle.link_run.specs.declared.reply.TheConstants.{MAX_REPLY}
use Rattle.link_run.specs.Dialogues.{answered_by, answered_by_all, IsResetAnswer}
use Rattle.link_run.specs.Resets.{ResetsAreAnswered, at_rest, reads, ResetView, IsResetFrom, IsDisturbed}
use Rattle.link_run.proofs.Answering.{asked, all_ends, not_other, some_answer}
use Rattle.link_run.proofs.Resetting.{all_client, fresh_of}

-- ---- it is the whole answer of a reset

report_aside : (p : Parameter) (v r : Text) (gs : List FrameOf) → answered_by_all Tag (report_of p v r ++ gs) ≡ answered_by_all Tag gs
report_aside p v r gs = by (bytes_eq v r)
  where
    by : (b : Bool) → answered_by_all Tag ((if b then [] else (parameter_status (name p) v ∷ [])) ++ gs) ≡ answered_by_all Tag gs
    by true = refl
    by false = refl

reports_aside : (ps : List Parameter) (vs rs : List Text) (gs : List FrameOf) → answered_by_all Tag (reports_from ps vs rs ++ gs) ≡ answered_by_all Tag gs
reports_aside [] vs rs gs = refl
reports_aside (p ∷ ps) [] rs gs = refl
reports_aside (p ∷ ps) (v ∷ vs) [] gs = refl
reports_aside (p ∷ ps) (v ∷ vs) (r ∷ rs) gs =
    ap (answered_by_all Tag) (append_assoc (report_of p v r) (reports_from ps vs rs) gs) ∙ report_aside p v r (reports_from ps vs rs ++ gs) ∙ reports_aside ps vs rs gs

pub replies_answer : ResetsAreAnswered
replies_answer origin s = reports_aside reported_parameters origin.defaults s.reported (ready_for_query (status Outside) ∷ [])

-- ---- what came begins it

-- What came is a beginning of a whole answer, and nothing came before all was sent.
pub record IsAnswering (v : ResetView) : Type 0 where
  replies : List FrameOf
  lost : List ℕ
  answer : IsResetAnswer replies
  short : AllByRecursion (IsFrame Server MAX_REPLY) replies
  front : v.received ++ lost ≡ flat_map spelling replies
  asked : (v.received ≡ []) ⊎ (v.unsent ≡ [])

no_bytes : (a b : List ℕ) → a ++ b ≡ [] → (a ≡ []) × (b ≡ [])
no_bytes [] b e = (refl, e)
no_bytes (x ∷ a) b e = absurd cc

nothing_came : (v : ResetView) → v.received ≡ [] → IsAnswering v
nothing_came v e = record {
  replies = command_complete (codes "DISCARD ALL") ∷ ready_for_query (status Outside) ∷ [];
  lost = flat_map spelling (command_complete (codes "DISCARD ALL") ∷ ready_for_query (status Outside) ∷ []);
  answer = refl;
  short = (record { of_type = refl; size = omega arith }, (record { of_type = refl; size = omega arith }, tt));
  front = rw e refl;
  asked = inl e;
}

-- by the frames that the server took
by_taken : (v : ResetView) (cat : CatalogueOf) (s origin : State) (marks : List Bool) (fs more : List FrameOf) (left lost : List ℕ) → first_mark marks ≡ false → step cat s false discard_all ≡ answers origin (discard_replies origin s)
    → Resets s origin → asked ≡ fs ++ more → left ++ v.unsent ≡ flat_map spelling more ++ [] → flat_map spelling (run_frames cat s marks fs).replies ≡ v.received ++ lost → IsAnswering v
unfolding run_frames
by_taken v cat s origin marks [] more left lost u d r e b o = nothing_came v (no_bytes v.received lost (sym o)).0
by_taken v cat s origin marks (f ∷ g ∷ fs) more left lost u d r e b o = absurd cc
by_taken v cat s origin marks (f ∷ []) more left lost u d r e b o =
    let same : discard_all ≡ f = cc in
    let none : [] ≡ more = cc in
    let replies : (step cat s (first_mark marks) f).replies ++ [] ≡ discard_replies origin s =
    append-nil (step cat s (first_mark marks) f).replies ∙ ap₂ (λ (m : Bool) (g : FrameOf). (step cat s m g).replies) u (sym same) ∙ ap (λ (a : Answer). a.replies) d in
    record {
      replies = discard_replies origin s;
      lost = lost;
      answer = replies_answer origin s;
      short = r.short;
      front = sym o ∙ ap (flat_map spelling) replies;
      asked = inr (no_bytes left v.unsent (b ∙ ap (λ (gs : List FrameOf). flat_map spelling gs ++ []) (sym none))).1;
    }

or_false : (a b : Bool) → (a || b) ≡ false → a ≡ false
or_false true b e = absurd (true≢false e)
or_false false b e = refl

first_unmarked : (marks : List Bool) → has_mark marks ≡ false → first_mark marks ≡ false
first_unmarked [] e = refl
first_unmarked (m ∷ ms) e = or_false m (has_mark ms) e

-- of a server that stood at rest, where no cancel struck the reset
pub answering : (start : Standing) (v : ResetView) (x : IsResetFrom start v) (r : IsResting start v.key) → was_struck start v.link ≡ false → Passed start x.sent (marks_since start v.link) v.received → IsAnswering v
answering start v x r none y =
    let ms : List Bool = packets_marks y.taken in
    let unmarked : has_mark ms ≡ false = ap has_mark y.marks_are ∙ none in
    let w : TheServer = start.server in
    let cat : CatalogueOf = w.catalogue in
    let s : State = r.session in
    let h = fresh_of v.key start r in
    let i : InSession w s y.taken = in_session w s y.taken (subst (λ (t : Stage). MayTakeAll w t y.taken) r.idle.is_open y.lawful) in
    let sent : x.sent ≡ flat_map spelling i.frames ++ y.left = ap (λ (q : List ℕ). q ++ x.sent) (sym r.idle.inbox) ∙ y.inbox ∙ ap (λ (q : List ℕ). q ++ y.left) i.bytes in
    let all : flat_map spelling asked ≡ flat_map spelling i.frames ++ (y.left ++ v.unsent) = append-nil (spelling discard_all) ∙ sym x.all ∙ ap (λ (q : List ℕ). q ++ v.unsent) sent ∙ append_assoc (flat_map spelling i.frames) y.left v.unsent in
    let a : SplitsOff asked i.frames [] (y.left ++ v.unsent) = split_whole Client MAX_FRAME asked i.frames (y.left ++ v.unsent) (omega arith) (record { of_type = refl; size = omega arith }, tt) (all_client i.frames i.sent) all in
    let replied : flat_map spelling (answers_to w start.stage y.taken) ≡ flat_map spelling (run_frames cat s ms i.frames).replies = ap (λ (t : Stage). flat_map spelling (answers_to w t y.taken)) r.idle.is_open ∙ ap (flat_map spelling) i.replies in
    by_taken v cat s h.origin ms i.frames a.more y.left y.lost (first_unmarked ms unmarked) (discard_all_gives_fresh cat v.key s h.origin h h.is_fresh r.rests) (resets_are_read cat v.key s h.origin r.reached h.is_fresh r.rests)
    a.all a.bytes (sym replied ∙ ap (λ (q : List ℕ). q ++ flat_map spelling (answers_to w start.stage y.taken)) (sym r.idle.outbox) ∙ y.outbox)

-- ---- so it is never something else

goes_on : (a : Answered) (fs gs : List FrameOf) → answered_by_all a (fs ++ gs) ≡ answered_by_all (answered_by_all a fs) gs
goes_on a [] gs = refl
goes_on a (f ∷ fs) gs = goes_on (answered_by a f) fs gs

rest_keeps : (a : Answered) (x : Front) → ((fault : FrameError) → x ≡ Faulty fault → ⊥) → at_rest a x ≡ a
rest_keeps a (AFrame kind body rest) n = refl
rest_keeps a (Lacks k) n = refl
rest_keeps a (Faulty fault) n = absurd (n fault refl)

-- no head that is not lawful stands where whole frames begin
lawful_rest : (bytes lost : List ℕ) (more : List FrameOf) (fault : FrameError) → AllByRecursion (IsFrame Server MAX_REPLY) more → bytes ++ lost ≡ flat_map spelling more ++ [] → front Server MAX_REPLY bytes ≡ Faulty fault → ⊥
lawful_rest bytes lost [] fault h e x =
    let n : bytes ≡ [] = (no_bytes bytes lost e).0 in
    let y : front Server MAX_REPLY [] ≡ Faulty fault = ap (front Server MAX_REPLY) (sym n) ∙ x in
    absurd cc
lawful_rest bytes lost (f ∷ more) fault h e x =
    let a : front Server MAX_REPLY (bytes ++ lost) ≡ Faulty fault = (front-grows Server MAX_REPLY bytes lost).fault fault x in
    let b : front Server MAX_REPLY (spelling f ++ (flat_map spelling more ++ [])) ≡ AFrame f.kind f.body (flat_map spelling more ++ []) = front-spelling Server MAX_REPLY f (flat_map spelling more ++ []) (omega arith) h.0 in
    let c : bytes ++ lost ≡ spelling f ++ (flat_map spelling more ++ []) = e ∙ append_assoc (spelling f) (flat_map spelling more) [] in
    let d : Faulty fault ≡ AFrame f.kind f.body (flat_map spelling more ++ []) = sym a ∙ ap (front Server MAX_REPLY) c ∙ b in
    absurd cc

none_in : (frames Server MAX_REPLY []).frames ≡ []
unfolding cut_after
none_in = refl

module _ (v : ResetView) (x : IsAnswering v) (bytes : AreBytes v.received) where
  got : List FrameOf
  got = (frames Server MAX_REPLY v.received).frames

  rest : List ℕ
  rest = (frames Server MAX_REPLY v.received).rest

  splits : SplitsOff x.replies got [] (rest ++ x.lost)
  unfolding got rest
  splits =
      let s = frames-split Server MAX_REPLY v.received bytes in
      split_whole Server MAX_REPLY x.replies got (rest ++ x.lost) (omega arith) x.short s.each (sym x.front ∙ ap (λ (q : List ℕ). q ++ x.lost) s.whole ∙ append_assoc (flat_map spelling got) rest x.lost)

  read_as : reads (frames Server MAX_REPLY v.received) ≡ answered_by_all Nothing got
  unfolding got rest
  read_as = rest_keeps (answered_by_all Nothing got) (front Server MAX_REPLY rest) (λ fault. lawful_rest rest x.lost splits.more fault (back got splits.more (subst (AllByRecursion (IsFrame Server MAX_REPLY)) splits.all x.short)) splits.bytes)
    where
      back : (fs gs : List FrameOf) → AllByRecursion (IsFrame Server MAX_REPLY) (fs ++ gs) → AllByRecursion (IsFrame Server MAX_REPLY) gs
      back [] gs h = h
      back (f ∷ fs) gs h = back fs gs h.1

  then_answer : answered_by_all (answered_by_all Nothing got) splits.more ≡ All
  then_answer = sym (goes_on Nothing got splits.more) ∙ ap (answered_by_all Nothing) (sym splits.all) ∙ x.answer

  pub never_other : reads (frames Server MAX_REPLY v.received) ≡ Other → ⊥
  never_other e = not_other splits.more (ap (λ (a : Answered). answered_by_all a splits.more) (sym e ∙ read_as) ∙ then_answer)

  pub all_came : reads (frames Server MAX_REPLY v.received) ≡ All → ((frames Server MAX_REPLY v.received).rest ≡ []) × (v.unsent ≡ [])
  unfolding got rest
  all_came e =
      let d : answered_by_all Nothing got ≡ All = sym read_as ∙ e in
      let none : splits.more ≡ [] = all_ends splits.more (ap (λ (a : Answered). answered_by_all a splits.more) (sym d) ∙ then_answer) in (
        (no_bytes rest x.lost (splits.bytes ∙ ap (λ (gs : List FrameOf). flat_map spelling gs ++ []) none)).0,
        ⊎_elim (λ n. some_answer got d (ap (λ (b : List ℕ). (frames Server MAX_REPLY b).frames) n ∙ none_in)) (λ u. u) x.asked,
      )

-- ---- a reset of an end that follows

pub reset_answering : (v : ResetView) (start : Standing) (x : IsResetFrom start v) → v.link.follows ≡ true → was_struck start v.link ≡ false → IsAnswering v
reset_answering v start x f none = by (cases_Bool start.lives)
  where
    began : start.follows ≡ true
    began = sym x.moves.follows ∙ f

    by : (start.lives ≡ true) ⊎ (start.lives ≡ false) → IsAnswering v
    by (inl lives) = answering start v x (x.used.rests began lives).stands none (x.moves.passed began lives)
    by (inr dead) = nothing_came v (x.moves.silent dead).1

pub no_other : (v : ResetView) (bs : List ℕ) (a : Answered) → bs ≡ v.received → AreBytes bs → a ≡ reads (frames Server MAX_REPLY bs) → (start : Standing) (x : IsResetFrom start v) → a ≡ Other → v.link.follows ≡ true → was_struck start v.link ≡ false → ⊥
no_other v bs a same b e start x d f none = never_other v (reset_answering v start x f none) (subst AreBytes same b) (ap (λ (q : List ℕ). reads (frames Server MAX_REPLY q)) (sym same) ∙ sym e ∙ d)

-- once the answer is whole, all was sent and nothing stands behind it
pub none_early : (v : ResetView) (bs : List ℕ) (a : Answered) → bs ≡ v.received → AreBytes bs → a ≡ reads (frames Server MAX_REPLY bs) → (start : Standing) (x : IsResetFrom start v) → a ≡ All → v.link.follows ≡ true → was_struck start v.link ≡ false → ((frames Server MAX_REPLY bs).rest ≡ []) × (v.unsent ≡ [])
none_early v bs a same b e start x d f none =
    let c = all_came v (reset_answering v start x f none) (subst AreBytes same b) (ap (λ (q : List ℕ). reads (frames Server MAX_REPLY q)) (sym same) ∙ sym e ∙ d) in
    (ap (λ (q : List ℕ). (frames Server MAX_REPLY q).rest) same ∙ c.0, c.1)

pub some_unsent : (n : ℕ) → n < 17 → drop n (spelling discard_all) ≡ [] → ⊥
some_unsent n h e = omega (arith, h, ap length e, length-drop n (spelling discard_all))

-- what can't be where no cancel struck it
pub struck_unless : (v : ResetView) (start : Standing) → IsResetFrom start v → (v.link.follows ≡ true → was_struck start v.link ≡ false → ⊥) → IsDisturbed start v.link
struck_unless v start x h f = by (was_struck start v.link) (h (x.moves.follows ∙ f))
  where
    by : (b : Bool) → (b ≡ false → ⊥) → b ≡ true
    by true n = refl
    by false n = absurd (n refl)
