-- The whole answer to a reset has one ReadyForQuery, the last frame, and it is idle.
use Rattle.std.proofs.Common.{◌≡◌, ℕ, Bool, true, false, List, [], ◌∷◌, refl, sym, ◌∙◌, arith, subst}
use Rattle.std.specs.Prelude.{◌||◌, ◌&&◌, ◌==◌, if◌then◌else◌, bytes_eq}
use Rattle.std.proofs.lemmas.Bool.{true≢false, eqb-true, ne_eqb}
use Rattle.std.proofs.lemmas.Slice.Eq.{bytes_eq-Decides}
use Rattle.frame_view.specs.Frames.{FrameOf}
use Rattle.frame_view.specs.declared.server.TheConstants.{COMMAND_COMPLETE, NOTICE_RESPONSE, PARAMETER_STATUS, READY_FOR_QUERY}
use Rattle.message_view.specs.declared.kinds.TheConstants.{IDLE}
use Rattle.session_run_laws.specs.Laws.{discard_all}
use Rattle.session_run_laws.specs.Settling.{count, is_ready, last_status, IsAnswered}
use Rattle.link_run.specs.declared.reply.Answered.TheVariants.{Nothing, Tag, All, Other}
use Rattle.link_run.specs.Dialogues.{is_aside, is_tag, is_idle, answered_by_all, IsResetAnswer}

pub not_other : {A : Type 0} (fs : List FrameOf) → answered_by_all Other fs ≡ All → A
not_other [] e = absurd cc
not_other (f ∷ fs) e = not_other fs e

pub all_ends : (fs : List FrameOf) → answered_by_all All fs ≡ All → fs ≡ []
all_ends [] e = refl
all_ends (f ∷ fs) e = not_other fs e

and_parts : (a b : Bool) → (a && b) ≡ true → (a ≡ true) × (b ≡ true)
and_parts true b e = (refl, e)
and_parts false b e = absurd (true≢false (sym e))

-- ---- which frames are no ReadyForQuery

not_ready : (k n : ℕ) → (n ≡ READY_FOR_QUERY → ⊥) → (k == n) ≡ true → (k == READY_FOR_QUERY) ≡ false
not_ready k n h e = ne_eqb k READY_FOR_QUERY (λ r. h (sym (eqb-true k n e) ∙ r))

aside_kind : (k : ℕ) (a b : Bool) → (k == NOTICE_RESPONSE) ≡ a → (k == PARAMETER_STATUS) ≡ b → (a || b) ≡ true → (k == READY_FOR_QUERY) ≡ false
aside_kind k true b e f h = not_ready k NOTICE_RESPONSE (λ r. absurd (omega (arith, r))) e
aside_kind k false true e f h = not_ready k PARAMETER_STATUS (λ r. absurd (omega (arith, r))) f
aside_kind k false false e f h = absurd (true≢false (sym h))

tag_kind : (f : FrameOf) → is_tag f ≡ true → is_ready f ≡ false
tag_kind f e = not_ready f.kind COMMAND_COMPLETE (λ r. absurd (omega (arith, r))) (and_parts (f.kind == COMMAND_COMPLETE) _ e).0

-- ---- the list

record OneReady (fs : List FrameOf) : Type 0 where
  one : count is_ready fs ≡ 1
  idle : (before : List ℕ) → last_status fs before ≡ IDLE ∷ []

skip : (f : FrameOf) (fs : List FrameOf) → is_ready f ≡ false → OneReady fs → OneReady (f ∷ fs)
skip f fs h x = record { one = rw h (omega (arith, x.one)); idle = λ before. rw h (x.idle before) }

only : (f : FrameOf) (fs : List FrameOf) → is_ready f ≡ true → f.body ≡ IDLE ∷ [] → fs ≡ [] → OneReady (f ∷ fs)
only f fs h b n = subst (λ (gs : List FrameOf). OneReady (f ∷ gs)) (sym n) (record { one = rw h refl; idle = λ before. rw h b })

idle_only : (f : FrameOf) (fs : List FrameOf) → is_idle f ≡ true → fs ≡ [] → OneReady (f ∷ fs)
idle_only f fs e n =
    let p = and_parts (f.kind == READY_FOR_QUERY) (bytes_eq f.body (IDLE ∷ [])) e in
    only f fs p.0 ((bytes_eq-Decides f.body (IDLE ∷ [])).0 p.1) n

after_tag : (f : FrameOf) (fs : List FrameOf) (a i : Bool) → is_aside f.kind ≡ a → is_idle f ≡ i → (answered_by_all Tag fs ≡ All → OneReady fs) → answered_by_all (if a then Tag else (if i then All else Other)) fs ≡ All → OneReady (f ∷ fs)
after_tag f fs true i e h next d = skip f fs (aside_kind f.kind (f.kind == NOTICE_RESPONSE) (f.kind == PARAMETER_STATUS) refl refl e) (next d)
after_tag f fs false true e h next d = idle_only f fs h (all_ends fs d)
after_tag f fs false false e h next d = not_other fs d

tagged : (fs : List FrameOf) → answered_by_all Tag fs ≡ All → OneReady fs
tagged [] d = absurd cc
tagged (f ∷ fs) d = after_tag f fs (is_aside f.kind) (is_idle f) refl refl (λ e. tagged fs e) d

before_tag : (f : FrameOf) (fs : List FrameOf) (a i : Bool) → is_aside f.kind ≡ a → is_tag f ≡ i → (answered_by_all Nothing fs ≡ All → OneReady fs) → answered_by_all (if a then Nothing else (if i then Tag else Other)) fs ≡ All → OneReady (f ∷ fs)
before_tag f fs true i e h next d = skip f fs (aside_kind f.kind (f.kind == NOTICE_RESPONSE) (f.kind == PARAMETER_STATUS) refl refl e) (next d)
before_tag f fs false true e h next d = skip f fs (tag_kind f h) (tagged fs d)
before_tag f fs false false e h next d = not_other fs d

one_ready : (fs : List FrameOf) → IsResetAnswer fs → OneReady fs
one_ready [] d = absurd cc
one_ready (f ∷ fs) d = before_tag f fs (is_aside f.kind) (is_tag f) refl refl (λ e. one_ready fs e) d

-- the one message of a reset
abbrev pub asked : List FrameOf
asked = discard_all ∷ []

pub is_answered : (fs : List FrameOf) → IsResetAnswer fs → IsAnswered asked fs
is_answered fs d =
    let o = one_ready fs d in
    record { equal = sym o.one; before = []; final = discard_all; last = refl; closing = refl; idle = o.idle [] }

pub some_answer : {A : Type 0} (fs : List FrameOf) → IsResetAnswer fs → fs ≡ [] → A
some_answer fs d e = absurd (none (subst IsResetAnswer e d))
  where
    none : IsResetAnswer [] → ⊥
    none h = absurd cc
