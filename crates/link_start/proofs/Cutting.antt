-- What ends a start is heard so whatever comes behind it.
use Rattle.std.proofs.Common.{◌≡◌, ℕ, ◌+◌, Bool, true, false, List, [], ◌∷◌, ◌++◌, drop, length, refl, sym, ap, ◌∙◌, subst}
use Rattle.std.specs.Prelude.{if◌then◌else◌}
use Rattle.std.proofs.lemmas.Bool.{true≢false}
use Rattle.frame_view.specs.declared.FrameError.{FrameError}
use Rattle.frame_view.specs.declared.Side.TheVariants.{Server}
use Rattle.frame_view.specs.Frames.{Cut, Front, AFrame, Lacks, Faulty, Stops, front, frames}
use Rattle.frame_view.proofs.Growth.{front-grows}
use Rattle.frame_view.proofs.Splitting.{frames-go_on, frames-stopped}
use Rattle.frame_view.proofs.Taking.{frames-front}
use Rattle.credentials.specs.Credentials.{CredentialOf}
use Rattle.link_start.specs.declared.start_reply.StartProgress.{StartProgress}
use Rattle.link_start.specs.declared.start_reply.StartProgress.TheVariants.{Nothing, Asked, Proved, LetIn, Ready, Refused, Other}
use Rattle.link_start.specs.Questions.{can_answer}
use Rattle.link_start.specs.StartReply.{if_lawful, before, heard_all, heard_cut, IsEnd, EndsAreHeard}
use Rattle.link_start.proofs.Hearing.{heard-append, other_stays, refused_stays, unanswered_stays}

-- what is heard with these frames and these bytes behind it
abbrev goes : CredentialOf → StartProgress → Cut → StartProgress
goes cred h cut = before cred (heard_all cred h cut.frames) cut.rest

stopped : (bytes : List ℕ) (z : Front) → front Server 65536 bytes ≡ z → Stops z → frames Server 65536 bytes ≡ record { frames = []; rest = bytes }
stopped bytes z e s = frames-stopped Server 65536 bytes (subst Stops (sym e) s)

faulty_stays : (cred : CredentialOf) (h : StartProgress) (rest more : List ℕ) (fault : FrameError) → front Server 65536 rest ≡ Faulty fault → ((bs : List ℕ) → before cred h bs ≡ if_lawful h (front Server 65536 bs))
    → goes cred h (frames Server 65536 (rest ++ more)) ≡ Other
faulty_stays cred h rest more fault e lawful =
    let stays : front Server 65536 (rest ++ more) ≡ Faulty fault = (front-grows Server 65536 rest more).fault fault e in
    ap (goes cred h) (stopped (rest ++ more) (Faulty fault) stays tt) ∙ lawful (rest ++ more) ∙ ap (if_lawful h) stays

-- where it isn't at an end yet, only a faulty head ends it
ends_if : (cred : CredentialOf) (h : StartProgress) (rest more : List ℕ) (z : Front) → front Server 65536 rest ≡ z → (IsEnd cred h → ⊥) → ((bs : List ℕ) → before cred h bs ≡ if_lawful h (front Server 65536 bs))
    → IsEnd cred (if_lawful h z) → goes cred h (frames Server 65536 (rest ++ more)) ≡ if_lawful h z
ends_if cred h rest more (AFrame kind body after) e n lawful i = absurd (n i)
ends_if cred h rest more (Lacks m) e n lawful i = absurd (n i)
ends_if cred h rest more (Faulty fault) e n lawful i = faulty_stays cred h rest more fault e lawful

-- bytes behind ReadyForQuery, be they a frame or not
ready_behind : (cred : CredentialOf) (b : ℕ) (bs : List ℕ) (z : Front) → front Server 65536 (b ∷ bs) ≡ z → goes cred Ready (frames Server 65536 (b ∷ bs)) ≡ Other
ready_behind cred b bs (AFrame kind body after) e =
    let next : Cut = frames Server 65536 (drop (5 + length body) (b ∷ bs)) in
    ap (goes cred Ready) (frames-front Server 65536 (b ∷ bs) kind body after e) ∙ ap (λ (h : StartProgress). before cred h next.rest) (other_stays cred next.frames)
ready_behind cred b bs (Lacks m) e = ap (goes cred Ready) (stopped (b ∷ bs) (Lacks m) e tt)
ready_behind cred b bs (Faulty fault) e = ap (goes cred Ready) (stopped (b ∷ bs) (Faulty fault) e tt)

ends_behind : (cred : CredentialOf) (h : StartProgress) (rest more : List ℕ) → IsEnd cred (before cred h rest) → goes cred h (frames Server 65536 (rest ++ more)) ≡ before cred h rest
ends_behind cred Nothing rest more i = ends_if cred Nothing rest more (front Server 65536 rest) refl (λ n. n) (λ bs. refl) i
ends_behind cred (Asked q) rest more i = by (can_answer cred q) refl i
  where
    by : (b : Bool) → can_answer cred q ≡ b → IsEnd cred (if b then if_lawful (Asked q) (front Server 65536 rest) else Asked q)
        → goes cred (Asked q) (frames Server 65536 (rest ++ more)) ≡ (if b then if_lawful (Asked q) (front Server 65536 rest) else Asked q)
    by true k j = ends_if cred (Asked q) rest more (front Server 65536 rest) refl (λ n. true≢false (sym k ∙ n)) (λ bs. ap (λ (b : Bool). if b then if_lawful (Asked q) (front Server 65536 bs) else Asked q) k) j
    by false k j =
        let next : Cut = frames Server 65536 (rest ++ more) in
        ap (λ (h : StartProgress). before cred h next.rest) (unanswered_stays cred q next.frames k) ∙ ap (λ (b : Bool). if b then if_lawful (Asked q) (front Server 65536 next.rest) else Asked q) k
ends_behind cred Proved rest more i = ends_if cred Proved rest more (front Server 65536 rest) refl (λ n. n) (λ bs. refl) i
ends_behind cred LetIn rest more i = ends_if cred LetIn rest more (front Server 65536 rest) refl (λ n. n) (λ bs. refl) i
ends_behind cred Ready [] more i = absurd i
ends_behind cred Ready (b ∷ bs) more i = ready_behind cred b (bs ++ more) (front Server 65536 (b ∷ bs ++ more)) refl
ends_behind cred Refused rest more i =
    let next : Cut = frames Server 65536 (rest ++ more) in
    ap (λ (h : StartProgress). before cred h next.rest) (refused_stays cred next.frames)
ends_behind cred Other rest more i =
    let next : Cut = frames Server 65536 (rest ++ more) in
    ap (λ (h : StartProgress). before cred h next.rest) (other_stays cred next.frames)

pub heard_on : EndsAreHeard
heard_on cred bytes more i =
    let cut : Cut = frames Server 65536 bytes in
    let next : Cut = frames Server 65536 (cut.rest ++ more) in
    ap (heard_cut cred) (frames-go_on Server 65536 bytes more) ∙ ap (λ (h : StartProgress). before cred h next.rest) (heard-append cred Nothing cut.frames next.frames)
    ∙ ends_behind cred (heard_all cred Nothing cut.frames) cut.rest more i
