-- What the turns of a login keep.
use Rattle.std.proofs.Common.{◌≡◌, ◌⊎◌, inl, inr, ℕ, ◌+◌, ◌<◌, ◌≤◌, true, false, List, [], ◌++◌, length, take, drop, refl, sym, ap, ap₂, ◌∙◌, subst, arith, append_assoc, append-nil, take_all, length-drop, length-take}
use Rattle.std.specs.Prelude.{min}
use Rattle.std.specs.Arc.{arc_value}
use Rattle.std.proofs.Math.Seq.{take-add}
use Rattle.std.proofs.lemmas.Grind.{flat_map-append}
use Rattle.message_view.specs.declared.KeyWord.{KeyWord}
use Rattle.message_view.specs.declared.refusal.Refusal.{Refusal}
use Rattle.message_view.specs.declared.refusal.Refusal.TheVariants.{OutOfMemory}
use Rattle.message_view.specs.Refusals.{joined_pieces}
use Rattle.link_model.specs.Standing.{ClientFacts}
use Rattle.server_end.specs.declared.Moved.{Moved}
use Rattle.server_end.specs.declared.Moved.TheVariants.{Ended, Fault}
use Rattle.server_end.specs.Moves.{ClientReads, ClientWrites, moved}
use Rattle.login_core.specs.declared.steps.LoginStep.{LoginStep}
use Rattle.login_core.specs.declared.steps.LoginStep.TheVariants as step
use Rattle.login_core.specs.Talk.{End}
use Rattle.login_core.specs.Talk.End.{Stopped as StoppedFor}
use Rattle.login_core.specs.Dialogue.{Rows, Dialogue, Way, Reason, Refused as RefusedBy, AtFirst, row_in, login_among}
use Rattle.login_core.specs.Logins.{Awaiting, AwaitsPacket, Arriving, LoginView, login_view, rows_of, goes_on, IsRevealedTo, Reveals, Tells, StepMeans, authenticated_bytes, missing}
use Rattle.login_core.proofs.Pieces.{joined_if_any}
use Rattle.login_core.specs.Laws.{waits, arrived, asks, NewTells, StepsTell, StepsSay}
use Rattle.login_run.specs.declared.login_reply.LoginReply.{LoginReply}
use Rattle.login_run.specs.declared.login_reply.LoginReply.TheVariants as said
use Rattle.login_run.specs.Runs.{PhaseOf, Talking, Arrived, Passed, Console, Cancelling, Stopped, Gone, RunView, run_view, said_bytes, said_pieces, IsPiece, phase_after, said_after, IsBegun, HasEnded, IsStopped, IsCutOff, StandsAt, Runs, Awaits, IsArriving, IsAllGiven, IsRun}

-- ---- the login's first pieces

module _ (rows : Rows) (word : KeyWord) where
  begun_more : (taken bytes : List ℕ) (pieces : List (List ℕ)) → IsBegun rows word taken pieces → IsBegun rows word (taken ++ bytes) pieces
  begun_more taken bytes pieces b = λ more.
      let x = b (bytes ++ more) in
      (x.0, x.1 ∙ ap (λ (l : List ℕ). (login_among rows word l).pieces) (sym (append_assoc taken bytes more)))

  ended_begun : (taken : List ℕ) (pieces : List (List ℕ)) (ended : List ℕ → End Way Reason) → HasEnded rows word taken pieces ended → IsBegun rows word taken pieces
  ended_begun taken pieces ended h = λ more. ([], append-nil pieces ∙ sym (ap (λ (d : Dialogue). d.pieces) (h more)))

  stopped_begun : (taken : List ℕ) (pieces : List (List ℕ)) (s : LoginReply) → IsStopped rows word taken pieces s → IsBegun rows word taken pieces
  stopped_begun taken pieces said.Nothing h = ended_begun taken pieces _ h
  stopped_begun taken pieces (said.Question q) h = absurd h
  stopped_begun taken pieces (said.LetIn told) h = absurd h
  stopped_begun taken pieces (said.Proof told) h = absurd h
  stopped_begun taken pieces (said.Failure f) h = ended_begun taken pieces _ h
  stopped_begun taken pieces (said.Refusal r) (inl h) = ended_begun taken pieces _ h
  stopped_begun taken pieces (said.Refusal r) (inr h) = h.1

  cut_begun : (taken : List ℕ) (pieces : List (List ℕ)) (s : LoginReply) → IsCutOff rows word taken pieces s → IsBegun rows word taken pieces
  cut_begun taken pieces said.Nothing h = h
  cut_begun taken pieces (said.Question q) h = h
  cut_begun taken pieces (said.LetIn told) h = h
  cut_begun taken pieces (said.Proof told) h = h
  cut_begun taken pieces (said.Failure f) h = h
  cut_begun taken pieces (said.Refusal r) h = stopped_begun taken pieces (said.Refusal r) h

  begun_cut : (taken : List ℕ) (pieces : List (List ℕ)) (s : LoginReply) → IsPiece s → IsBegun rows word taken pieces → IsCutOff rows word taken pieces s
  begun_cut taken pieces said.Nothing p h = h
  begun_cut taken pieces (said.Question q) p h = h
  begun_cut taken pieces (said.LetIn told) p h = h
  begun_cut taken pieces (said.Proof told) p h = h
  begun_cut taken pieces (said.Failure f) p h = h
  begun_cut taken pieces (said.Refusal r) p h = absurd p

  stopped_cut : (taken : List ℕ) (pieces : List (List ℕ)) (s : LoginReply) → IsStopped rows word taken pieces s → IsCutOff rows word taken pieces s
  stopped_cut taken pieces said.Nothing h = stopped_begun taken pieces said.Nothing h
  stopped_cut taken pieces (said.Question q) h = absurd h
  stopped_cut taken pieces (said.LetIn told) h = absurd h
  stopped_cut taken pieces (said.Proof told) h = absurd h
  stopped_cut taken pieces (said.Failure f) h = stopped_begun taken pieces (said.Failure f) h
  stopped_cut taken pieces (said.Refusal r) h = h

tells_begun : (v : LoginView) (taken : List ℕ) (pieces : List (List ℕ)) → Tells v taken pieces → IsBegun (rows_of v) v.word taken pieces
tells_begun v taken pieces t = λ more. ((goes_on v more).pieces, sym (ap (λ (d : Dialogue). d.pieces) (t more)))

pub stands_begun : (p : PhaseOf) (s : LoginReply) (v : LoginView) (taken : List ℕ) (pieces : List (List ℕ)) → StandsAt p s v taken pieces → IsBegun (rows_of v) v.word taken pieces
stands_begun Talking s v taken pieces h = tells_begun v taken pieces h
stands_begun Arrived s v taken pieces h = tells_begun v taken pieces h
stands_begun (Passed key) s v taken pieces h = ended_begun (rows_of v) v.word taken pieces _ h
stands_begun Console s v taken pieces h = ended_begun (rows_of v) v.word taken pieces _ h
stands_begun (Cancelling key) s v taken pieces h = ended_begun (rows_of v) v.word taken pieces _ h
stands_begun Stopped s v taken pieces h = stopped_begun (rows_of v) v.word taken pieces s h
stands_begun Gone s v taken pieces h = cut_begun (rows_of v) v.word taken pieces s h

-- wherever it stands, a refusal that was said keeps its cause
pub stands_cut : (p : PhaseOf) (s : LoginReply) (v : LoginView) (taken : List ℕ) (pieces : List (List ℕ)) → Awaits p s v → StandsAt p s v taken pieces → IsCutOff (rows_of v) v.word taken pieces s
stands_cut Talking s v taken pieces a h = begun_cut (rows_of v) v.word taken pieces s a.0 (stands_begun Talking s v taken pieces h)
stands_cut Arrived s v taken pieces a h = begun_cut (rows_of v) v.word taken pieces s a.0 (stands_begun Arrived s v taken pieces h)
stands_cut (Passed key) s v taken pieces a h = begun_cut (rows_of v) v.word taken pieces s a.0 (stands_begun (Passed key) s v taken pieces h)
stands_cut Console s v taken pieces a h = begun_cut (rows_of v) v.word taken pieces s a (stands_begun Console s v taken pieces h)
stands_cut (Cancelling key) s v taken pieces a h = begun_cut (rows_of v) v.word taken pieces s (subst IsPiece (sym a) tt) (stands_begun (Cancelling key) s v taken pieces h)
stands_cut Stopped s v taken pieces a h = stopped_cut (rows_of v) v.word taken pieces s h
stands_cut Gone s v taken pieces a h = h

-- ---- a step of the login

rows_same : (old new : LoginView) (bytes : List ℕ) (s : LoginStep) → StepMeans old bytes s new → rows_of old ≡ rows_of new
rows_same old new bytes s h = ap₂ row_in (sym h.settings) (sym h.users)

ended_on : (old new : LoginView) (bytes taken : List ℕ) (pieces : List (List ℕ)) (ended : List ℕ → End Way Reason) (s : LoginStep) → StepMeans old bytes s new → HasEnded (rows_of old) old.word taken pieces ended → HasEnded (rows_of new) new.word taken pieces ended
ended_on old new bytes taken pieces ended s h x =
    subst (λ (w : KeyWord). HasEnded (rows_of new) w taken pieces ended) (sym h.word)
    (subst (λ (r : Rows). HasEnded r old.word taken pieces ended) (rows_same old new bytes s h) x)

begun_on : (old new : LoginView) (bytes taken : List ℕ) (pieces : List (List ℕ)) (s : LoginStep) → StepMeans old bytes s new → IsBegun (rows_of old) old.word taken pieces → IsBegun (rows_of new) new.word taken pieces
begun_on old new bytes taken pieces s h x =
    subst (λ (w : KeyWord). IsBegun (rows_of new) w taken pieces) (sym h.word)
    (subst (λ (r : Rows). IsBegun r old.word taken pieces) (rows_same old new bytes s h) x)

-- it told these pieces, and nothing more
begun_still : (old new : LoginView) (taken bytes : List ℕ) (done : List (List ℕ)) (s : LoginStep) → Tells old taken done → StepMeans old bytes s new → IsBegun (rows_of new) new.word (taken ++ bytes) (done ++ [])
begun_still old new taken bytes done s t h =
    begun_on old new bytes (taken ++ bytes) (done ++ []) s h
    (subst (λ (ps : List (List ℕ)). IsBegun (rows_of old) old.word (taken ++ bytes) ps) (sym (append-nil done)) (begun_more (rows_of old) old.word taken bytes done (tells_begun old taken done t)))

refused_stands : (old new : LoginView) (taken bytes : List ℕ) (done : List (List ℕ)) (r : Refusal) (K : Type 0) → Tells old taken done → StepMeans old bytes (step.Refused r) new
    → (HasEnded (rows_of old) old.word (taken ++ bytes) (done ++ []) (λ more. StoppedFor (RefusedBy r)) ⊎ ((r ≡ OutOfMemory) × K)) → IsStopped (rows_of new) new.word (taken ++ bytes) (done ++ []) (said.Refusal r)
refused_stands old new taken bytes done r K t h (inl x) = inl (ended_on old new bytes (taken ++ bytes) (done ++ []) _ (step.Refused r) h x)
refused_stands old new taken bytes done r K t h (inr x) = inr (x.0, begun_still old new taken bytes done (step.Refused r) t h)

pub heard_stands : StepsTell → StepsSay → (old new : LoginView) (taken bytes : List ℕ) (done : List (List ℕ)) (s : LoginStep) → Tells old taken done → StepMeans old bytes s new
    → StandsAt (phase_after s) (said_after s) new (taken ++ bytes) (done ++ said_pieces (said_after s))
heard_stands tell say old new taken bytes done step.More t h = tell old new taken bytes done step.More waits t h
heard_stands tell say old new taken bytes done (step.Ask q) t h = tell old new taken bytes done (step.Ask q) (asks q) t h
heard_stands tell say old new taken bytes done (step.Arrived key) t h = tell old new taken bytes done (step.Arrived key) (arrived key) t h
heard_stands tell say old new taken bytes done (step.Passed key told) t h = ended_on old new bytes (taken ++ bytes) _ _ (step.Passed key told) h (say old new taken bytes done (step.Passed key told) t h)
heard_stands tell say old new taken bytes done (step.Console told) t h = ended_on old new bytes (taken ++ bytes) _ _ (step.Console told) h (say old new taken bytes done (step.Console told) t h)
heard_stands tell say old new taken bytes done (step.Refused r) t h = refused_stands old new taken bytes done r _ t h (say old new taken bytes done (step.Refused r) t h)
heard_stands tell say old new taken bytes done (step.Failed f) t h = ended_on old new bytes (taken ++ bytes) _ _ (step.Failed f) h (say old new taken bytes done (step.Failed f) t h)
heard_stands tell say old new taken bytes done (step.Cancel pid secret) t h = ended_on old new bytes (taken ++ bytes) _ _ (step.Cancel pid secret) h (say old new taken bytes done (step.Cancel pid secret) t h)
heard_stands tell say old new taken bytes done step.Left t h = ended_on old new bytes (taken ++ bytes) _ _ step.Left h (say old new taken bytes done step.Left t h)

arriving : (h : Awaiting) (key : _) → h ≡ Arriving key → IsArriving h
arriving h key e = subst IsArriving (sym e) tt

pub heard_awaits : (old new : LoginView) (bytes : List ℕ) (s : LoginStep) → StepMeans old bytes s new → Reveals (rows_of old) s new.revealed → Awaits (phase_after s) (said_after s) new
heard_awaits old new bytes step.More h x = (tt, h.leads)
heard_awaits old new bytes (step.Ask q) h x = (tt, h.leads)
heard_awaits old new bytes (step.Arrived key) h x = (tt, arriving new.awaiting _ h.leads)
heard_awaits old new bytes (step.Passed key told) h x = (tt, subst (λ (rows : Rows). IsRevealedTo (rows (arc_value key).row (arc_value key).user) new.revealed) (rows_same old new bytes (step.Passed key told) h) x)
heard_awaits old new bytes (step.Console told) h x = tt
heard_awaits old new bytes (step.Refused r) h x = tt
heard_awaits old new bytes (step.Failed f) h x = tt
heard_awaits old new bytes (step.Cancel pid secret) h x = refl
heard_awaits old new bytes step.Left h x = tt

-- ---- what was said and given

pub joined_said : (s : LoginReply) → IsPiece s → joined_pieces (said_pieces s) ≡ said_bytes s
joined_said said.Nothing p = refl
joined_said (said.Question q) p = append-nil _
joined_said (said.LetIn told) p = append-nil _
joined_said (said.Proof told) p = joined_if_any (authenticated_bytes told)
joined_said (said.Failure f) p = append-nil _
joined_said (said.Refusal r) p = absurd p

-- a piece that was given to the last byte is done
pub settled : (given : List ℕ) (done : List (List ℕ)) (s : LoginReply) (sent : ℕ) → IsPiece s → sent ≡ length (said_bytes s) → given ≡ joined_pieces done ++ take sent (said_bytes s) → given ≡ joined_pieces (done ++ said_pieces s)
settled given done s sent p n g =
    g
    ∙ (ap (λ (l : List ℕ). joined_pieces done ++ l) (take_all sent (said_bytes s) (omega (arith, n)) ∙ sym (joined_said s p))
    ∙ sym (flat_map-append (λ (l : List ℕ). l) done (said_pieces s)))

-- ---- the calls

-- the client's bytes at a new login
new_tells : NewTells → (v : LoginView) → v.awaiting ≡ AwaitsPacket (AtFirst false false) → v.held ≡ [] → Tells v [] []
new_tells law v h e = subst (λ (x : LoginView). Tells x [] []) (ap₂ (λ (x : Awaiting) (l : List ℕ). login_view v.settings v.users v.word x l) (sym h) (sym e)) (law v.settings v.users v.word)

new_awaits : (v : LoginView) → v.awaiting ≡ AwaitsPacket (AtFirst false false) → v.held ≡ [] → 0 < missing v.awaiting v.held
new_awaits v h e = subst (λ (x : Awaiting). 0 < missing x v.held) (sym h) (subst (λ (l : List ℕ). 0 < missing (AwaitsPacket (AtFirst false false)) l) (sym e) (omega arith))

pub new_run : NewTells → (c : ClientFacts) (v : LoginView) → v.awaiting ≡ AwaitsPacket (AtFirst false false) → v.held ≡ [] → (c.tells ≡ true → c.taken ≡ []) → (c.tells ≡ true → c.given ≡ []) → IsRun (run_view c v Talking said.Nothing 0)
new_run law c v h e t g = (omega arith, (tt, new_awaits v h e), record { heard = []; done = []; stands = new_tells law v h e; taken = t; given = g })

-- ---- a write

wrote_runs : (c d : ClientFacts) (v : LoginView) (p : PhaseOf) (s : LoginReply) (sent more : ℕ) (put : List ℕ) (m : Moved) → take (sent + more) (said_bytes s) ≡ take sent (said_bytes s) ++ put → ClientWrites c d put m → Runs (run_view c v p s sent) → Runs (run_view d v p s (sent + more))
wrote_runs c d v p s sent more put m e k x = record {
  heard = x.heard;
  done = x.done;
  stands = x.stands;
  taken = λ tells. k.taken (sym k.tells ∙ tells) ∙ x.taken (sym k.tells ∙ tells);
  given = λ tells.
      k.given (sym k.tells ∙ tells)
      ∙ (ap (λ (l : List ℕ). l ++ put) (x.given (sym k.tells ∙ tells)) ∙ (append_assoc (joined_pieces x.done) (take sent (said_bytes s)) put ∙ ap (λ (l : List ℕ). joined_pieces x.done ++ l) (sym e)));
}

pub wrote_some : (c d : ClientFacts) (v : LoginView) (p : PhaseOf) (s : LoginReply) (sent n : ℕ) (unsent : List ℕ) (m : Moved) → unsent ≡ drop sent (said_bytes s) → n ≤ length unsent → sent < length (said_bytes s) → ClientWrites c d (take n unsent) m → IsRun (run_view c v p s sent) → IsRun (run_view d v p s (sent + n))
wrote_some c d v p s sent n unsent m e w l k x = (
  omega (arith, ap (λ (u : List ℕ). length u) e, w, l, length-drop sent (said_bytes s)),
  x.1,
  wrote_runs c d v p s sent n (take n unsent) m (take-add sent n (said_bytes s) ∙ ap (λ (u : List ℕ). take sent (said_bytes s) ++ take n u) (sym e)) k x.2,
)

-- the client's end was called to no avail
idle_runs : (c d : ClientFacts) (v : LoginView) (p : PhaseOf) (s : LoginReply) (sent : ℕ) → d.tells ≡ c.tells → (c.tells ≡ true → d.taken ≡ c.taken) → (c.tells ≡ true → d.given ≡ c.given) → Runs (run_view c v p s sent) → Runs (run_view d v p s sent)
idle_runs c d v p s sent same t g x = record {
  heard = x.heard;
  done = x.done;
  stands = x.stands;
  taken = λ tells. t (sym same ∙ tells) ∙ x.taken (sym same ∙ tells);
  given = λ tells. g (sym same ∙ tells) ∙ x.given (sym same ∙ tells);
}

pub wrote_none : (c d : ClientFacts) (v : LoginView) (p : PhaseOf) (s : LoginReply) (sent : ℕ) (m : Moved) → ClientWrites c d [] m → IsRun (run_view c v p s sent) → IsRun (run_view d v p s sent)
wrote_none c d v p s sent m k x = (x.0, x.1, idle_runs c d v p s sent k.tells k.taken (λ tells. k.given tells ∙ append-nil c.given) x.2)

pub gone_run : (c : ClientFacts) (v : LoginView) (p : PhaseOf) (s : LoginReply) (sent : ℕ) → IsRun (run_view c v p s sent) → IsRun (run_view c v Gone s sent)
gone_run c v p s sent x = (x.0, tt, record { heard = x.2.heard; done = x.2.done; stands = stands_cut p s v x.2.heard (x.2.done ++ said_pieces s) x.1 x.2.stands; taken = x.2.taken; given = x.2.given })

none_moved : (m : Moved) (bytes : List ℕ) → (m ≡ Ended) ⊎ (m ≡ Fault) → moved m bytes ≡ []
none_moved m bytes (inl e) = ap (λ (n : Moved). moved n bytes) e
none_moved m bytes (inr e) = ap (λ (n : Moved). moved n bytes) e

pub wrote_last : (c d : ClientFacts) (v : LoginView) (p : PhaseOf) (s : LoginReply) (sent : ℕ) (bytes : List ℕ) (m : Moved) → (m ≡ Ended) ⊎ (m ≡ Fault) → ClientWrites c d (moved m bytes) m → IsRun (run_view c v p s sent) → IsRun (run_view d v Gone s sent)
wrote_last c d v p s sent bytes m e k x = gone_run d v p s sent (wrote_none c d v p s sent m (subst (λ (l : List ℕ). ClientWrites c d l m) (none_moved m bytes e) k) x)

-- ---- a read

-- the last piece is done, and the next is to come
done_run : (c : ClientFacts) (v : LoginView) (s : LoginReply) (sent : ℕ) → sent ≡ length (said_bytes s) → IsRun (run_view c v Talking s sent) → IsRun (run_view c v Talking said.Nothing 0)
done_run c v s sent n x = (
  omega arith,
  (tt, x.1.1),
  record {
    heard = x.2.heard;
    done = x.2.done ++ said_pieces s;
    stands = subst (λ (ps : List (List ℕ)). Tells v x.2.heard ps) (sym (append-nil (x.2.done ++ said_pieces s))) x.2.stands;
    taken = x.2.taken;
    given = λ tells. settled c.given x.2.done s sent x.1.0 n (x.2.given tells) ∙ sym (append-nil (joined_pieces (x.2.done ++ said_pieces s)));
  },
)

read_none : (c d : ClientFacts) (v : LoginView) (s : LoginReply) (sent : ℕ) (m : Moved) → ClientReads c d [] m → IsRun (run_view c v Talking s sent) → IsRun (run_view d v Talking s sent)
read_none c d v s sent m k x = (x.0, x.1, idle_runs c d v Talking s sent k.tells (λ tells. k.taken tells ∙ append-nil c.taken) k.given x.2)

idle_run : (c d : ClientFacts) (v : LoginView) (s : LoginReply) (sent : ℕ) (m : Moved) → sent ≡ length (said_bytes s) → ClientReads c d [] m → IsRun (run_view c v Talking s sent) → IsRun (run_view d v Talking said.Nothing 0)
idle_run c d v s sent m n k x = done_run d v s sent n (read_none c d v s sent m k x)

-- what the caller knows of it: it talks, and all was given
at_talking : (c : ClientFacts) (v : LoginView) (p : PhaseOf) (s : LoginReply) (sent : ℕ) (w : RunView) → run_view c v p s sent ≡ w → w.phase ≡ Talking → p ≡ Talking
at_talking c v p s sent w e t = ap (λ (x : RunView). x.phase) e ∙ t

pub all_given : (c : ClientFacts) (v : LoginView) (p : PhaseOf) (s : LoginReply) (sent : ℕ) (w : RunView) → run_view c v p s sent ≡ w → IsAllGiven w → sent ≡ length (said_bytes s)
all_given c v p s sent w e n = subst IsAllGiven (sym e) n

talks : (c : ClientFacts) (v : LoginView) (p : PhaseOf) (s : LoginReply) (sent : ℕ) (w : RunView) → run_view c v p s sent ≡ w → w.phase ≡ Talking → IsRun (run_view c v p s sent) → IsRun (run_view c v Talking s sent)
talks c v p s sent w e t x = subst (λ (q : PhaseOf). IsRun (run_view c v q s sent)) (at_talking c v p s sent w e t) x

pub read_idle : (c d : ClientFacts) (v : LoginView) (p : PhaseOf) (s : LoginReply) (sent : ℕ) (w : RunView) (m : Moved) → run_view c v p s sent ≡ w → w.phase ≡ Talking → IsAllGiven w → ClientReads c d [] m → IsRun (run_view c v p s sent) → IsRun (run_view d v p said.Nothing 0)
read_idle c d v p s sent w m e t n k x =
    subst (λ (q : PhaseOf). IsRun (run_view d v q said.Nothing 0)) (sym (at_talking c v p s sent w e t)) (idle_run c d v s sent m (all_given c v p s sent w e n) k (talks c v p s sent w e t x))

pub read_last : (c d : ClientFacts) (v : LoginView) (p : PhaseOf) (s : LoginReply) (sent : ℕ) (w : RunView) (bytes : List ℕ) (m : Moved) → run_view c v p s sent ≡ w → w.phase ≡ Talking → IsAllGiven w → (m ≡ Ended) ⊎ (m ≡ Fault) → ClientReads c d (moved m bytes) m → IsRun (run_view c v p s sent)
    → IsRun (run_view d v Gone said.Nothing 0)
read_last c d v p s sent w bytes m e t n o k x =
    gone_run d v Talking said.Nothing 0 (idle_run c d v s sent m (all_given c v p s sent w e n) (subst (λ (l : List ℕ). ClientReads c d l m) (none_moved m bytes o) k) (talks c v p s sent w e t x))

-- bytes that a login heard, which had told these pieces
heard_runs : StepsTell → StepsSay → (c d : ClientFacts) (v w : LoginView) (s : LoginReply) (sent : ℕ) (got : List ℕ) (step : LoginStep) (heard : List ℕ) (done : List (List ℕ)) → Tells v heard (done ++ said_pieces s) → StepMeans v got step w
    → (d.tells ≡ true → d.taken ≡ heard ++ got) → (d.tells ≡ true → d.given ≡ joined_pieces (done ++ said_pieces s)) → Runs (run_view d w (phase_after step) (said_after step) 0)
heard_runs tell say c d v w s sent got step heard done t h taken given = record {
  heard = heard ++ got;
  done = done ++ said_pieces s;
  stands = heard_stands tell say v w heard got (done ++ said_pieces s) step t h;
  taken = taken;
  given = λ tells. given tells ∙ sym (append-nil (joined_pieces (done ++ said_pieces s)));
}

read_on : StepsTell → StepsSay → (c d : ClientFacts) (v w : LoginView) (s : LoginReply) (sent : ℕ) (got : List ℕ) (m : Moved) (step : LoginStep) → sent ≡ length (said_bytes s) → ClientReads c d got m → StepMeans v got step w → Reveals (rows_of v) step w.revealed → IsRun (run_view c v Talking s sent)
    → IsRun (run_view d w (phase_after step) (said_after step) 0)
read_on tell say c d v w s sent got m step n k h revealed x = (
  omega arith,
  heard_awaits v w got step h revealed,
  heard_runs tell say c d v w s sent got step x.2.heard x.2.done x.2.stands h
      (λ tells. k.taken (sym k.tells ∙ tells) ∙ ap (λ (l : List ℕ). l ++ got) (x.2.taken (sym k.tells ∙ tells)))
      (λ tells. k.given (sym k.tells ∙ tells) ∙ settled c.given x.2.done s sent x.1.0 n (x.2.given (sym k.tells ∙ tells))),
)

after_step : (c : ClientFacts) (v : LoginView) (step : LoginStep) (p : PhaseOf) (s : LoginReply) → p ≡ phase_after step → s ≡ said_after step → IsRun (run_view c v (phase_after step) (said_after step) 0) → IsRun (run_view c v p s 0)
after_step c v step p s e f x = rw (e, f) x

pub read_some : StepsTell → StepsSay → (c d : ClientFacts) (v w : LoginView) (p : PhaseOf) (s : LoginReply) (sent : ℕ) (u : RunView) (got heard : List ℕ) (m : Moved) (step : LoginStep) (q : PhaseOf) (r : LoginReply) → run_view c v p s sent ≡ u → u.phase ≡ Talking → IsAllGiven u
    → q ≡ phase_after step → r ≡ said_after step → heard ≡ got → ClientReads c d got m → StepMeans v heard step w → Reveals (rows_of v) step w.revealed → IsRun (run_view c v p s sent) → IsRun (run_view d w q r 0)
read_some tell say c d v w p s sent u got heard m step q r e t n eq er same k h revealed x =
    after_step d w step q r eq er (read_on tell say c d v w s sent got m step (all_given c v p s sent u e n) k (subst (λ (l : List ℕ). StepMeans v l step w) same h) revealed (talks c v p s sent u e t x))

-- no more is read than the login waits for, so it takes all
pub all_used : (used count missing : ℕ) (chunk : List ℕ) → used ≡ min missing (length (take count chunk)) → count ≤ missing → take used (take count chunk) ≡ take count chunk
all_used used count missing chunk e l = take_all used (take count chunk) (omega (arith, e, l, length-take count chunk))

-- ---- a client that has arrived

arrives : (c : ClientFacts) (v : LoginView) (p : PhaseOf) (s : LoginReply) (sent : ℕ) (w : RunView) → run_view c v p s sent ≡ w → w.phase ≡ Arrived → IsRun (run_view c v p s sent) → IsRun (run_view c v Arrived s sent)
arrives c v p s sent w e t x = subst (λ (q : PhaseOf). IsRun (run_view c v q s sent)) (ap (λ (y : RunView). y.phase) e ∙ t) x

go_on : StepsTell → StepsSay → (c : ClientFacts) (v w : LoginView) (s : LoginReply) (sent : ℕ) (step : LoginStep) → sent ≡ length (said_bytes s) → StepMeans v [] step w → Reveals (rows_of v) step w.revealed → IsRun (run_view c v Arrived s sent) → IsRun (run_view c w (phase_after step) (said_after step) 0)
go_on tell say c v w s sent step n h revealed x = (
  omega arith,
  heard_awaits v w [] step h revealed,
  heard_runs tell say c c v w s sent [] step x.2.heard x.2.done x.2.stands h
      (λ tells. x.2.taken tells ∙ sym (append-nil x.2.heard))
      (λ tells. settled c.given x.2.done s sent x.1.0 n (x.2.given tells)),
)

nothing_of : (n : ℕ) → take {A = ℕ} n [] ≡ []
nothing_of n = take_all {A = ℕ} n [] (omega arith)

pub went_on : StepsTell → StepsSay → (c : ClientFacts) (v w : LoginView) (p : PhaseOf) (s : LoginReply) (sent used : ℕ) (u : RunView) (step : LoginStep) (q : PhaseOf) (r : LoginReply) → run_view c v p s sent ≡ u → u.phase ≡ Arrived → IsAllGiven u → q ≡ phase_after step → r ≡ said_after step → StepMeans v (take used []) step w → Reveals (rows_of v) step w.revealed
    → IsRun (run_view c v p s sent) → IsRun (run_view c w q r 0)
went_on tell say c v w p s sent used u step q r e t n eq er h revealed x =
    after_step c w step q r eq er (go_on tell say c v w s sent step (all_given c v p s sent u e n) (subst (λ (l : List ℕ). StepMeans v l step w) (nothing_of used) h) revealed (arrives c v p s sent u e t x))
