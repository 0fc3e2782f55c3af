-- What is said once a packet is whole or faulty, and which step it is.
use Rattle.std.proofs.Common.{◌≡◌, ◌⊎◌, inl, inr, ℕ, suc, ◌<◌, List, [], ◌∷◌, ◌++◌, length, refl, sym, ap, arith, ◌∙◌, Bool, true, false, subst, Result, Ok}
use Rattle.std.specs.Prelude.{◌==◌, if◌then◌else◌}
use Rattle.frame_view.specs.Frames.{Start, Cancels, AsksTls, AsksGss}
use Rattle.frame_view.specs.declared.client.TheConstants.{PASSWORD_MESSAGE, TERMINATE}
use Rattle.ini_config.specs.declared.option_values.AuthType.{AuthType}
use Rattle.ini_config.specs.declared.option_values.AuthType.TheVariants.{Trust, Plain, Md5, ScramSha256}
use Rattle.message_view.specs.declared.KeyWord.{KeyWord}
use Rattle.message_view.specs.declared.refusal.Refusal.{Refusal}
use Rattle.message_view.specs.declared.refusal.Refusal.TheVariants.{MalformedClientMessage, OutOfMemory}
use Rattle.message_view.specs.Reading.{startup_of}
use Rattle.session_values.specs.State.{StartKeyOf}
use Rattle.login_core.specs.declared.steps.Question.{Question}
use Rattle.login_core.specs.declared.steps.Question.TheVariants as question
use Rattle.login_core.specs.declared.steps.LoginStep.{LoginStep}
use Rattle.login_core.specs.declared.steps.LoginStep.TheVariants as step
use Rattle.login_core.specs.Talk.{Cut, says, talk, follow, on_cut}
use Rattle.login_core.specs.Talk.Cut.{Whole, Need, Bad}
use Rattle.login_core.specs.Talk.Reaction.{Goes, Passes, Stops}
use Rattle.login_core.specs.Talk.End.{Stopped}
use Rattle.login_core.specs.Dialogue.{Rows, LoginRow, Reacts, Dialogue, Packet, First, Message, Reason, Refused, Left, Asking, ForPassword, ForFirst, ForLast, Stage, AtFirst, Asked, packet, react, dialogue_from, answers_left, packets_left, key_of, asks, begins, judged, has_verifier, offers_scram, to_answer, to_message, asks_cleartext, asks_md5, asks_scram}
use Rattle.login_core.proofs.Endings.{Ends, EndsSoon, IsLast, judged_ends, answer_ends, message_ends, message_soon, answer_soon}
use Rattle.login_core.specs.Laws.{PacketsGrow}
use Rattle.login_core.specs.Logins.{Awaiting, AwaitsPacket, Arriving, Over, goes_from, Fits, FitsCut, StepIs, IsKeyed, left_after, Decides, StartMeans, IsReaction, IsWhole, TakesMemory, missing_of, question_bytes}

some_answers : (a : Asking) → (n : ℕ) × (answers_left a ≡ suc n)
some_answers ForPassword = (0, refl)
some_answers ForFirst = (1, refl)
some_answers (ForLast first) = (0, refl)

some_left : (s : Stage) → (n : ℕ) × (packets_left s ≡ suc n)
some_left (AtFirst false false) = (4, refl)
some_left (AtFirst true false) = (3, refl)
some_left (AtFirst false true) = (3, refl)
some_left (AtFirst true true) = (2, refl)
some_left (Asked a key) = some_answers a

module _ (grow : PacketsGrow) (rows : Rows) (word : KeyWord) where
  abbrev after_packet : ℕ → List ℕ → Reacts → Dialogue
  after_packet n more r = follow more (λ s. talk packet (react rows word) n s more) r

  -- a whole packet that is held, whatever comes
  turn_whole : (s : Stage) (n : ℕ) (held : List ℕ) (p : Packet) (rest : List ℕ) → packets_left s ≡ suc n → Fits (AwaitsPacket s) held → packet s held ≡ Whole p rest → (more : List ℕ) →
      dialogue_from rows word s (held ++ more) ≡ after_packet n more (react rows word s p)
  turn_whole s n held p rest e h w more =
      let k : rest ≡ [] = subst (λ (c : Cut Packet Reason). FitsCut c (length held)) w h in
      ap (λ (m : ℕ). talk packet (react rows word) m s (held ++ more)) e
      ∙ (ap (on_cut (react rows word s) (talk packet (react rows word) n)) ((grow s held more).whole p rest w)
      ∙ ap (λ (l : List ℕ). after_packet n (l ++ more) (react rows word s p)) k)

  turn_bad : (s : Stage) (held : List ℕ) (r : Reason) → packet s held ≡ Bad r → (more : List ℕ) →
      dialogue_from rows word s (held ++ more) ≡ record { pieces = []; ended = Stopped r }
  turn_bad s held r w more =
      let f = some_left s in
      ap (λ (m : ℕ). talk packet (react rows word) m s (held ++ more)) f.1
      ∙ ap (on_cut (react rows word s) (talk packet (react rows word) f.0)) ((grow s held more).bad r w)

  pub turned_bad : (s : Stage) (held : List ℕ) (r : Refusal) → packet s held ≡ Bad (Refused r) → StepIs rows word (AwaitsPacket s) held (step.Refused r) Over []
  turned_bad s held r w = record { said = inl (turn_bad s held (Refused r) w); fits = refl; leads = refl }

  pub turned_stop : (s : Stage) (held : List ℕ) (p : Packet) (rest : List ℕ) (r : Refusal) → Fits (AwaitsPacket s) held → packet s held ≡ Whole p rest → react rows word s p ≡ Stops [] (Refused r) →
      StepIs rows word (AwaitsPacket s) held (step.Refused r) Over []
  turned_stop s held p rest r h w e =
      let f = some_left s in
      record { said = inl (λ more. turn_whole s f.0 held p rest f.1 h w more ∙ ap (after_packet f.0 more) e); fits = refl; leads = refl }

  pub turned_left : (s : Stage) (held : List ℕ) (p : Packet) (rest : List ℕ) → Fits (AwaitsPacket s) held → packet s held ≡ Whole p rest → react rows word s p ≡ Stops [] Left →
      StepIs rows word (AwaitsPacket s) held step.Left Over []
  turned_left s held p rest h w e =
      let f = some_left s in
      record { said = λ more. turn_whole s f.0 held p rest f.1 h w more ∙ ap (after_packet f.0 more) e; fits = refl; leads = refl }

  pub turned_cancel : (tls gss : Bool) (held rest : List ℕ) (pid secret : ℕ) → Fits (AwaitsPacket (AtFirst tls gss)) held → packet (AtFirst tls gss) held ≡ Whole (First (Cancels pid secret)) rest →
      StepIs rows word (AwaitsPacket (AtFirst tls gss)) held (step.Cancel pid secret) Over []
  turned_cancel tls gss held rest pid secret h w =
      let f = some_left (AtFirst tls gss) in
      record { said = turn_whole (AtFirst tls gss) f.0 held (First (Cancels pid secret)) rest f.1 h w; fits = refl; leads = refl }

  pub turned_more : (s : Stage) (held : List ℕ) (n : ℕ) → Fits (AwaitsPacket s) held → packet s held ≡ Need n → 0 < n →
      StepIs rows word (AwaitsPacket s) held step.More (AwaitsPacket s) held
  turned_more s held n h w some = record { said = λ more. refl; fits = h; leads = subst (λ (c : Cut Packet Reason). 0 < missing_of c) (sym w) some }

  turned_tls : (gss : Bool) (held rest : List ℕ) → Fits (AwaitsPacket (AtFirst false gss)) held → packet (AtFirst false gss) held ≡ Whole (First AsksTls) rest →
      StepIs rows word (AwaitsPacket (AtFirst false gss)) held (step.Ask question.Encryption) (AwaitsPacket (AtFirst true gss)) []
  turned_tls true held rest h w = record { said = turn_whole (AtFirst false true) 3 held (First AsksTls) rest refl h w; fits = omega arith; leads = omega arith }
  turned_tls false held rest h w = record { said = turn_whole (AtFirst false false) 4 held (First AsksTls) rest refl h w; fits = omega arith; leads = omega arith }

  turned_gss : (tls : Bool) (held rest : List ℕ) → Fits (AwaitsPacket (AtFirst tls false)) held → packet (AtFirst tls false) held ≡ Whole (First AsksGss) rest →
      StepIs rows word (AwaitsPacket (AtFirst tls false)) held (step.Ask question.Encryption) (AwaitsPacket (AtFirst tls true)) []
  turned_gss true held rest h w = record { said = turn_whole (AtFirst true false) 3 held (First AsksGss) rest refl h w; fits = omega arith; leads = omega arith }
  turned_gss false held rest h w = record { said = turn_whole (AtFirst false false) 4 held (First AsksGss) rest refl h w; fits = omega arith; leads = omega arith }

  pub tls_from : (tls gss : Bool) (held rest : List ℕ) → tls ≡ false → Fits (AwaitsPacket (AtFirst tls gss)) held → packet (AtFirst tls gss) held ≡ Whole (First AsksTls) rest →
      StepIs rows word (AwaitsPacket (AtFirst tls gss)) held (step.Ask question.Encryption) (AwaitsPacket (AtFirst true gss)) []
  tls_from true gss held rest e h w = absurd cc
  tls_from false gss held rest e h w = turned_tls gss held rest h w

  pub gss_from : (tls gss : Bool) (held rest : List ℕ) → gss ≡ false → Fits (AwaitsPacket (AtFirst tls gss)) held → packet (AtFirst tls gss) held ≡ Whole (First AsksGss) rest →
      StepIs rows word (AwaitsPacket (AtFirst tls gss)) held (step.Ask question.Encryption) (AwaitsPacket (AtFirst tls true)) []
  gss_from tls true held rest e h w = absurd cc
  gss_from tls false held rest e h w = turned_gss tls held rest h w

  pub tls_twice : (tls gss : Bool) (held rest : List ℕ) → tls ≡ true → Fits (AwaitsPacket (AtFirst tls gss)) held → packet (AtFirst tls gss) held ≡ Whole (First AsksTls) rest →
      StepIs rows word (AwaitsPacket (AtFirst tls gss)) held (step.Refused MalformedClientMessage) Over []
  tls_twice true gss held rest e h w = turned_stop (AtFirst true gss) held (First AsksTls) rest MalformedClientMessage h w refl
  tls_twice false gss held rest e h w = absurd cc

  pub gss_twice : (tls gss : Bool) (held rest : List ℕ) → gss ≡ true → Fits (AwaitsPacket (AtFirst tls gss)) held → packet (AtFirst tls gss) held ≡ Whole (First AsksGss) rest →
      StepIs rows word (AwaitsPacket (AtFirst tls gss)) held (step.Refused MalformedClientMessage) Over []
  gss_twice tls true held rest e h w = turned_stop (AtFirst tls true) held (First AsksGss) rest MalformedClientMessage h w refl
  gss_twice tls false held rest e h w = absurd cc

  -- ---- the start

  any_after : (m n : ℕ) (more : List ℕ) (r : Reacts) → Ends r → after_packet m more r ≡ after_packet n more r
  any_after m n more (Goes pieces t) h = absurd h
  any_after m n more (Passes pieces key) h = refl
  any_after m n more (Stops pieces reason) h = refl

  react_ends : (a : Asking) (key : StartKeyOf) (p : Packet) → IsLast a → Ends (react rows word (Asked a key) p)
  react_ends a key (Message kind body) h = message_ends word (rows key.row key.user) key a (kind == PASSWORD_MESSAGE) (kind == TERMINATE) body h
  react_ends a key (First p) h = tt

  react_soon : (a : Asking) (key : StartKeyOf) (p : Packet) → EndsSoon (react rows word (Asked a key) p)
  react_soon a key (Message kind body) = message_soon word (rows key.row key.user) key a (kind == PASSWORD_MESSAGE) (kind == TERMINATE) body
  react_soon a key (First p) = tt

  last_cut : (m n : ℕ) (a : Asking) (key : StartKeyOf) (c : Cut Packet Reason) → IsLast a →
      on_cut (react rows word (Asked a key)) (talk packet (react rows word) m) c ≡ on_cut (react rows word (Asked a key)) (talk packet (react rows word) n) c
  last_cut m n a key (Whole p rest) h = any_after m n rest (react rows word (Asked a key) p) (react_ends a key p h)
  last_cut m n a key (Need k) h = refl
  last_cut m n a key (Bad r) h = refl

  -- the answer to a last question is the last packet, whatever could come
  last_any : (m n : ℕ) (a : Asking) (key : StartKeyOf) (bytes : List ℕ) → IsLast a →
      talk packet (react rows word) (suc m) (Asked a key) bytes ≡ talk packet (react rows word) (suc n) (Asked a key) bytes
  last_any m n a key bytes h = last_cut m n a key (packet (Asked a key) bytes) h

  soon_after : (m n : ℕ) (more : List ℕ) (r : Reacts) → EndsSoon r → after_packet (suc m) more r ≡ after_packet (suc n) more r
  soon_after m n more (Goes pieces (AtFirst tls gss)) h = absurd h
  soon_after m n more (Goes pieces (Asked a key)) h = ap (says pieces) (last_any m n a key more h)
  soon_after m n more (Passes pieces key) h = refl
  soon_after m n more (Stops pieces reason) h = refl

  soon_cut : (m n : ℕ) (a : Asking) (key : StartKeyOf) (c : Cut Packet Reason) →
      on_cut (react rows word (Asked a key)) (talk packet (react rows word) (suc m)) c ≡ on_cut (react rows word (Asked a key)) (talk packet (react rows word) (suc n)) c
  soon_cut m n a key (Whole p rest) = soon_after m n rest (react rows word (Asked a key) p) (react_soon a key p)
  soon_cut m n a key (Need k) = refl
  soon_cut m n a key (Bad r) = refl

  -- and that to any other the last but one at most
  asked_any : (m n : ℕ) (a : Asking) (key : StartKeyOf) (bytes : List ℕ) →
      talk packet (react rows word) (suc (suc m)) (Asked a key) bytes ≡ talk packet (react rows word) (suc (suc n)) (Asked a key) bytes
  asked_any m n a key bytes = soon_cut m n a key (packet (Asked a key) bytes)

  md5_any : (n : ℕ) (b : Bool) (key : StartKeyOf) (more : List ℕ) →
      after_packet (suc (suc n)) more (if b then offers_scram key else Goes (asks_md5 word.salt ∷ []) (Asked ForPassword key))
      ≡ after_packet 2 more (if b then offers_scram key else Goes (asks_md5 word.salt ∷ []) (Asked ForPassword key))
  md5_any n true key more = ap (says (asks_scram ∷ [])) (asked_any n 0 ForFirst key more)
  md5_any n false key more = ap (says (asks_md5 word.salt ∷ [])) (asked_any n 0 ForPassword key more)

  asks_any : (n : ℕ) (auth : AuthType) (row : LoginRow) (key : StartKeyOf) (more : List ℕ) →
      after_packet (suc (suc n)) more (asks auth row word key) ≡ after_packet 2 more (asks auth row word key)
  asks_any n Trust row key more = any_after (suc (suc n)) 2 more (judged row word key []) (judged_ends word row key [])
  asks_any n Plain row key more = ap (says (asks_cleartext ∷ [])) (asked_any n 0 ForPassword key more)
  asks_any n Md5 row key more = md5_any n (has_verifier row.user) key more
  asks_any n ScramSha256 row key more = ap (says (asks_scram ∷ [])) (asked_any n 0 ForFirst key more)

  three_left : (tls gss : Bool) → (n : ℕ) × (packets_left (AtFirst tls gss) ≡ suc (suc (suc n)))
  three_left false false = (2, refl)
  three_left true false = (1, refl)
  three_left false true = (1, refl)
  three_left true true = (0, refl)

  start_said : (tls gss : Bool) (held text rest : List ℕ) (key : StartKeyOf) → Fits (AwaitsPacket (AtFirst tls gss)) held → packet (AtFirst tls gss) held ≡ Whole (First (Start text)) rest →
      key_of rows (startup_of text) ≡ Ok key → (more : List ℕ) → dialogue_from rows word (AtFirst tls gss) (held ++ more) ≡ goes_from rows word (Arriving key) [] more
  start_said tls gss held text rest key h w e more =
      let n = three_left tls gss in
      turn_whole (AtFirst tls gss) (suc (suc n.0)) held (First (Start text)) rest n.1 h w more
      ∙ (ap (λ (k : Result StartKeyOf Refusal). after_packet (suc (suc n.0)) more (begins rows word k)) e
      ∙ asks_any n.0 (rows key.row key.user).auth (rows key.row key.user) key more)

  start_arrived : (tls gss : Bool) (held text rest : List ℕ) (key : _) (to : Awaiting) → Fits (AwaitsPacket (AtFirst tls gss)) held → packet (AtFirst tls gss) held ≡ Whole (First (Start text)) rest →
      StartMeans (key_of rows (startup_of text)) (step.Arrived key) to → StepIs rows word (AwaitsPacket (AtFirst tls gss)) held (step.Arrived key) to []
  start_arrived tls gss held text rest key (Arriving other) h w e = record { said = start_said tls gss held text rest other h w e.0; fits = refl; leads = ap Arriving e.1 }
  start_arrived tls gss held text rest key (AwaitsPacket s) h w e = absurd e
  start_arrived tls gss held text rest key Over h w e = absurd e

  start_refused : (tls gss : Bool) (held text rest : List ℕ) (r : Refusal) (to : Awaiting) → Fits (AwaitsPacket (AtFirst tls gss)) held → packet (AtFirst tls gss) held ≡ Whole (First (Start text)) rest →
      StartMeans (key_of rows (startup_of text)) (step.Refused r) to → StepIs rows word (AwaitsPacket (AtFirst tls gss)) held (step.Refused r) to []
  start_refused tls gss held text rest r Over h w (inl e) = turned_stop (AtFirst tls gss) held (First (Start text)) rest r h w (ap (begins rows word) e)
  start_refused tls gss held text rest r Over h w (inr e) = record { said = inr (e.0, subst (IsKeyed rows) (sym w) e.1); fits = refl; leads = refl }
  start_refused tls gss held text rest r (AwaitsPacket s) h w e = absurd e
  start_refused tls gss held text rest r (Arriving k) h w e = absurd e

  pub turned_start : (tls gss : Bool) (held text rest : List ℕ) (s : LoginStep) (to : Awaiting) → Fits (AwaitsPacket (AtFirst tls gss)) held → packet (AtFirst tls gss) held ≡ Whole (First (Start text)) rest →
      StartMeans (key_of rows (startup_of text)) s to → StepIs rows word (AwaitsPacket (AtFirst tls gss)) held s to (left_after s held)
  turned_start tls gss held text rest (step.Arrived key) to h w e = start_arrived tls gss held text rest key to h w e
  turned_start tls gss held text rest (step.Refused r) to h w e = start_refused tls gss held text rest r to h w e
  turned_start tls gss held text rest step.More to h w e = absurd e
  turned_start tls gss held text rest (step.Ask q) to h w e = absurd e
  turned_start tls gss held text rest (step.Passed k told) to h w e = absurd e
  turned_start tls gss held text rest (step.Console told) to h w e = absurd e
  turned_start tls gss held text rest (step.Failed f) to h w e = absurd e
  turned_start tls gss held text rest (step.Cancel pid secret) to h w e = absurd e
  turned_start tls gss held text rest step.Left to h w e = absurd e

  -- ---- the end

  -- a last step says what the reaction says
  decided : (from : Awaiting) (held : List ℕ) (n : ℕ) (s : LoginStep) (r : Reacts) → Decides s r → ((more : List ℕ) → goes_from rows word from held more ≡ after_packet n more r) →
      StepIs rows word from held s Over (left_after s held)
  decided from held n (step.Passed key told) r d e = record { said = λ more. e more ∙ ap (after_packet n more) d; fits = refl; leads = refl }
  decided from held n (step.Console told) r d e = record { said = λ more. e more ∙ ap (after_packet n more) d; fits = refl; leads = refl }
  decided from held n (step.Failed f) r d e = record { said = λ more. e more ∙ ap (after_packet n more) d; fits = refl; leads = refl }
  decided from held n step.More r d e = absurd d
  decided from held n (step.Arrived key) r d e = absurd d
  decided from held n (step.Ask q) r d e = absurd d
  decided from held n (step.Refused c) r d e = absurd d
  decided from held n (step.Cancel pid secret) r d e = absurd d
  decided from held n step.Left r d e = absurd d

  pub decided_at_once : (key : StartKeyOf) (s : LoginStep) → (rows key.row key.user).auth ≡ Trust → Decides s (judged (rows key.row key.user) word key []) →
      StepIs rows word (Arriving key) [] s Over (left_after s [])
  decided_at_once key s t d = decided (Arriving key) [] 2 s (judged (rows key.row key.user) word key []) d (λ more. ap (λ (a : AuthType). after_packet 2 more (asks a (rows key.row key.user) word key)) t)

  -- where it then stands
  pub decided_and_over : (key : StartKeyOf) (s : LoginStep) (to : Awaiting) → (rows key.row key.user).auth ≡ Trust → Decides s (judged (rows key.row key.user) word key []) → to ≡ Over →
      StepIs rows word (Arriving key) [] s to []
  decided_and_over key (step.Passed j told) to t d e = subst (λ (a : Awaiting). StepIs rows word (Arriving key) [] (step.Passed j told) a []) (sym e) (decided_at_once key (step.Passed j told) t d)
  decided_and_over key (step.Console told) to t d e = subst (λ (a : Awaiting). StepIs rows word (Arriving key) [] (step.Console told) a []) (sym e) (decided_at_once key (step.Console told) t d)
  decided_and_over key (step.Failed f) to t d e = subst (λ (a : Awaiting). StepIs rows word (Arriving key) [] (step.Failed f) a []) (sym e) (decided_at_once key (step.Failed f) t d)
  decided_and_over key step.More to t d e = absurd d
  decided_and_over key (step.Arrived j) to t d e = absurd d
  decided_and_over key (step.Ask q) to t d e = absurd d
  decided_and_over key (step.Refused c) to t d e = absurd d
  decided_and_over key (step.Cancel pid secret) to t d e = absurd d
  decided_and_over key step.Left to t d e = absurd d

  pub cleartext_at_once : (key : StartKeyOf) → (rows key.row key.user).auth ≡ Plain → StepIs rows word (Arriving key) [] (step.Ask question.Cleartext) (AwaitsPacket (Asked ForPassword key)) []
  cleartext_at_once key t = record {
    said = λ more. ap (λ (a : AuthType). after_packet 2 more (asks a (rows key.row key.user) word key)) t ∙ ap (says (asks_cleartext ∷ [])) (last_any 1 0 ForPassword key more tt);
    fits = omega arith;
    leads = omega arith;
  }

  pub digest_at_once : (key : StartKeyOf) (frame : List ℕ) → (rows key.row key.user).auth ≡ Md5 → has_verifier (rows key.row key.user).user ≡ false → frame ≡ asks_md5 word.salt →
      StepIs rows word (Arriving key) [] (step.Ask (question.Md5 frame)) (AwaitsPacket (Asked ForPassword key)) []
  digest_at_once key frame t v e = record {
    said = λ more.
        ap (λ (a : AuthType). after_packet 2 more (asks a (rows key.row key.user) word key)) t
        ∙ (ap (λ (b : Bool). after_packet 2 more (if b then offers_scram key else Goes (asks_md5 word.salt ∷ []) (Asked ForPassword key))) v
        ∙ (ap (says (asks_md5 word.salt ∷ [])) (last_any 1 0 ForPassword key more tt)
        ∙ ap (λ (f : List ℕ). says (f ∷ []) (dialogue_from rows word (Asked ForPassword key) more)) (sym e)));
    fits = omega arith;
    leads = omega arith;
  }

  -- a question is told and its answer waited for
  told_on : (r : Reacts) (q : Question) (s : Stage) (n : ℕ) (more : List ℕ) → r ≡ Goes (question_bytes q ∷ []) s → EndsSoon r → after_packet (suc n) more r ≡ says (question_bytes q ∷ []) (dialogue_from rows word s more)
  told_on r q (AtFirst tls gss) n more e h = absurd (subst EndsSoon e h)
  told_on r q (Asked a key) n more e h =
      let last : IsLast a = subst EndsSoon e h in
      ap (after_packet (suc n) more) e ∙ ap (says (question_bytes q ∷ [])) (from_last n a key more last)
    where
      from_last : (n : ℕ) (a : Asking) (key : StartKeyOf) (more : List ℕ) → IsLast a → talk packet (react rows word) (suc n) (Asked a key) more ≡ dialogue_from rows word (Asked a key) more
      from_last n ForPassword key more l = last_any n 0 ForPassword key more l
      from_last n ForFirst key more l = absurd l
      from_last n (ForLast first) key more l = last_any n 0 (ForLast first) key more l

  module _ (a : Asking) (key : StartKeyOf) (held body rest : List ℕ) (kind : ℕ) (h : Fits (AwaitsPacket (Asked a key)) held) (w : packet (Asked a key) held ≡ Whole (Message kind body) rest) (k : kind ≡ PASSWORD_MESSAGE) where
    abbrev reaction : Reacts
    reaction = to_answer (rows key.row key.user) word key a body

    reacts_so : react rows word (Asked a key) (Message kind body) ≡ reaction
    reacts_so = ap (λ (m : ℕ). to_message (rows key.row key.user) word key a m body) k

    -- what is said once the answer is there
    said_then : (n : ℕ) → packets_left (Asked a key) ≡ suc n → (more : List ℕ) → dialogue_from rows word (Asked a key) (held ++ more) ≡ after_packet n more reaction
    said_then n e more = turn_whole (Asked a key) n held (Message kind body) rest e h w more ∙ ap (after_packet n more) reacts_so

    pub answered_last : (s : LoginStep) → Decides s reaction → StepIs rows word (AwaitsPacket (Asked a key)) held s Over (left_after s held)
    answered_last s d = let f = some_answers a in decided (AwaitsPacket (Asked a key)) held f.0 s reaction d (said_then f.0 f.1)

    pub answered_stop : (r : Refusal) → (reaction ≡ Stops [] (Refused r)) ⊎ ((r ≡ OutOfMemory) × TakesMemory (rows key.row key.user) a) → StepIs rows word (AwaitsPacket (Asked a key)) held (step.Refused r) Over []
    answered_stop r (inl e) = let f = some_answers a in record { said = inl (λ more. said_then f.0 f.1 more ∙ ap (after_packet f.0 more) e); fits = refl; leads = refl }
    answered_stop r (inr e) = record { said = inr (e.0, (e.1, subst IsWhole (sym w) tt)); fits = refl; leads = refl }

  -- a question that follows an answer: only the challenge of SCRAM does
  answered_ask : (a : Asking) (key : StartKeyOf) (held body rest : List ℕ) (kind : ℕ) → Fits (AwaitsPacket (Asked a key)) held → packet (Asked a key) held ≡ Whole (Message kind body) rest → kind ≡ PASSWORD_MESSAGE →
      (q : Question) (s : Stage) → to_answer (rows key.row key.user) word key a body ≡ Goes (question_bytes q ∷ []) s → StepIs rows word (AwaitsPacket (Asked a key)) held (step.Ask q) (AwaitsPacket s) []
  answered_ask ForPassword key held body rest kind h w k q s e = absurd (subst Ends e (answer_ends word (rows key.row key.user) key ForPassword body tt))
  answered_ask (ForLast first) key held body rest kind h w k q s e = absurd (subst Ends e (answer_ends word (rows key.row key.user) key (ForLast first) body tt))
  answered_ask ForFirst key held body rest kind h w k q (AtFirst tls gss) e = absurd (subst EndsSoon e (answer_soon word (rows key.row key.user) key ForFirst body))
  answered_ask ForFirst key held body rest kind h w k q (Asked b j) e = record {
    said = λ more. said_then ForFirst key held body rest kind h w k 1 refl more
        ∙ told_on (to_answer (rows key.row key.user) word key ForFirst body) q (Asked b j) 0 more e (answer_soon word (rows key.row key.user) key ForFirst body);
    fits = omega arith;
    leads = omega arith;
  }

  over_by : (from : Awaiting) (held : List ℕ) (s : LoginStep) (to : Awaiting) (left : List ℕ) → to ≡ Over → StepIs rows word from held s Over left → StepIs rows word from held s to left
  over_by from held s to left e x = subst (λ (t : Awaiting). StepIs rows word from held s t left) (sym e) x

  pub answered_by : (a : Asking) (key : StartKeyOf) (held body rest : List ℕ) (kind : ℕ) → Fits (AwaitsPacket (Asked a key)) held → packet (Asked a key) held ≡ Whole (Message kind body) rest → kind ≡ PASSWORD_MESSAGE →
      (s : LoginStep) (to : Awaiting) → IsReaction (TakesMemory (rows key.row key.user) a) (to_answer (rows key.row key.user) word key a body) s to → StepIs rows word (AwaitsPacket (Asked a key)) held s to (left_after s held)
  answered_by a key held body rest kind h w k (step.Ask q) to d =
      subst (λ (t : Awaiting). StepIs rows word (AwaitsPacket (Asked a key)) held (step.Ask q) t []) (sym d.2) (answered_ask a key held body rest kind h w k q d.0 d.1)
  answered_by a key held body rest kind h w k (step.Refused r) to d = over_by (AwaitsPacket (Asked a key)) held (step.Refused r) to [] d.1 (answered_stop a key held body rest kind h w k r d.0)
  answered_by a key held body rest kind h w k (step.Passed j told) to d = over_by (AwaitsPacket (Asked a key)) held (step.Passed j told) to [] d.1 (answered_last a key held body rest kind h w k (step.Passed j told) d.0)
  answered_by a key held body rest kind h w k (step.Console told) to d = over_by (AwaitsPacket (Asked a key)) held (step.Console told) to [] d.1 (answered_last a key held body rest kind h w k (step.Console told) d.0)
  answered_by a key held body rest kind h w k (step.Failed f) to d = over_by (AwaitsPacket (Asked a key)) held (step.Failed f) to [] d.1 (answered_last a key held body rest kind h w k (step.Failed f) d.0)
  answered_by a key held body rest kind h w k step.More to d = absurd d.0
  answered_by a key held body rest kind h w k (step.Arrived j) to d = absurd d.0
  answered_by a key held body rest kind h w k (step.Cancel pid secret) to d = absurd d.0
  answered_by a key held body rest kind h w k step.Left to d = absurd d.0
