-- What a client is owed, by its link and by its login.
use Rattle.std.proofs.Common.{◌≡◌, inl, ℕ, Bool, true, List, [], ◌∷◌, ◌++◌, sym, ap, ◌∙◌, subst, append-nil, Result, Ok, Err, Some}
use Rattle.std.specs.Prelude.{map}
use Rattle.std.specs.Arc.{arc_value}
use Rattle.frame_view.specs.Frames.{FrameOf, spelling}
use Rattle.message_view.specs.declared.KeyWord.{KeyWord}
use Rattle.message_view.specs.declared.refusal.Refusal.{Refusal}
use Rattle.message_view.specs.declared.refusal.Refusal.TheVariants.{TooManyClients, UnsupportedProtocol, MalformedClientMessage, UnsupportedParameter, WaitedTooLong, ServerFailed, ServerNotReached, ShuttingDown, OutOfMemory, ClientMessageTooLong, MalformedServerMessage, LastDecision}
use Rattle.message_view.specs.Refusals.{Begins, joined_pieces}
use Rattle.session_values.specs.declared.cause.Cause.{Cause}
use Rattle.session_values.specs.State.{Address, CatalogueOf, State, StartKeyOf, address_of, fresh}
use Rattle.session_values.specs.Service.{client_frames, served}
use Rattle.credentials.specs.Credentials.{CredentialOf}
use Rattle.link_model.specs.Standing.{ClientFacts, Standing}
use Rattle.link_model.specs.Dialogues.{start_error}
use Rattle.link_run.specs.Links.{LinkView}
use Rattle.link_desk.specs.Homes.{HomeOf, IsAtHome}
use Rattle.link_start.specs.Starts.{IsStartCause, IsLetIn, IsRefusalOf}
use Rattle.link_start.specs.declared.start.StartCause.{StartCause}
use Rattle.link_start.specs.declared.start.StartCause.TheVariants as cause
use Rattle.login_core.specs.Talk.End.{Passed}
use Rattle.login_core.specs.Dialogue.{ToLink, login_among}
use Rattle.login_core.specs.Logins.{LoginView, rows_of}
use Rattle.login_core.specs.Solo.{service_pieces}
use Rattle.login_run.specs.Runs.{RunView}
use Rattle.login_run.specs.Laws as runs
use Rattle.pool_serve.specs.declared.logged_in.LoggedIn.{LoggedIn}
use Rattle.pool_serve.specs.declared.final_message.FinalMessage.{FinalMessage}
use Rattle.pool_serve.specs.declared.final_message.FinalMessage.TheVariants as last
use Rattle.pool_serve.specs.FinalMessages.{final_message_of_start}
use Rattle.pool_serve.specs.Causes.{HasFault, IsFaulty, IsFaultyWord}
use Rattle.pool_serve.specs.Serving.{IsServed, IsServedUnder, MayEnd, Serves, limit_of, owed}
use Rattle.pool_serve.proofs.Telling.{behind, refusal_ends}

-- ---- over a link of its key, with the catalogue of its address

pub over_link : (home : HomeOf) (limit : ℕ) (before after : ClientFacts) (g : LoggedIn) (link : LinkView) (word : FinalMessage) → IsAtHome home link → link.stands.follows ≡ true → link.key ≡ arc_value g.key
    → Serves limit link.stands.server.strikable before after (service_pieces link.stands.server.catalogue link.key g.word) word → Serves limit home.strikable before after (owed home.catalogue g) word
over_link home limit before after g link word h f k s =
    let same : link.stands.server.catalogue ≡ home.catalogue (address_of (arc_value g.key)) = h.catalogue f ∙ ap (λ (x : StartKeyOf). home.catalogue (address_of x)) k in
    subst (λ (b : Bool). Serves limit b before after (owed home.catalogue g) word) (h.strikable f)
    (subst (λ (c : CatalogueOf). Serves limit link.stands.server.strikable before after (service_pieces c (arc_value g.key) g.word) word) same
    (subst (λ (x : StartKeyOf). Serves limit link.stands.server.strikable before after (service_pieces link.stands.server.catalogue x g.word) word) k s))

-- ---- a link that wasn't started

fresh_error : (r : Result State Cause) (f : FrameOf) (cat : CatalogueOf) (word : KeyWord) (fs : List FrameOf) → start_error r ≡ Some f → map spelling (served cat r word.pid word.secret [] fs) ≡ spelling f ∷ []
fresh_error (Ok s) f cat word fs e = absurd cc
fresh_error (Err c) f cat word fs e = cc

refused_start : (began : Standing) (cred : CredentialOf) (key : StartKeyOf) (word : KeyWord) (error : List ℕ) → IsLetIn began key cred → IsRefusalOf began cred key error → Begins ([] ++ error) (joined_pieces (service_pieces began.server.catalogue key word [] []))
refused_start began cred key word error l x =
    let one : service_pieces began.server.catalogue key word [] [] ≡ spelling x.frame ∷ [] = fresh_error (fresh began.server.catalogue key) x.frame began.server.catalogue word (client_frames []) (sym l ∙ x.refusal) in
    record { more = []; both = append-nil error ∙ (x.whole ∙ (sym (append-nil (spelling x.frame)) ∙ ap joined_pieces (sym one))) }

unstarted_at : (began now : Standing) (cred : CredentialOf) (key : StartKeyOf) (word : KeyWord) (c : StartCause) → began.follows ≡ true → IsLetIn began key cred → IsStartCause began now cred key c → MayEnd [] (service_pieces began.server.catalogue key word [] []) (final_message_of_start c)
unstarted_at began now cred key word (cause.Refused error) f l x = refused_start began cred key word error l (x.1 f)
unstarted_at began now cred key word cause.Memory f l x = refusal_ends (service_pieces began.server.catalogue key word [] []) OutOfMemory
unstarted_at began now cred key word cause.Lost f l x = refusal_ends (service_pieces began.server.catalogue key word [] []) ServerNotReached
unstarted_at began now cred key word (cause.Unanswerable question) f l x = refusal_ends (service_pieces began.server.catalogue key word [] []) ServerNotReached
unstarted_at began now cred key word cause.Unexpected f l x = refusal_ends (service_pieces began.server.catalogue key word [] []) ServerNotReached
unstarted_at began now cred key word cause.Turns f l x = refusal_ends (service_pieces began.server.catalogue key word [] []) ServerNotReached
unstarted_at began now cred key word cause.Late f l x = refusal_ends (service_pieces began.server.catalogue key word [] []) ServerNotReached

pub unstarted : (cat : CatalogueOf) (began now : Standing) (cred : CredentialOf) (key : StartKeyOf) (word : KeyWord) (c : StartCause) (last : FinalMessage) → last ≡ final_message_of_start c → began.server.catalogue ≡ cat → began.follows ≡ true → IsLetIn began key cred → IsStartCause began now cred key c → MayEnd [] (service_pieces cat key word [] []) last
unstarted cat began now cred key word c last e h f l x =
    subst (λ (w : FinalMessage). MayEnd [] (service_pieces cat key word [] []) w) (sym e) (subst (λ (d : CatalogueOf). MayEnd [] (service_pieces d key word [] []) (final_message_of_start c)) h (unstarted_at began now cred key word c f l x))

-- ---- behind a login that let it in

fault_behind : (v : LoginView) (key : StartKeyOf) (limit : ℕ) (taken took : List ℕ) (r : Refusal) → (login_among (rows_of v) v.word taken).ended ≡ Passed (ToLink key) took → IsFaulty limit took r → HasFault (rows_of v) v.word limit taken r
fault_behind v key limit taken took MalformedClientMessage e x = record { key = key; rest = took; passed = e; fault = x }
fault_behind v key limit taken took ClientMessageTooLong e x = record { key = key; rest = took; passed = e; fault = x }
fault_behind v key limit taken took TooManyClients e x = tt
fault_behind v key limit taken took UnsupportedProtocol e x = tt
fault_behind v key limit taken took UnsupportedParameter e x = tt
fault_behind v key limit taken took WaitedTooLong e x = tt
fault_behind v key limit taken took ServerFailed e x = tt
fault_behind v key limit taken took ServerNotReached e x = tt
fault_behind v key limit taken took ShuttingDown e x = tt
fault_behind v key limit taken took OutOfMemory e x = tt
fault_behind v key limit taken took MalformedServerMessage e x = tt
fault_behind v key limit taken took LastDecision e x = tt

ends_served : (catalogue : Address → CatalogueOf) (v : LoginView) (key : StartKeyOf) (c : ClientFacts) (marks : List Bool) (took : List ℕ) (word : FinalMessage) → (login_among (rows_of v) v.word c.taken).ended ≡ Passed (ToLink key) took → IsFaultyWord v.settings.max_packet_size took word
    → MayEnd c.given (runs.own catalogue v marks c.taken) word → IsServedUnder marks catalogue v c word
ends_served catalogue v key c marks took last.Nothing e x m = inl m
ends_served catalogue v key c marks took (last.Refusal r) e x m = (m, fault_behind v key v.settings.max_packet_size c.taken took r e x)
ends_served catalogue v key c marks took (last.Error error) e x m = m

pub behind_login : (home : HomeOf) (v : RunView) (g : LoggedIn) (before after : ClientFacts) (word : FinalMessage) → before ≡ v.client → g.word ≡ v.login.word → g.login ≡ v.login → runs.IsLetIn home.catalogue v (arc_value g.key) → Serves (limit_of g) home.strikable before after (owed home.catalogue g) word
    → IsServed home v.login after word
behind_login home v g before after word e w l x s =
    let taken : after.taken ≡ v.client.taken ++ s.took = s.taken ∙ ap (λ (c : ClientFacts). c.taken ++ s.took) e in
    let given : after.given ≡ joined_pieces x.pieces ++ s.gave = s.given ∙ (ap (λ (c : ClientFacts). c.given ++ s.gave) e ∙ ap (λ (l : List ℕ). l ++ s.gave) x.given) in
    let owes : runs.own home.catalogue v.login s.marks after.taken ≡ x.pieces ++ owed home.catalogue g s.marks s.took =
    ap (runs.own home.catalogue v.login s.marks) taken ∙ (x.owed s.marks s.took ∙ ap (λ (k : KeyWord). x.pieces ++ service_pieces (home.catalogue (address_of (arc_value g.key))) (arc_value g.key) k s.marks s.took) (sym w)) in (
      s.marks,
      (
        s.are_marks,
        ends_served home.catalogue v.login (arc_value g.key) after s.marks s.took word
            (ap (λ (bytes : List ℕ). (login_among (rows_of v.login) v.login.word bytes).ended) taken ∙ x.passed s.took)
            (subst (λ (u : LoginView). IsFaultyWord u.settings.max_packet_size s.took word) l s.fault)
            (subst (λ (ps : List (List ℕ)). MayEnd after.given ps word) (sym owes) (behind x.pieces (owed home.catalogue g s.marks s.took) after.given s.gave word given s.ends)),
      ),
    )
