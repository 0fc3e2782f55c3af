-- What a client was given, by its lease.
use Rattle.std.proofs.Common.{◌≡◌, inl, inr, ℕ, Bool, true, false, List, [], ◌∷◌, ◌++◌, refl, sym, ap, ap₂, ◌∙◌, arith, append_assoc, append-nil, subst, take, drop, take-append-drop, Result, Ok, Err, Option, Some}
use Rattle.std.specs.Prelude.{map, None}
use Rattle.std.proofs.lemmas.Bool.{true≢false}
use Rattle.std.specs.List.{flat_map, AllByRecursion}
use Rattle.std.proofs.lemmas.Grind.{flat_map-append}
use Rattle.frame_view.specs.declared.Side.TheVariants.{Server}
use Rattle.frame_view.specs.declared.frames.TheConstants.{MAX_FRAME}
use Rattle.frame_view.specs.Frames.{AreBytes, FrameOf, IsFrame, spelling}
use Rattle.message_view.specs.declared.KeyWord.{KeyWord}
use Rattle.message_view.specs.declared.refusal.Refusal.{Refusal}
use Rattle.message_view.specs.Refusals.{Begins, joined_pieces, refusal}
use Rattle.session_values.specs.declared.cause.Cause.{Cause}
use Rattle.session_values.specs.State.{State, CatalogueOf, StartKeyOf, fresh}
use Rattle.session_values.specs.Step.{run_frames}
use Rattle.session_values.specs.Service.{client_frames, served, service, welcome}
use Rattle.session_laws.specs.Laws.{Reaches}
use Rattle.session_laws.proofs.ByName.{fresh_is_reached}
use Rattle.session_run_laws.proofs.ByName.{client_frames_are_sent, run_replies_are_frames}
use Rattle.credentials.specs.Credentials.{CredentialOf}
use Rattle.link_model.specs.Standing.{ClientFacts, Moves, Standing}
use Rattle.link_model.specs.Stages as stages
use Rattle.link_model.specs.Dialogues.{start_error}
use Rattle.link_model.proofs.Splits.{SplitsOff, same_back, split_whole}
use Rattle.link_start.specs.Links.{LinkView, IsFreshLink}
use Rattle.link_start.specs.Starts.{CanStart, HasTried, IsStartCause, IsLetIn, IsStartable, IsStarted, IsRefusalOf}
use Rattle.link_start.specs.declared.start.StartCause.{StartCause}
use Rattle.link_start.specs.declared.start.StartCause.TheVariants as cause
use Rattle.message_view.specs.declared.refusal.Refusal.TheVariants.{ServerNotReached}
use Rattle.relay_core.specs.Leases.{RelayView, Place, place, IsLease, IsAllowed, IsLinkOver, Keeps}
use Rattle.relay_core.proofs.Exact.{lease_allowed, spared_service}
use Rattle.link_model.specs.Standing.{marks_since}
use Rattle.relay_core.specs.Answers.{AtBorder, EndsByClient, RefusedBy}
use Rattle.relay_core.specs.Steps.{IsStuck}
use Rattle.relay_core.specs.Returns.{is_clear}
use Rattle.link_model.specs.Futures.{future}
use Rattle.memory_ends.specs.Servers.{has_some}
use Rattle.memory_lease.specs.Answers.{IsAnswer, IsGiven as IsGivenOf, IsRefusedAt, MayDie, own_pieces}
use Rattle.memory_lease.specs.declared.alone.Ending.{Ending}
use Rattle.memory_lease.specs.declared.alone.Ending.TheVariants.{Done, Refused, Cut}
use Rattle.memory_lease.specs.Held.{HasDied, IsAtEnd, IsEnding, IsPut, TellsCause, TellsEnding}
use Rattle.memory_lease.specs.Own.{IsMarked, OwnOf, mark, marked, own_server}
use Rattle.memory_ends.specs.Clients.{given_with}
use Rattle.memory_lease.specs.Patient.{PatientOf, IsGiven, new_patient}
use Rattle.memory_ends.proofs.Whose.{Apart, whose}
use Rattle.session_run_laws.proofs.Pieces.{pieces_join, pieces_of_both}
use Rattle.session_run_laws.proofs.Service.{begins_both, service_on}
use Rattle.memory_lease.proofs.Causes.{caused_by}
use Rattle.memory_lease.proofs.Whole.{IsOver, all_given, clear_is}

-- A client with this input has been served over a link to this server, which was started with this key: its lease, and what it
-- was given.
pub record IsServed (began : Standing) (key : StartKeyOf) (word : KeyWord) (bytes out : List ℕ) (v : RelayView) (at : Place) : Type 0 where
  pub lease : IsLease at v
  pub follows : began.follows ≡ true
  pub bytes_are : AreBytes bytes
  pub stands : at.stands.follows ≡ began.follows
  pub server : at.stands.server ≡ began.server
  pub spared : began.server.strikable ≡ false
  pub key_is : v.key ≡ key
  pub word_is : v.word ≡ word
  pub tells : v.client.tells ≡ true
  pub none_taken : at.taken ≡ []
  -- whatever it was given since then is this
  pub given : (since : List ℕ) → v.client.given ≡ at.given ++ since → out ≡ since
  pub taken : (some : List ℕ) → v.client.taken ≡ some → Begins some bytes
  -- it ends by itself only once all of its bytes were taken
  pub faults : v.client.faults ≡ 0
  pub all : v.client.ended ≡ true → (some : List ℕ) → v.client.taken ≡ some → some ≡ bytes

follows_now : (began : Standing) (key : StartKeyOf) (word : KeyWord) (bytes out : List ℕ) (v : RelayView) (at : Place) → IsServed began key word bytes out v at → v.link.follows ≡ true
follows_now began key word bytes out v at x = x.lease.moves.follows ∙ x.stands ∙ x.follows

fresh_link : (began : Standing) (key : StartKeyOf) (word : KeyWord) (bytes out : List ℕ) (v : RelayView) (at : Place) → (x : IsServed began key word bytes out v at) → IsFreshLink at.stands v.key at.reports
fresh_link began key word bytes out v at x = x.lease.clean.fresh (x.stands ∙ x.follows)

-- the bytes of a server's own answer
own_joined : (cat : CatalogueOf) (key : StartKeyOf) (word : KeyWord) (bytes : List ℕ) → joined_pieces (own_pieces cat key word bytes) ≡ service cat key word.pid word.secret [] bytes
unfolding service
own_joined cat key word bytes = pieces_join (served cat (fresh cat key) word.pid word.secret [] (client_frames bytes))

front_begins : (a b c : List ℕ) → (x : List ℕ) → (a ++ b) ++ x ≡ c → Begins a c
front_begins a b c x e = record { more = b ++ x; both = sym (append_assoc a b x) ∙ e }

drop_part : (a t p bytes : List ℕ) → Begins (a ++ (t ++ p)) bytes → Begins (a ++ t) bytes
drop_part a t p bytes x = record { more = p ++ x.more; both = sym (append_assoc (a ++ t) p x.more) ∙ (ap (λ (l : List ℕ). l ++ x.more) (append_assoc a t p) ∙ x.both) }

service_begins : (cat : CatalogueOf) (key : StartKeyOf) (pid secret : ℕ) (a bytes : List ℕ) → Begins a bytes → Begins (service cat key pid secret [] a) (service cat key pid secret [] bytes)
service_begins cat key pid secret a bytes x = subst (λ (l : List ℕ). Begins (service cat key pid secret [] a) (service cat key pid secret [] l)) x.both (service_on cat key pid secret [] a x.more)

-- what it was given, and what is there for it, begin what a server of its own answers
there_begins : (began : Standing) (key : StartKeyOf) (word : KeyWord) (bytes out : List ℕ) (v : RelayView) (at : Place) → (x : IsServed began key word bytes out v at) → Begins ((lease_allowed at v x.lease x.tells (follows_now began key word bytes out v at x)).since ++ (v.greeting ++ (v.to_client.held ++ v.to_client.part))) (service began.server.catalogue key word.pid word.secret [] bytes)
there_begins began key word bytes out v at x =
    let a : IsAllowed at v = lease_allowed at v x.lease x.tells (follows_now began key word bytes out v at x) in
    let front : List ℕ = flat_map spelling a.forwarded ++ a.tail in
    let own : service at.stands.server.catalogue v.key v.word.pid v.word.secret [] front ≡ service began.server.catalogue key word.pid word.secret [] front =
    ap (λ (s : stages.Server). service s.catalogue v.key v.word.pid v.word.secret [] front) x.server
    ∙ ap₂ (λ (k : StartKeyOf) (w : KeyWord). service began.server.catalogue k w.pid w.secret [] front) x.key_is x.word_is in
    let spared : service at.stands.server.catalogue v.key v.word.pid v.word.secret (marks_since at.stands v.link) front ≡ service at.stands.server.catalogue v.key v.word.pid v.word.secret [] front =
    spared_service at v x.lease (x.stands ∙ x.follows) (ap (λ (s : stages.Server). s.strikable) x.server ∙ x.spared) at.stands.server.catalogue v.key v.word.pid v.word.secret front in
    let some : Begins front bytes = drop_part (flat_map spelling a.forwarded) a.tail v.to_link.part bytes (x.taken _ (a.taken ∙ ap (λ (l : List ℕ). l ++ (flat_map spelling a.forwarded ++ (a.tail ++ v.to_link.part))) x.none_taken)) in
    begins_both (a.since ++ (v.greeting ++ (v.to_client.held ++ v.to_client.part))) (service began.server.catalogue key word.pid word.secret [] front) _ (record { more = a.more; both = a.front ∙ (spared ∙ own) }) (service_begins began.server.catalogue key word.pid word.secret front bytes some)

-- what it was given begins it
given_begins : (began : Standing) (key : StartKeyOf) (word : KeyWord) (bytes out : List ℕ) (v : RelayView) (at : Place) → IsServed began key word bytes out v at → Begins out (service began.server.catalogue key word.pid word.secret [] bytes)
given_begins began key word bytes out v at x =
    let a : IsAllowed at v = lease_allowed at v x.lease x.tells (follows_now began key word bytes out v at x) in
    let t : Begins (a.since ++ (v.greeting ++ (v.to_client.held ++ v.to_client.part))) (service began.server.catalogue key word.pid word.secret [] bytes) = there_begins began key word bytes out v at x in
    subst (λ (l : List ℕ). Begins l (service began.server.catalogue key word.pid word.secret [] bytes)) (sym (x.given a.since a.given)) (front_begins a.since (v.greeting ++ (v.to_client.held ++ v.to_client.part)) (service began.server.catalogue key word.pid word.secret [] bytes) t.more t.both)

-- what it was given is what may be given, or more
given_all : (dies : Option ℕ) (out : List ℕ) (pieces : List (List ℕ)) → out ≡ joined_pieces pieces → IsGivenOf dies out pieces
given_all None out pieces e = e
given_all (Some n) out pieces e = record { more = []; both = append-nil out ∙ e }

given_some : (dies : Option ℕ) (out : List ℕ) (pieces : List (List ℕ)) → Begins out (joined_pieces pieces) → (dies ≡ None → out ≡ joined_pieces pieces) → IsGivenOf dies out pieces
given_some None out pieces b e = e refl
given_some (Some n) out pieces b e = b

unrefused : (dies : Option ℕ) (began : Standing) (key : StartKeyOf) (word : KeyWord) (bytes out : List ℕ) (v : RelayView) (at : Place) → IsServed began key word bytes out v at → (dies ≡ None → out ≡ service began.server.catalogue key word.pid word.secret [] bytes)
    → IsAnswer dies at.limit bytes out (own_pieces began.server.catalogue key word bytes)
unrefused dies began key word bytes out v at x e =
    let joined : joined_pieces (own_pieces began.server.catalogue key word bytes) ≡ service began.server.catalogue key word.pid word.secret [] bytes = own_joined began.server.catalogue key word bytes in
    inl (given_some dies out (own_pieces began.server.catalogue key word bytes) (subst (Begins out) (sym joined) (given_begins began key word bytes out v at x)) (λ n. e n ∙ sym joined))

-- ---- given all

over : (began : Standing) (key : StartKeyOf) (word : KeyWord) (bytes out : List ℕ) (v : RelayView) (at : Place) → IsServed began key word bytes out v at → EndsByClient at v → IsOver bytes v
over began key word bytes out v at x (inl (inl e)) = record { taken = x.taken; all = inl (x.all e) }
over began key word bytes out v at x (inl (inr f)) = absurd (omega (arith, f, x.faults))
over began key word bytes out v at x (inr e) = record { taken = x.taken; all = inr e.0 }

whole : (began : Standing) (key : StartKeyOf) (word : KeyWord) (bytes out : List ℕ) (v : RelayView) (at : Place) → IsServed began key word bytes out v at → v.link.lives ≡ true → is_clear v ≡ true → future v.link [] ≡ [] → IsStuck v.to_link → EndsByClient at v
    → out ≡ service began.server.catalogue key word.pid word.secret [] bytes
whole began key word bytes out v at x l c silent stuck e =
    let g = all_given at v bytes x.lease x.tells (follows_now began key word bytes out v at x) l (ap (λ (s : stages.Server). s.strikable) x.server ∙ x.spared) x.none_taken x.bytes_are (clear_is v c) stuck silent (over began key word bytes out v at x e) in
    x.given g.0.since g.0.given ∙ (g.1 ∙ (ap (λ (s : stages.Server). service s.catalogue v.key v.word.pid v.word.secret [] bytes) x.server
    ∙ ap₂ (λ (k : StartKeyOf) (w : KeyWord). service began.server.catalogue k w.pid w.secret [] bytes) x.key_is x.word_is))

-- ---- refused at a border

-- the welcome and whole frames are first pieces
refused_at : (ws gs rs : List FrameOf) (out last : List ℕ) (r : Refusal) (pieces : List (List ℕ)) → out ≡ flat_map spelling ws ++ flat_map spelling gs → pieces ≡ map spelling (ws ++ (gs ++ rs)) → last ≡ out ++ refusal r → IsRefusedAt last pieces
refused_at ws gs rs out last r pieces e p l = record {
  given = map spelling (ws ++ gs);
  kept = map spelling rs;
  pieces_are = pieces_of_both (ws ++ gs) rs ∙ (ap (map spelling) (append_assoc ws gs rs) ∙ sym p);
  cause = r;
  out_is = l ∙ ap (λ (o : List ℕ). o ++ refusal r) (e ∙ (sym (flat_map-append spelling ws gs) ∙ sym (pieces_join (ws ++ gs))));
}

all_back : (fs gs : List FrameOf) → AllByRecursion (IsFrame Server MAX_FRAME) (fs ++ gs) → AllByRecursion (IsFrame Server MAX_FRAME) gs
all_back [] gs a = a
all_back (f ∷ fs) gs a = all_back fs gs a.1

served_fresh : (cat : CatalogueOf) (key : StartKeyOf) (word : KeyWord) (bytes : List ℕ) (s : State) → fresh cat key ≡ Ok s → own_pieces cat key word bytes ≡ map spelling (welcome s word.pid word.secret ++ (run_frames cat s [] (client_frames bytes)).replies)
served_fresh cat key word bytes s e = ap (λ (r : Result State Cause). map spelling (served cat r word.pid word.secret [] (client_frames bytes))) e

service_fresh : (cat : CatalogueOf) (key : StartKeyOf) (word : KeyWord) (bytes : List ℕ) (s : State) → fresh cat key ≡ Ok s → service cat key word.pid word.secret [] bytes ≡ flat_map spelling (welcome s word.pid word.secret) ++ flat_map spelling (run_frames cat s [] (client_frames bytes)).replies
unfolding service
service_fresh cat key word bytes s e = ap (λ (r : Result State Cause). flat_map spelling (served cat r word.pid word.secret [] (client_frames bytes))) e ∙ flat_map-append spelling (welcome s word.pid word.secret) (run_frames cat s [] (client_frames bytes)).replies

-- what was given and the part behind it begin what a server of its own answers
part_begins : (began : Standing) (key : StartKeyOf) (word : KeyWord) (bytes out : List ℕ) (v : RelayView) (at : Place) → IsServed began key word bytes out v at → v.greeting ≡ [] → v.to_client.held ≡ [] → Begins (out ++ v.to_client.part) (service began.server.catalogue key word.pid word.secret [] bytes)
part_begins began key word bytes out v at x g h =
    let a : IsAllowed at v = lease_allowed at v x.lease x.tells (follows_now began key word bytes out v at x) in
    let s : Begins (a.since ++ (v.greeting ++ (v.to_client.held ++ v.to_client.part))) (service began.server.catalogue key word.pid word.secret [] bytes) = there_begins began key word bytes out v at x in
    subst (λ (l : List ℕ). Begins l (service began.server.catalogue key word.pid word.secret [] bytes)) (ap₂ (λ (c d : List ℕ). a.since ++ (c ++ (d ++ v.to_client.part))) g h ∙ ap (λ (o : List ℕ). o ++ v.to_client.part) (sym (x.given a.since a.given))) s

refused : (dies : Option ℕ) (began : Standing) (key : StartKeyOf) (word : KeyWord) (bytes out last : List ℕ) (v : RelayView) (at : Place) (r : Refusal) → (x : IsServed began key word bytes out v at) → AtBorder at v → RefusedBy at v r → (IsLinkOver at.stands.faults v.link → MayDie dies)
    → last ≡ out ++ refusal r → IsAnswer dies at.limit bytes last (own_pieces began.server.catalogue key word bytes)
unfolding refused_at
refused dies began key word bytes out last v at r x b why died l =
    let c : IsFreshLink at.stands v.key at.reports = fresh_link began key word bytes out v at x in
    let s : State = c.stands.session in
    let cat : CatalogueOf = began.server.catalogue in
    let same : at.stands.server.catalogue ≡ cat = ap (λ (t : stages.Server). t.catalogue) x.server in
    let opened : fresh cat key ≡ Ok s = sym (ap₂ fresh same x.key_is) ∙ c.stands.is_fresh in
    let ws : List FrameOf = welcome s word.pid word.secret in
    let rs : List FrameOf = (run_frames cat s [] (client_frames bytes)).replies in
    let out_is : out ≡ flat_map spelling ws ++ flat_map spelling b.arrived =
    x.given b.since (b.given x.tells) ∙ (b.whole ∙ ap (λ (g : List ℕ). g ++ flat_map spelling b.arrived) (x.lease.greets (x.stands ∙ x.follows) s c.stands.is_fresh ∙ ap (λ (w : KeyWord). flat_map spelling (welcome s w.pid w.secret)) x.word_is)) in
    let held : Begins (out ++ v.to_client.part) (service cat key word.pid word.secret [] bytes) = part_begins began key word bytes out v at x b.greeting b.held in
    let g : Begins out (service cat key word.pid word.secret [] bytes) = record { more = v.to_client.part ++ held.more; both = sym (append_assoc out v.to_client.part held.more) ∙ held.both } in
    let all : flat_map spelling ws ++ flat_map spelling rs ≡ flat_map spelling ws ++ (flat_map spelling b.arrived ++ g.more) =
    sym (service_fresh cat key word bytes s opened) ∙ (sym g.both ∙ (ap (λ (o : List ℕ). o ++ g.more) out_is ∙ append_assoc (flat_map spelling ws) (flat_map spelling b.arrived) g.more)) in
    let reached : Reaches cat key s = subst (λ (k : StartKeyOf). Reaches cat k s) x.key_is (subst (λ (t : CatalogueOf). Reaches t v.key s) same (fresh_is_reached at.stands.server.catalogue v.key s c.stands.lawful c.stands.lawful_key c.stands.is_fresh)) in
    let whole : AllByRecursion (IsFrame Server MAX_FRAME) rs = run_replies_are_frames cat key s [] (client_frames bytes) reached (client_frames_are_sent bytes x.bytes_are) in
    let o : SplitsOff rs b.arrived [] g.more = split_whole Server MAX_FRAME rs b.arrived g.more (omega arith) whole b.came (same_back (flat_map spelling ws) (flat_map spelling rs) (flat_map spelling b.arrived ++ g.more) all) in
    let later : AllByRecursion (IsFrame Server MAX_FRAME) o.more = all_back b.arrived o.more (subst (λ (fs : List FrameOf). AllByRecursion (IsFrame Server MAX_FRAME) fs) o.all whole) in
    inr (record {
      at = refused_at ws b.arrived o.more out last r (own_pieces cat key word bytes) out_is (served_fresh cat key word bytes s opened ∙ ap (λ (fs : List FrameOf). map spelling (ws ++ fs)) o.all) l;
      because = caused_by dies at v bytes held.more (map spelling (ws ++ b.arrived)) o.more r x.lease x.tells x.none_taken x.taken later o.bytes why died;
    })

-- ---- a client of the service

-- whose client it is, and what it was given
whose_is : (bytes out since : List ℕ) (c : PatientOf) (v : RelayView) (p : Place) → IsGiven c out → c.facts ≡ v.client → p.given ≡ given_with bytes [] → v.client.given ≡ p.given ++ since → Apart c.input bytes out since
whose_is bytes out since c v p g e b h = whose c.input out bytes since (sym g.given ∙ (ap (λ (t : ClientFacts). t.given) e ∙ (h ∙ ap (λ (l : List ℕ). l ++ since) b)))

takes_some : (bytes out some : List ℕ) (c : PatientOf) (v : RelayView) → IsGiven c out → c.facts ≡ v.client → c.input ≡ bytes → v.client.taken ≡ some → Begins some bytes
takes_some bytes out some c v g e i h = record {
  more = drop c.at bytes;
  both = ap (λ (l : List ℕ). l ++ drop c.at bytes) (sym h ∙ (sym (ap (λ (t : ClientFacts). t.taken) e) ∙ (g.taken ∙ ap (take c.at) i))) ∙ take-append-drop c.at bytes;
}

-- a client of which all was taken, where it has ended
takes_all : (bytes out since some : List ℕ) (c : PatientOf) (v : RelayView) → c.facts ≡ v.client → c.input ≡ bytes → (c.facts.ended ≡ true → c.facts.taken ≡ c.input) → v.client.ended ≡ true → v.client.taken ≡ some → some ≡ bytes
takes_all bytes out since some c v e i a d h =
    let ended : c.facts.ended ≡ true = ap (λ (t : ClientFacts). t.ended) e ∙ d in
    sym h ∙ (sym (ap (λ (t : ClientFacts). t.taken) e) ∙ (a ended ∙ i))

-- what a patient client tells at the end of its lease
pub record IsClient (c : PatientOf) (v : RelayView) (out : List ℕ) : Type 0 where
  pub facts : c.facts ≡ v.client
  pub given : IsGiven c out
  pub faults : c.facts.faults ≡ 0
  pub all : c.facts.ended ≡ true → c.facts.taken ≡ c.input

pub served_by : (began : Standing) (cred : CredentialOf) (key : StartKeyOf) (word : KeyWord) (bytes out : List ℕ) (link : LinkView) (limit : ℕ) (old v : RelayView) (c : PatientOf) → began.follows ≡ true → began.server.strikable ≡ false → IsStarted began cred link → link.key ≡ key
    → AreBytes bytes → IsLease (place (new_patient bytes).facts link word limit) old → Keeps old v → IsClient c v out → IsServed began key word bytes out v (place (new_patient bytes).facts link word limit)
served_by began cred key word bytes out link limit old v c f sp st k ab l kp g =
    let at : Place = place (new_patient bytes).facts link word limit in
    let lease : IsLease at v = kp at l in
    let stands : link.stands.follows ≡ began.follows = st.under_way.starting.moves.follows in
    let a : IsAllowed at v = lease_allowed at v lease lease.told (lease.moves.follows ∙ (stands ∙ f)) in
    let input : c.input ≡ bytes = (whose_is bytes out a.since c v at g.given g.facts refl a.given).front in
    record {
      lease = lease;
      follows = f;
      bytes_are = ab;
      stands = stands;
      server = st.under_way.starting.moves.server;
      spared = sp;
      key_is = lease.same.0 ∙ k;
      word_is = lease.same.3;
      tells = lease.told;
      none_taken = refl;
      given = λ since h. (whose_is bytes out since c v at g.given g.facts refl h).back;
      taken = λ some h. takes_some bytes out some c v g.given g.facts input h;
      faults = sym (ap (λ (t : ClientFacts). t.faults) g.facts) ∙ g.faults;
      all = λ d some h. takes_all bytes out a.since some c v g.facts input g.all d h;
    }

pub begun_as : (bytes : List ℕ) (first : PatientOf) (link : LinkView) (word : KeyWord) (limit : ℕ) (old : RelayView) → first ≡ new_patient bytes → IsLease (place first.facts link word limit) old → IsLease (place (new_patient bytes).facts link word limit) old
begun_as bytes first link word limit old e l = subst (λ (x : PatientOf). IsLease (place x.facts link word limit) old) e l

same_out : (began : Standing) (key : StartKeyOf) (word : KeyWord) (bytes out last : List ℕ) (v : RelayView) (at : Place) → last ≡ out → IsServed began key word bytes out v at → IsServed began key word bytes last v at
same_out began key word bytes out last v at e x = subst (λ (o : List ℕ). IsServed began key word bytes o v at) (sym e) x

-- ---- the server at the end of its lease

marks_same : (a b : Option ℕ) → mark a ≡ mark b → b ≡ None → a ≡ None
marks_same None b e n = refl
marks_same (Some m) None e n = absurd (omega (arith, e))
marks_same (Some m) (Some k) e n = absurd cc

-- one that may not die still lives, and has counted no fault
pub record IsServer (dies : Option ℕ) (server : OwnOf) (v : RelayView) : Type 0 where
  pub stands : server.standing ≡ v.link
  pub faults : server.standing.faults ≡ 0
  pub lives : dies ≡ None → server.standing.lives ≡ true

server_by : (dies : Option ℕ) (began : Standing) (cred : CredentialOf) (link : LinkView) (at : Place) (v : RelayView) (server : OwnOf) (rest : List ℕ) → began.accepted ≡ mark dies ∷ rest → IsStarted began cred link → at.stands ≡ link.stands → IsLease at v → server.standing ≡ v.link
    → IsMarked server → server.standing.faults ≡ 0 → server.standing.lives ≡ has_some server.left → IsServer dies server v
server_by dies began cred link at v server rest e st a x s m f l =
    let start = st.under_way.starting in
    let all : v.link.accepted ≡ ((mark dies ∷ rest) ++ start.sent) ++ x.sent = x.moves.accepted ∙ (ap (λ (t : Standing). t.accepted ++ x.sent) a ∙ (ap (λ (t : List ℕ). t ++ x.sent) start.moves.accepted ∙ ap (λ (t : List ℕ). (t ++ start.sent) ++ x.sent) e)) in
    let both : mark server.left ∷ m.0 ≡ mark dies ∷ ((rest ++ start.sent) ++ x.sent) = sym m.1 ∙ (ap (λ (t : Standing). t.accepted) s ∙ all) in
    let same : mark server.left ≡ mark dies = cc in
    record {
      stands = s;
      faults = f;
      lives = λ n. l ∙ ap has_some (marks_same server.left dies same n);
    }

died : (dies : Option ℕ) (server : OwnOf) (v : RelayView) (faults : ℕ) → IsServer dies server v → IsLinkOver faults v.link → MayDie dies
died (Some n) server v faults x o = tt
died None server v faults x (inl e) = absurd (true≢false (sym (x.lives refl) ∙ (ap (λ (t : Standing). t.lives) x.stands ∙ e)))
died None server v faults x (inr h) = absurd (omega (arith, h, ap (λ (t : Standing). t.faults) x.stands, x.faults))

-- ---- its answer

ended_whole : (dies : Option ℕ) (began : Standing) (key : StartKeyOf) (word : KeyWord) (bytes out : List ℕ) (v : RelayView) (at : Place) (clear : Bool) (server : OwnOf) → IsServed began key word bytes out v at → IsServer dies server v → clear ≡ is_clear v → IsStuck v.to_link → EndsByClient at v
    → IsAtEnd clear server → dies ≡ None → out ≡ service began.server.catalogue key word.pid word.secret [] bytes
ended_whole dies began key word bytes out v at clear server x s c stuck e (inl y) n =
    whole began key word bytes out v at x (sym (ap (λ (t : Standing). t.lives) s.stands) ∙ s.lives n) (sym c ∙ y.0) (sym (ap (λ (t : Standing). future t []) s.stands) ∙ y.1) stuck e
ended_whole dies began key word bytes out v at clear server x s c stuck e (inr d) n = absurd (true≢false (sym (s.lives n) ∙ d))

answered : (dies : Option ℕ) (began : Standing) (key : StartKeyOf) (word : KeyWord) (bytes out last : List ℕ) (at : Place) (old v : RelayView) (ending : Ending) (clear : Bool) (server : OwnOf) → IsServed began key word bytes out v at → IsLease at old → IsServer dies server v → clear ≡ is_clear v
    → IsEnding old v ending → IsPut ending clear server out last → IsAnswer dies at.limit bytes last (own_pieces began.server.catalogue key word bytes)
answered dies began key word bytes out last at old v Done clear server x i s c e put =
    unrefused dies began key word bytes last v at (same_out began key word bytes out last v at put.0 x) (λ n. put.0 ∙ ended_whole dies began key word bytes out v at clear server x s c e.0 (e.1 at i) put.1 n)
answered dies began key word bytes out last at old v (Refused r) clear server x i s c e put = refused dies began key word bytes out last v at r x (e at i).0 (e at i).1 (died dies server v at.stands.faults s) put
answered dies began key word bytes out last at old v Cut clear server x i s c e put =
    unrefused dies began key word bytes last v at (same_out began key word bytes out last v at put.0 x) (λ n. absurd (true≢false (sym (s.lives n) ∙ put.1)))

pub given_answered : (dies : Option ℕ) (start : Standing) (first_own : OwnOf) (cred : CredentialOf) (key : StartKeyOf) (word : KeyWord) (bytes out last : List ℕ) (ending : Ending) (clear : Bool) (link : LinkView) (limit : ℕ) (old v : RelayView) (first c : PatientOf) (server : OwnOf)
    → first_own ≡ own_server dies start → start.follows ≡ true → start.server.strikable ≡ false → IsStarted first_own.standing cred link → link.key ≡ key → AreBytes bytes → first ≡ new_patient bytes → IsLease (place first.facts link word limit) old → Keeps old v → IsClient c v out → server.standing ≡ v.link
    → clear ≡ is_clear v → IsEnding old v ending → TellsEnding ending clear server out last → IsAnswer dies limit bytes last (own_pieces start.server.catalogue key word bytes)
given_answered dies start first_own cred key word bytes out last ending clear link limit old v first c server o f sp st k ab n b kp g s cl e t =
    let at : Place = place (new_patient bytes).facts link word limit in
    let began : Standing = marked dies start in
    let started : IsStarted began cred link = subst (λ (x : OwnOf). IsStarted x.standing cred link) o st in
    let lease : IsLease at old = begun_as bytes first link word limit old n b in
    answered dies began key word bytes out last at old v ending clear server (served_by began cred key word bytes out link limit old v c f sp started k ab lease kp g) lease
    (server_by dies began cred link at v server start.accepted refl started refl (kp at lease) s t.marked t.faults t.lives) cl e t.put

-- ---- a start that the server refuses

fresh_error : (r : Result State Cause) (f : FrameOf) (cat : CatalogueOf) (word : KeyWord) (fs : List FrameOf) → start_error r ≡ Some f → map spelling (served cat r word.pid word.secret [] fs) ≡ spelling f ∷ []
fresh_error (Ok s) f cat word fs e = absurd cc
fresh_error (Err c) f cat word fs e = cc

refused_start : (dies : Option ℕ) (began : Standing) (cred : CredentialOf) (key : StartKeyOf) (word : KeyWord) (limit : ℕ) (bytes out error : List ℕ) → IsLetIn began key cred → IsRefusalOf began cred key error → out ≡ [] ++ error
    → IsAnswer dies limit bytes out (own_pieces began.server.catalogue key word bytes)
refused_start dies began cred key word limit bytes out error l x e =
    let one : own_pieces began.server.catalogue key word bytes ≡ spelling x.frame ∷ [] = fresh_error (fresh began.server.catalogue key) x.frame began.server.catalogue word (client_frames bytes) (sym l ∙ x.refusal) in
    inl (given_all dies out (own_pieces began.server.catalogue key word bytes) (e ∙ (x.whole ∙ (sym (append-nil (spelling x.frame)) ∙ ap joined_pieces (sym one)))))

-- ---- a start that fails otherwise

-- a server that died is one that may die
may_die : (dies left : Option ℕ) → mark left ≡ mark dies → has_some left ≡ false → MayDie dies
may_die (Some n) left e h = tt
may_die None (Some m) e h = absurd (omega (arith, e))
may_die None None e h = absurd (true≢false h)

dies_by : (dies : Option ℕ) (began now : Standing) (sent got rest : List ℕ) (server : OwnOf) → began.accepted ≡ mark dies ∷ rest → Moves began sent now got → server.standing ≡ now → HasDied server → MayDie dies
dies_by dies began now sent got rest server e m s d =
    let both : mark server.left ∷ d.marked.0 ≡ mark dies ∷ (rest ++ sent) = sym d.marked.1 ∙ (ap (λ (t : Standing). t.accepted) s ∙ (m.accepted ∙ ap (λ (t : List ℕ). t ++ sent) e)) in
    let same : mark server.left ≡ mark dies = cc in
    may_die dies server.left same d.left

told_first : (dies : Option ℕ) (limit : ℕ) (bytes old new : List ℕ) (pieces : List (List ℕ)) → old ≡ [] → new ≡ old ++ refusal ServerNotReached → MayDie dies → IsAnswer dies limit bytes new pieces
told_first dies limit bytes old new pieces n e d = inr (record {
  at = record { given = []; kept = pieces; pieces_are = refl; cause = ServerNotReached; out_is = e ∙ ap (λ (o : List ℕ). o ++ refusal ServerNotReached) n };
  because = (refl, d);
})

unstarted_by : (dies : Option ℕ) (began now : Standing) (cred : CredentialOf) (key : StartKeyOf) (word : KeyWord) (limit turns : ℕ) (bytes old new rest : List ℕ) (c : StartCause) (server : OwnOf) → began.follows ≡ true → began.accepted ≡ mark dies ∷ rest → IsLetIn began key cred
    → IsStartCause began now cred key c → (c ≡ cause.Turns → HasTried began cred key now turns) → (c ≡ cause.Late → false ≡ true) → server.standing ≡ now → old ≡ [] → TellsCause c server old new → IsAnswer dies limit bytes new (own_pieces began.server.catalogue key word bytes)
unstarted_by dies began now cred key word limit turns bytes old new rest (cause.Refused error) server f a l x h u s n t = refused_start dies began cred key word limit bytes new error l (x.1 f) (t ∙ ap (λ (o : List ℕ). o ++ error) n)
unstarted_by dies began now cred key word limit turns bytes old new rest cause.Lost server f a l x h u s n t = told_first dies limit bytes old new _ n t.1.0 (dies_by dies began now x.sent x.received rest server a x.moves s t.1.1)
unstarted_by dies began now cred key word limit turns bytes old new rest (cause.Unanswerable question) server f a l x h u s n t = told_first dies limit bytes old new _ n t.1.0 (dies_by dies began now x.0.sent x.0.received rest server a x.0.moves s t.1.1)
unstarted_by dies began now cred key word limit turns bytes old new rest cause.Unexpected server f a l x h u s n t = told_first dies limit bytes old new _ n t.1.0 (dies_by dies began now x.0.sent x.0.received rest server a x.0.moves s t.1.1)
unstarted_by dies began now cred key word limit turns bytes old new rest cause.Turns server f a l x h u s n t =
    told_first dies limit bytes old new _ n t.1.0 (dies_by dies began now (h refl).starting.sent (h refl).received rest server a (h refl).starting.moves s t.1.1)
unstarted_by dies began now cred key word limit turns bytes old new rest cause.Late server f a l x h u s n t = absurd (true≢false (sym (u refl)))
unstarted_by dies began now cred key word limit turns bytes old new rest cause.Memory server f a l x h u s n t = absurd (t.0 refl)

-- what a client is told whose link wasn't started
pub unstarted : (dies : Option ℕ) (start : Standing) (first_own server : OwnOf) (cred : CredentialOf) (key : StartKeyOf) (word : KeyWord) (limit turns : ℕ) (bytes old new : List ℕ) (c : StartCause) → first_own ≡ own_server dies start → start.follows ≡ true → IsLetIn start key cred
    → IsStartCause first_own.standing server.standing cred key c → (c ≡ cause.Turns → HasTried first_own.standing cred key server.standing turns) → (c ≡ cause.Late → false ≡ true) → old ≡ [] → TellsCause c server old new → IsAnswer dies limit bytes new (own_pieces start.server.catalogue key word bytes)
unstarted dies start first_own server cred key word limit turns bytes old new c o f l x h u n t =
    unstarted_by dies (marked dies start) server.standing cred key word limit turns bytes old new start.accepted c server f refl l (subst (λ (y : OwnOf). IsStartCause y.standing server.standing cred key c) o x)
    (λ e. subst (λ (y : OwnOf). HasTried y.standing cred key server.standing turns) o (h e)) u refl n t

-- a start may begin as one of the server alone
pub can_start : (cred : CredentialOf) (user : List ℕ) (dies : Option ℕ) (start : Standing) (first_own : OwnOf) → first_own ≡ own_server dies start → IsStartable cred user start → CanStart cred user first_own.standing
can_start cred user dies start first_own o s = subst (λ (y : OwnOf). CanStart cred user y.standing) (sym o) (λ f. record {
  is_new = record { stage = s.is_new.stage; inbox = s.is_new.inbox; outbox = s.is_new.outbox; lawful = s.is_new.lawful };
  in_frame = s.in_frame;
  questions = s.questions;
})
