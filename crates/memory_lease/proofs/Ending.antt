-- What the server of a lease tells that came to no end.
use Rattle.std.proofs.Common.{◌≡◌, ℕ, true, false, List, ◌∷◌, ◌++◌, sym, ap, ◌∙◌, append_assoc, append-nil, subst, Option}
use Rattle.std.specs.List.{flat_map}
use Rattle.frame_view.specs.Frames.{AreBytes, spelling}
use Rattle.message_view.specs.declared.KeyWord.{KeyWord}
use Rattle.message_view.specs.Refusals.{Begins}
use Rattle.session_values.specs.State.{StartKeyOf}
use Rattle.credentials.specs.Credentials.{CredentialOf}
use Rattle.link_model.specs.Stages.{packets_bytes}
use Rattle.link_model.specs.Standing.{Standing}
use Rattle.link_model.specs.Dialogues.{start_packets}
use Rattle.link_start.specs.Links.{LinkView}
use Rattle.link_start.specs.Starts.{IsStarted}
use Rattle.relay_core.specs.Leases.{RelayView, Place, place, IsLease, IsAllowed, Keeps}
use Rattle.relay_core.proofs.Exact.{lease_allowed}
use Rattle.memory_ends.specs.Servers.{ServerOf}
use Rattle.memory_lease.specs.Own.{OwnOf, mark, own_server}
use Rattle.memory_lease.specs.Patient.{PatientOf, new_patient}
use Rattle.memory_lease.specs.Unended.{StillWaits, IsUnended}
use Rattle.memory_lease.proofs.Answering.{IsClient, IsServed, served_by, begun_as}

-- of two equal lists the same stands behind the first
behind_first : (a b : ℕ) (xs ys : List ℕ) → a ∷ xs ≡ b ∷ ys → xs ≡ ys
behind_first a b xs ys e = cc

-- what the link accepted since the lease began is a beginning of the client's bytes
sent_begins : (a b c d bytes : List ℕ) → a ++ b ≡ c → Begins (c ++ d) bytes → Begins a bytes
sent_begins a b c d bytes same x = record { more = (b ++ d) ++ x.more; both = sym (append_assoc a (b ++ d) x.more) ∙ (ap (λ (l : List ℕ). l ++ x.more) (sym (append_assoc a b d) ∙ ap (λ (l : List ℕ). l ++ d) same) ∙ x.both) }

started_with : (began : Standing) (cred : CredentialOf) (link : LinkView) (key : StartKeyOf) → IsStarted began cred link → link.key ≡ key → (given : List (List ℕ)) × (link.stands.accepted ≡ began.accepted ++ packets_bytes (start_packets key given))
started_with began cred link key st k =
    let s = st.under_way.starting in
    (st.under_way.given, s.moves.accepted ∙ ap (λ (l : List ℕ). began.accepted ++ l) (sym (append-nil s.sent) ∙ (s.all ∙ ap (λ (x : StartKeyOf). packets_bytes (start_packets x st.under_way.given)) k)))

pub unended : (dies : Option ℕ) (start : Standing) (first_own : OwnOf) (cred : CredentialOf) (key : StartKeyOf) (word : KeyWord) (bytes out : List ℕ) (link : LinkView) (limit : ℕ) (old v : RelayView) (first c : PatientOf) (server : OwnOf) (last : ServerOf)
    → first_own ≡ own_server dies start → start.follows ≡ true → start.server.strikable ≡ false → IsStarted first_own.standing cred link → link.key ≡ key → AreBytes bytes → first ≡ new_patient bytes → IsLease (place first.facts link word limit) old → Keeps old v → IsClient c v out → server.standing ≡ v.link
    → own_server last.left last.standing ≡ server → StillWaits server.standing → IsUnended start key bytes last.standing
unended dies start first_own cred key word bytes out link limit old v first c server last o f sp st k ab n b kp g s t w =
    let at : Place = place (new_patient bytes).facts link word limit in
    let began : Standing = (own_server dies start).standing in
    let started : IsStarted began cred link = subst (λ (x : OwnOf). IsStarted x.standing cred link) o st in
    let x : IsServed began key word bytes out v at = served_by began cred key word bytes out link limit old v c f sp started k ab (begun_as bytes first link word limit old n b) kp g in
    let a : IsAllowed at v = lease_allowed at v x.lease x.tells (x.lease.moves.follows ∙ (x.stands ∙ f)) in
    let y = started_with began cred link key started k in
    let all : mark last.left ∷ last.standing.accepted ≡ mark dies ∷ ((start.accepted ++ packets_bytes (start_packets key y.0)) ++ a.sent) =
    ap (λ (q : OwnOf). q.standing.accepted) t ∙ (ap (λ (q : Standing). q.accepted) s ∙ (a.accepted ∙ ap (λ (l : List ℕ). l ++ a.sent) y.1)) in
    record {
      waits = subst (λ (q : OwnOf). StillWaits q.standing) (sym t) w;
      given = y.0;
      over = a.sent;
      accepted = behind_first (mark last.left) (mark dies) _ _ all;
      own = sent_begins a.sent v.to_link.held (flat_map spelling a.forwarded ++ a.tail) v.to_link.part bytes a.forwards
          (x.taken _ (a.taken ∙ (ap (λ (l : List ℕ). l ++ (flat_map spelling a.forwarded ++ (a.tail ++ v.to_link.part))) x.none_taken ∙ sym (append_assoc (flat_map spelling a.forwarded) a.tail v.to_link.part))));
    }
