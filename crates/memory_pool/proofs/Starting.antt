-- Links that are started, and what comes of those that can't be.
use Rattle.std.proofs.Common.{◌≡◌, ℕ, false, List, Option, Some, refl, sym, ap, ◌∙◌, subst, Result, Ok, Err}
use Rattle.std.specs.Prelude.{IfOk}
use Rattle.session_values.specs.State.{CatalogueOf, StartKeyOf, fresh}
use Rattle.credentials.specs.Credentials.{CredentialOf}
use Rattle.frame_view.specs.Frames.{FrameOf}
use Rattle.link_model.specs.Dialogues.{auth_of, start_error, start_refusal}
use Rattle.link_model.specs.Stages.{Auth, no_auth, Server}
use Rattle.link_model.specs.Standing.{Standing}
use Rattle.link_run.specs.Links.{LinkView}
use Rattle.memory_ends.specs.Servers.{ServerOf, new_server}
use Rattle.link_start.specs.Starts.{CanStartAll, IsStartCause, IsRefusalOf, IsStarted, own_answers}
use Rattle.link_start.specs.declared.start.StartCause.{StartCause}
use Rattle.link_start.specs.declared.start.StartCause.TheVariants as cause
use Rattle.memory_pool.specs.declared.answers.Taken.{Taken}
use Rattle.memory_pool.specs.declared.answers.Taken.TheVariants as taken
use Rattle.memory_pool.specs.MemoryPools.{IsAtHome, IsNewServer, IsStartError, IsTaken, IsUnstarted, IsStartRefusal}

-- a server that was just made, and asks for nothing
pub new_home : (cat : CatalogueOf) (v : Server) (cut : ℕ) (left : Option ℕ) (s : ServerOf) → v.catalogue ≡ cat → v.strikable ≡ false → CanStartAll (new_server v no_auth cut left).standing → s ≡ new_server v no_auth cut left → IsNewServer cat s.standing
new_home cat v cut left s c f can e = subst (λ (x : ServerOf). IsNewServer cat x.standing) (sym e) (record { home = record { follows = refl; catalogue = c; spared = f }; starts = can; trusts = refl })

pub on_ok : {A E : Type 0} (P Q : A → Type 0) (r : Result A E) → IfOk r P → ((x : A) → P x → Q x) → IfOk r Q
on_ok P Q (Ok x) p f = f x p
on_ok P Q (Err e) p f = tt

-- a link that was started over a new server is at home
pub started_home : (cat : CatalogueOf) (began : Standing) (cred : CredentialOf) (l : LinkView) → IsNewServer cat began → IsStarted began cred l → IsAtHome cat l
started_home cat began cred l n x = record {
  follows = x.under_way.starting.moves.follows ∙ n.home.follows;
  catalogue = ap (λ (s : Server). s.catalogue) x.under_way.starting.moves.server ∙ n.home.catalogue;
  spared = ap (λ (s : Server). s.strikable) x.under_way.starting.moves.server ∙ n.home.spared;
}

-- it refuses a start as it refuses the key's session
refuses_by : (cat : CatalogueOf) (server : Server) (auth : Auth) (cred : CredentialOf) (key : StartKeyOf) (frame : FrameOf) → server.catalogue ≡ cat → auth ≡ no_auth → start_refusal server auth key (own_answers cred key.user auth) ≡ Some frame → start_error (fresh cat key) ≡ Some frame
refuses_by cat server auth cred key frame c a e =
    subst (λ (t : CatalogueOf). start_error (fresh t key) ≡ Some frame) c (subst (λ (b : Auth). start_refusal server b key (own_answers cred key.user b) ≡ Some frame) a e)

refused_so : (cat : CatalogueOf) (began : Standing) (cred : CredentialOf) (key : StartKeyOf) (error : List ℕ) → IsNewServer cat began → IsRefusalOf began cred key error → IsStartError cat key error
refused_so cat began cred key error n x = record {
  frame = x.frame;
  refused = refuses_by cat began.server (auth_of began.stage) cred key x.frame n.home.catalogue n.trusts x.refusal;
  whole = x.whole;
}

pub unstarted : (cat : CatalogueOf) (began now : Standing) (cred : CredentialOf) (key : StartKeyOf) (c : StartCause) → IsNewServer cat began → IsStartCause began now cred key c → IsUnstarted cat key c
unstarted cat began now cred key (cause.Refused error) n x = refused_so cat began cred key error n (x.1 n.home.follows)
unstarted cat began now cred key cause.Lost n x = tt
unstarted cat began now cred key (cause.Unanswerable question) n x = tt
unstarted cat began now cred key cause.Unexpected n x = tt
unstarted cat began now cred key cause.Memory n x = tt
unstarted cat began now cred key cause.Turns n x = tt
unstarted cat began now cred key cause.Late n x = tt

-- what its client is answered
refusal_so : (cat : CatalogueOf) (key : StartKeyOf) (c : StartCause) (t : Taken) → IsUnstarted cat key c → IsStartRefusal c t → IsTaken cat key t
refusal_so cat key (cause.Refused error) (taken.Failed told) u x = subst (λ (e : List ℕ). IsStartError cat key e) (sym x) u
refusal_so cat key cause.Lost (taken.Failed told) u x = absurd x
refusal_so cat key (cause.Unanswerable question) (taken.Failed told) u x = absurd x
refusal_so cat key cause.Unexpected (taken.Failed told) u x = absurd x
refusal_so cat key cause.Memory (taken.Failed told) u x = absurd x
refusal_so cat key cause.Turns (taken.Failed told) u x = absurd x
refusal_so cat key cause.Late (taken.Failed told) u x = absurd x
refusal_so cat key (cause.Refused error) (taken.Link l) u x = absurd x
refusal_so cat key cause.Lost (taken.Link l) u x = absurd x
refusal_so cat key (cause.Unanswerable question) (taken.Link l) u x = absurd x
refusal_so cat key cause.Unexpected (taken.Link l) u x = absurd x
refusal_so cat key cause.Memory (taken.Link l) u x = absurd x
refusal_so cat key cause.Turns (taken.Link l) u x = absurd x
refusal_so cat key cause.Late (taken.Link l) u x = absurd x
refusal_so cat key c (taken.Refused refusal) u x = tt
refusal_so cat key c taken.Waits u x = tt
refusal_so cat key c taken.Strange u x = tt

pub refusal_is_told : {E : Type 0} (cat : CatalogueOf) (key : StartKeyOf) (c : StartCause) (r : Result Taken E) → IsUnstarted cat key c → IfOk r (IsStartRefusal c) → IfOk r (IsTaken cat key)
refusal_is_told cat key c (Ok t) u x = refusal_so cat key c t u x
refusal_is_told cat key c (Err e) u x = tt
