-- Links stay at home.
use Rattle.std.proofs.Common.{◌≡◌, ℕ, sym, ap, ◌∙◌, subst}
use Rattle.session_values.specs.State.{StartKeyOf, address_of}
use Rattle.link_model.specs.Standing.{ClientFacts, Standing}
use Rattle.link_model.specs.Stages as stages
use Rattle.link_run.specs.Links.{LinkView}
use Rattle.link_desk.specs.Homes.{HomeOf, IsAtHome, IsDialled}
use Rattle.link_start.specs.Starts.{IsStarted}
use Rattle.credentials.specs.Credentials.{CredentialOf}
use Rattle.message_view.specs.declared.KeyWord.{KeyWord}
use Rattle.relay_model.specs.Leases.{RelayView, IsLease, place}
use Rattle.relay_core.specs.declared.relay.Returned.{Returned}
use Rattle.relay_core.specs.declared.relay.Returned.TheVariants.{Unused, Used, Gone}
use Rattle.relay_core.specs.Returns.{IsReturned, IsThatLink}
use Rattle.link_desk.specs.declared.calls.Holder.{Holder}
use Rattle.pool_serve.specs.Backs.{HasLease, IsBackHome, IsOwnLease}

-- a link of the same key, whose end has the same server still
pub home_still : (home : HomeOf) (old new : LinkView) → new.stands.follows ≡ old.stands.follows → new.stands.server ≡ old.stands.server → new.key ≡ old.key → IsAtHome home old → IsAtHome home new
home_still home old new f s k h = record {
  follows = λ t. f ∙ h.follows t;
  catalogue = λ t. ap (λ (x : stages.Server). x.catalogue) s ∙ (h.catalogue (sym f ∙ t) ∙ ap (λ (x : StartKeyOf). home.catalogue (address_of x)) (sym k));
  strikable = λ t. ap (λ (x : stages.Server). x.strikable) s ∙ h.strikable (sym f ∙ t);
}

module _ (home : HomeOf) (client : ClientFacts) (link : LinkView) (word : KeyWord) (limit : ℕ) (v : RelayView) (x : IsLease (place client link word limit) v) where
  that_home : (l : LinkView) → IsThatLink v l → IsAtHome home link → IsAtHome home l
  that_home l t h = home_still home link l (ap (λ (s : Standing). s.follows) t.stands ∙ x.moves.follows) (ap (λ (s : Standing). s.server) t.stands ∙ x.moves.server) (t.key ∙ x.same.0) h

  pub back_home : {E : Type 0} (standing : E → Standing) (r : Returned E) → IsReturned standing v r → IsAtHome home link → IsBackHome home r
  back_home standing (Unused l) t h = that_home l t.2 h
  back_home standing (Used l) t h = that_home l t.2 h
  back_home standing (Gone lent cause) t h = tt

  that_own : (h : Holder) (number started_at : ℕ) → number ≡ v.number → started_at ≡ v.started_at → HasLease h link.number link.started_at → HasLease h number started_at
  that_own h number started_at n b y = subst (λ (m : ℕ). HasLease h m started_at) (sym (n ∙ x.same.1)) (subst (λ (m : ℕ). HasLease h link.number m) (sym (b ∙ x.same.2)) y)

  pub back_own : {E : Type 0} (standing : E → Standing) (h : Holder) (r : Returned E) → IsReturned standing v r → HasLease h link.number link.started_at → IsOwnLease h r
  back_own standing h (Unused l) t y = that_own h l.number l.started_at t.2.number t.2.started_at y
  back_own standing h (Used l) t y = that_own h l.number l.started_at t.2.number t.2.started_at y
  back_own standing h (Gone lent cause) t y = that_own h lent.number lent.started_at t.0.number t.0.started_at y

-- ---- a new link

-- a link that was started over an end of its key's server
pub started_home : (home : HomeOf) (began : Standing) (cred : CredentialOf) (key : StartKeyOf) (l : LinkView) → IsDialled home key cred began → IsStarted began cred l → l.key ≡ key → IsAtHome home l
started_home home began cred key l d st k =
    let m = st.under_way.starting.moves in
    record {
      follows = λ t. m.follows ∙ d.follows t;
      catalogue = λ t. ap (λ (x : stages.Server). x.catalogue) m.server ∙ (d.catalogue (sym m.follows ∙ t) ∙ ap (λ (x : StartKeyOf). home.catalogue (address_of x)) (sym k));
      strikable = λ t. ap (λ (x : stages.Server). x.strikable) m.server ∙ d.strikable (sym m.follows ∙ t);
    }
