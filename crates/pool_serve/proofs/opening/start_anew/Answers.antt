use Rattle.std.proofs.Common.{Option, refl, sym, ap, ap₂, ◌∙◌, subst}
use Rattle.std.specs.Prelude.{option_map}
use Rattle.std.specs.Arc.{arc_value}
use Rattle.session_values.specs.State.{StartKeyOf, address_of}
use Rattle.link_model.specs.Standing.{Standing}
use Rattle.user_file.specs.declared.secrets.Secret.{Secret}
use Rattle.ini_config.specs.Tables.{row_for}
use Rattle.credentials.specs.Credentials.{CredentialOf, Text, credential_of, start_nonce}
use Rattle.link_desk.specs.Homes.{IsDialled}
use Rattle.link_start.specs.Starts.{HasTried, IsStartCause}
use Rattle.time_limits.specs.declared.TheConstants.{LINK_TURNS}
use Rattle.pool_serve.specs.LinkSecrets.{secret_in}
use Rattle.pool_serve.proofs.Homing.{started_home}
use Rattle.pool_serve.proofs.Logging.{its_user}
use Rattle.pool_serve.proofs.Owing.{unstarted}
use Rattle.pool_serve.proofs.opening.start_anew.Goals as goal

pub returns-in-Ok-clause-home : goal.returns-in-Ok-clause-home
returns-in-Ok-clause-home g c =
    started_home g.D.LinkDesk.home (g.D.End.ServerEnd.standing c.watch.new.end) c.new-credential.result (arc_value c.args.logged_in.now.key) c.in-Ok.link
    (subst (λ (k : StartKeyOf). IsDialled g.D.LinkDesk.home k c.new-credential.result (g.D.End.ServerEnd.standing c.watch.new.end)) c.deref.ensures (subst (λ (s : Standing). IsDialled g.D.LinkDesk.home c.deref.result.now c.new-credential.result s) (sym c.watch.ensures.stands) c.in-Some-dial.ensures))
    c.in-Ok.ensures.started
    (c.in-Ok.ensures.key ∙ c.in_ok-key.ensures)

pub returns-clause-told : goal.returns-clause-told
returns-clause-told g c = λ lets.
    let end = c.watch.new.end in
    let dialled = subst (λ (k : StartKeyOf). IsDialled g.D.LinkDesk.home k c.new-credential.result (g.D.End.ServerEnd.standing c.watch.new.end)) c.deref.ensures (subst (λ (s : Standing). IsDialled g.D.LinkDesk.home c.deref.result.now c.new-credential.result s) (sym c.watch.ensures.stands) c.in-Some-dial.ensures) in
    let key = arc_value c.args.logged_in.now.key in
    let told = c.args.logged_in.now.login in
    let same = c.new-credential.ensures ∙ ap₂ (λ (s : Secret) (r : Option Text). credential_of s r (start_nonce c.args.logged_in.now.word c.args.number)) c.get.ensures c.revealed-revealed.ensures in
    unstarted (g.D.LinkDesk.home.catalogue (address_of key)) (g.D.End.ServerEnd.standing end) (g.D.End.ServerEnd.standing c.in-Err.fault.end) c.new-credential.result key c.args.logged_in.now.word c.in-Err.fault.cause _ refl
    (dialled.catalogue (dialled.follows lets.follow))
    (dialled.follows lets.follow)
    (dialled.lets_in (ap (g.D.LinkDesk.home.lets_in key.user) same ∙ lets.accept key (secret_in c.in-Some.secret) _ _ (its_user (row_for key.row told.settings.rows) key c.requires.logged_in.row) (sym c.in_ok-secret.ensures ∙ ap (option_map secret_in) c.in-Some.is) c.requires.logged_in.revealed))
    (subst (λ (k : StartKeyOf). IsStartCause (g.D.End.ServerEnd.standing end) (g.D.End.ServerEnd.standing c.in-Err.fault.end) c.new-credential.result k c.in-Err.fault.cause) c.in_ok-key.ensures c.in-Err.ensures.cause)

pub returns-clause-why : goal.returns-clause-why
returns-clause-why g c =
    let end = c.watch.new.end in
    let same = c.new-credential.ensures ∙ ap₂ (λ (s : Secret) (r : Option Text). credential_of s r (start_nonce c.args.logged_in.now.word c.args.number)) c.get.ensures c.revealed-revealed.ensures in
    record {
      secret = secret_in c.in-Some.secret;
      secret_is = ap (option_map secret_in) (sym c.in-Some.is) ∙ c.in_ok-secret.ensures;
      began = g.D.End.ServerEnd.standing end;
      now = g.D.End.ServerEnd.standing c.in-Err.fault.end;
      dialled = subst (λ (cred : CredentialOf). IsDialled g.D.LinkDesk.home (arc_value c.args.logged_in.now.key) cred (g.D.End.ServerEnd.standing end)) same
          (subst (λ (k : StartKeyOf). IsDialled g.D.LinkDesk.home k c.new-credential.result (g.D.End.ServerEnd.standing c.watch.new.end)) c.deref.ensures (subst (λ (s : Standing). IsDialled g.D.LinkDesk.home c.deref.result.now c.new-credential.result s) (sym c.watch.ensures.stands) c.in-Some-dial.ensures));
      number = c.args.number;
      is_cause = subst (λ (cred : CredentialOf). IsStartCause (g.D.End.ServerEnd.standing end) (g.D.End.ServerEnd.standing c.in-Err.fault.end) cred (arc_value c.args.logged_in.now.key) c.in-Err.fault.cause) same
          (subst (λ (k : StartKeyOf). IsStartCause (g.D.End.ServerEnd.standing end) (g.D.End.ServerEnd.standing c.in-Err.fault.end) c.new-credential.result k c.in-Err.fault.cause) c.in_ok-key.ensures c.in-Err.ensures.cause);
      tried = λ e. subst (λ (cred : CredentialOf). HasTried (g.D.End.ServerEnd.standing end) cred (arc_value c.args.logged_in.now.key) (g.D.End.ServerEnd.standing c.in-Err.fault.end) LINK_TURNS) same
          (subst (λ (k : StartKeyOf). HasTried (g.D.End.ServerEnd.standing end) c.new-credential.result k (g.D.End.ServerEnd.standing c.in-Err.fault.end) LINK_TURNS) c.in_ok-key.ensures (c.in-Err.ensures.turns e));
      unanswered = λ e. subst (λ (cred : CredentialOf). HasTried (g.D.End.ServerEnd.standing end) cred (arc_value c.args.logged_in.now.key) (g.D.End.ServerEnd.standing c.in-Err.fault.end) 0) same
          (subst (λ (k : StartKeyOf). HasTried (g.D.End.ServerEnd.standing end) c.new-credential.result k (g.D.End.ServerEnd.standing c.in-Err.fault.end) 0) c.in_ok-key.ensures (c.in-Err.ensures.unanswered e));
    }
