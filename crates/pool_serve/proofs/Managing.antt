-- A client of the console.
use Rattle.std.proofs.Common.{◌≡◌, ◌⊎◌, ℕ, true, List, [], ◌++◌, inl, inr, refl, sym, ap, ◌∙◌, subst, arith, append-nil, take, take_all, length, Option}
use Rattle.std.proofs.lemmas.Grind.{flat_map-append}
use Rattle.message_view.specs.Bodies.{Text}
use Rattle.message_view.specs.declared.KeyWord.{KeyWord}
use Rattle.message_view.specs.declared.refusal.Refusal.{Refusal}
use Rattle.message_view.specs.Refusals.{joined_pieces}
use Rattle.ini_config.specs.declared.option_values.Settings.{Settings}
use Rattle.link_model.specs.Standing.{ClientFacts}
use Rattle.login_core.specs.Talk.End.{Passed as PassedWith}
use Rattle.login_core.proofs.Pieces.{joined_if_any}
use Rattle.login_core.specs.Dialogue.{Rows, ToConsole, login_among}
use Rattle.login_core.specs.Logins.{LoginView, authenticated_bytes, rows_of}
use Rattle.login_run.specs.declared.login_reply.LoginReply.{LoginReply}
use Rattle.login_run.specs.declared.login_reply.LoginReply.TheVariants as said
use Rattle.login_run.specs.Runs.{Awaits, Console, IsAllGiven, IsPiece, IsRun, IsSameLogin, PhaseOf, RunView, StandsAt, said_bytes, said_pieces}
use Rattle.link_desk.specs.declared.calls.Holder.{Holder}
use Rattle.link_desk.specs.Passes.{PassOf}
use Rattle.console_run.specs.Exchanges.{asker}
use Rattle.console_run.specs.Passing.{Manages, Pass, pass_of}
use Rattle.console_run.specs.Talks.{IsServed as IsServedAtConsole}
use Rattle.link_desk.specs.Homes.{HomeOf}
use Rattle.pool_serve.specs.declared.ending.Ending.{Ending}
use Rattle.pool_serve.specs.declared.ending.Ending.TheVariants as ending
use Rattle.pool_serve.specs.declared.logged_in.LoggedIn.{LoggedIn}
use Rattle.pool_serve.specs.Causes.{AtArrival}
use Rattle.pool_serve.specs.Endings.{Came, Traces}
use Rattle.pool_serve.specs.Serving.{IsManaged, IsServed}
use Rattle.pool_serve.specs.Shares.{Evens}
use Rattle.pool_serve.specs.Stays.{CameIn, IfManaged, IsAllowed, IsAtConsole, IsStay, MayHaveAskedAgain, ServesAs, StayedAtConsole}
use Rattle.pool_serve.specs.FinalMessages.{HasGiven, final_message_of, last_bytes}
use Rattle.pool_serve.proofs.Causing.{word_traces}
use Rattle.pool_serve.proofs.Logging.{same_rows, same_served}
use Rattle.pool_serve.proofs.Telling.{told_client}

-- ---- the same login

pub same_managed : (old new : RunView) (p q : Pass) (after : ClientFacts) (last : Option Refusal) → IsSameLogin old new → IsManaged new.login p q after last → IsManaged old.login p q after last
same_managed old new p q after last s x = record {
  before = x.before;
  heard = x.heard;
  pieces = x.pieces;
  login = subst (λ (k : KeyWord). login_among (rows_of old.login) k x.heard ≡ record { pieces = x.pieces; ended = PassedWith ToConsole [] }) s.word
      (subst (λ (rows : Rows). login_among rows new.login.word x.heard ≡ record { pieces = x.pieces; ended = PassedWith ToConsole [] }) (same_rows old new s) x.login);
  tells = x.tells;
  taken = x.taken;
  given = x.given;
  user = x.user;
  talks = subst (λ (k : KeyWord). IsServedAtConsole (asker old.login.settings x.user) k x.before after p q last) s.word (subst (λ (t : Settings). IsServedAtConsole (asker t x.user) new.login.word x.before after p q last) s.settings x.talks);
}

pub same_if_managed : (old new : RunView) (p q : Pass) (after : ClientFacts) (e : Ending) → IsSameLogin old new → IfManaged e (IsManaged new.login p q after) → IfManaged e (IsManaged old.login p q after)
same_if_managed old new p q after (ending.Managed last) s x = same_managed old new p q after last s x
same_if_managed old new p q after ending.Left s x = tt
same_if_managed old new p q after (ending.Refused r) s x = tt
same_if_managed old new p q after ending.Memory s x = tt
same_if_managed old new p q after ending.Strange s x = tt
same_if_managed old new p q after ending.Last s x = tt
same_if_managed old new p q after ending.Unreached s x = tt
same_if_managed old new p q after (ending.Unstarted cause) s x = tt
same_if_managed old new p q after (ending.Relayed r) s x = tt

-- ---- between an arrival and a leaving

pub stayed : (v : LoginView) (p q m n : Pass) (after : ClientFacts) (e : Ending) → IsStay p q m n → IfManaged e (IsManaged v m n after) → IfManaged e (StayedAtConsole v p q after)
stayed v p q m n after (ending.Managed last) s x = record { here = m; leaves = n; stay = s; managed = x }
stayed v p q m n after ending.Left s x = tt
stayed v p q m n after (ending.Refused r) s x = tt
stayed v p q m n after ending.Memory s x = tt
stayed v p q m n after ending.Strange s x = tt
stayed v p q m n after ending.Last s x = tt
stayed v p q m n after ending.Unreached s x = tt
stayed v p q m n after (ending.Unstarted cause) s x = tt
stayed v p q m n after (ending.Relayed r) s x = tt

same_stayed : (old new : RunView) (p q : Pass) (after : ClientFacts) (e : Ending) → IsSameLogin old new → IfManaged e (StayedAtConsole new.login p q after) → IfManaged e (StayedAtConsole old.login p q after)
same_stayed old new p q after (ending.Managed last) s x = record { here = x.here; leaves = x.leaves; stay = x.stay; managed = same_managed old new x.here x.leaves after last s x.managed }
same_stayed old new p q after ending.Left s x = tt
same_stayed old new p q after (ending.Refused r) s x = tt
same_stayed old new p q after ending.Memory s x = tt
same_stayed old new p q after ending.Strange s x = tt
same_stayed old new p q after ending.Last s x = tt
same_stayed old new p q after ending.Unreached s x = tt
same_stayed old new p q after (ending.Unstarted cause) s x = tt
same_stayed old new p q after (ending.Relayed r) s x = tt

-- the same of the login that it began with
pub stayed_first : (v : LoginView) (old new : RunView) (p q : Pass) (after : ClientFacts) (e : Ending) → old.login ≡ v → IsSameLogin old new → IfManaged e (StayedAtConsole new.login p q after) → IfManaged e (StayedAtConsole v p q after)
stayed_first v old new p q after e is s x = subst (λ (w : LoginView). IfManaged e (StayedAtConsole w p q after)) is (same_stayed old new p q after e s x)

-- a client that asked for a link is none of the console's
pub unmanaged : (home : HomeOf) (g : LoggedIn) (before after : ClientFacts) (e : Ending) (holds : Option Refusal → Type 0) → Came home g before after e → IfManaged e holds
unmanaged home g before after (ending.Managed r) holds x = absurd x
unmanaged home g before after ending.Left holds x = tt
unmanaged home g before after (ending.Refused r) holds x = tt
unmanaged home g before after ending.Memory holds x = tt
unmanaged home g before after ending.Strange holds x = tt
unmanaged home g before after ending.Last holds x = tt
unmanaged home g before after ending.Unreached holds x = tt
unmanaged home g before after (ending.Unstarted cause) holds x = tt
unmanaged home g before after (ending.Relayed r) holds x = tt

-- ---- its pass

pub manages_evens : (p q : PassOf) → Manages p q → Evens p q
manages_evens p q m = record { stay = record { arrived = m.arrived; left = m.left }; leases = λ e. (m.unbroken e, omega (arith, m.granted, m.given_back, m.lost)) }

-- ---- its login

said_joined : (s : LoginReply) → IsPiece s → joined_pieces (said_pieces s) ≡ said_bytes s
said_joined said.Nothing p = refl
said_joined (said.Question q) p = append-nil _
said_joined (said.LetIn told) p = append-nil _
said_joined (said.Proof told) p = joined_if_any (authenticated_bytes told)
said_joined (said.Failure f) p = append-nil _
said_joined (said.Refusal r) p = absurd p

pieces_joined : (done : List (List ℕ)) (s : LoginReply) (sent : ℕ) → IsPiece s → sent ≡ length (said_bytes s) → joined_pieces done ++ take sent (said_bytes s) ≡ joined_pieces (done ++ said_pieces s)
pieces_joined done s sent p e =
    ap (λ (l : List ℕ). joined_pieces done ++ l) (ap (λ (n : ℕ). take n (said_bytes s)) e ∙ (take_all (length (said_bytes s)) (said_bytes s) (omega arith) ∙ sym (said_joined s p)))
    ∙ sym (flat_map-append (λ (b : List ℕ). b) done (said_pieces s))

pub managed : (v : RunView) (before after : ClientFacts) (s : Settings) (user : Text) (word : KeyWord) (p q : Pass) (last : Option Refusal) → IsRun v → v.phase ≡ Console → IsAllGiven v → before ≡ v.client → after.tells ≡ before.tells → s ≡ v.login.settings → v.login.word ≡ word →
    IsServedAtConsole (asker s user) word before after p q last → IsManaged v.login p q after last
managed v before after s user word p q last x e n b t f w h =
    let ended = subst (λ (z : PhaseOf). StandsAt z v.said v.login x.2.heard (x.2.done ++ said_pieces v.said)) e x.2.stands in
    let piece : IsPiece v.said = subst (λ (z : PhaseOf). Awaits z v.said v.login) e x.1 in
    record {
      before = before;
      heard = x.2.heard;
      pieces = x.2.done ++ said_pieces v.said;
      login = ap (λ (l : List ℕ). login_among (rows_of v.login) v.login.word l) (sym (append-nil x.2.heard)) ∙ ended [];
      tells = t;
      taken = λ told. ap (λ (c : ClientFacts). c.taken) b ∙ x.2.taken (sym (ap (λ (c : ClientFacts). c.tells) b) ∙ told);
      given = λ told. ap (λ (c : ClientFacts). c.given) b ∙ (x.2.given (sym (ap (λ (c : ClientFacts). c.tells) b) ∙ told) ∙ pieces_joined x.2.done v.said v.sent piece n);
      user = user;
      talks = subst (λ (k : KeyWord). IsServedAtConsole (asker v.login.settings user) k before after p q last) (sym w) (subst (λ (z : Settings). IsServedAtConsole (asker z user) word before after p q last) f h);
    }

-- ---- by how its time ended

pub same_serves : (home : HomeOf) (old new : RunView) (c : ClientFacts) (e : Ending) → IsSameLogin old new → ServesAs home new.login c e → ServesAs home old.login c e
same_serves home old new c ending.Left s h = same_served home old new c (final_message_of ending.Left) s h
same_serves home old new c (ending.Refused r) s h = same_served home old new c (final_message_of (ending.Refused r)) s h
same_serves home old new c ending.Memory s h = same_served home old new c (final_message_of ending.Memory) s h
same_serves home old new c ending.Strange s h = same_served home old new c (final_message_of ending.Strange) s h
same_serves home old new c ending.Last s h = same_served home old new c (final_message_of ending.Last) s h
same_serves home old new c ending.Unreached s h = same_served home old new c (final_message_of ending.Unreached) s h
same_serves home old new c (ending.Unstarted cause) s h = same_served home old new c (final_message_of (ending.Unstarted cause)) s h
same_serves home old new c (ending.Relayed r) s h = same_served home old new c (final_message_of (ending.Relayed r)) s h
same_serves home old new c (ending.Managed r) s h = h

-- a client that asked for a link
pub logged_in_serves : (home : HomeOf) (v : LoginView) (g : LoggedIn) (before c : ClientFacts) (e : Ending) → Came home g before c e → IsServed home v c (final_message_of e) → ServesAs home v c e
logged_in_serves home v g before c ending.Left x h = h
logged_in_serves home v g before c (ending.Refused r) x h = h
logged_in_serves home v g before c ending.Memory x h = h
logged_in_serves home v g before c ending.Strange x h = h
logged_in_serves home v g before c ending.Last x h = h
logged_in_serves home v g before c ending.Unreached x h = h
logged_in_serves home v g before c (ending.Unstarted cause) x h = h
logged_in_serves home v g before c (ending.Relayed r) x h = h
logged_in_serves home v g before c (ending.Managed r) x h = absurd x

-- a client that was told its last word
module _ (home : HomeOf) (v : LoginView) (before after : ClientFacts) (p q since : PassOf) (h k : Holder) (again : MayHaveAskedAgain home v p since) where
  pub told_as : (e : Ending) → HasGiven before after (last_bytes (final_message_of e)) → before.tells ≡ true → CameIn home v before e → IfManaged e (StayedAtConsole v (pass_of p h) (pass_of q k) before) → Traces AtArrival since q e → ServesAs home v before e →
      IsAllowed home v p q after ⊎ IsAtConsole v (pass_of p h) (pass_of q k) after
  told_as ending.Left g t c m x s = inl (told_client home v before after p q since (final_message_of ending.Left) again g t (word_traces since q home v before ending.Left tt c x) s)
  told_as (ending.Refused r) g t c m x s = inl (told_client home v before after p q since (final_message_of (ending.Refused r)) again g t (word_traces since q home v before (ending.Refused r) tt c x) s)
  told_as ending.Memory g t c m x s = inl (told_client home v before after p q since (final_message_of ending.Memory) again g t (word_traces since q home v before ending.Memory tt c x) s)
  told_as ending.Strange g t c m x s = inl (told_client home v before after p q since (final_message_of ending.Strange) again g t (word_traces since q home v before ending.Strange tt c x) s)
  told_as ending.Last g t c m x s = inl (told_client home v before after p q since (final_message_of ending.Last) again g t (word_traces since q home v before ending.Last tt c x) s)
  told_as ending.Unreached g t c m x s = inl (told_client home v before after p q since (final_message_of ending.Unreached) again g t (word_traces since q home v before ending.Unreached tt c x) s)
  told_as (ending.Unstarted cause) g t c m x s = inl (told_client home v before after p q since (final_message_of (ending.Unstarted cause)) again g t (word_traces since q home v before (ending.Unstarted cause) tt c x) s)
  told_as (ending.Relayed r) g t c m x s = inl (told_client home v before after p q since (final_message_of (ending.Relayed r)) again g t (word_traces since q home v before (ending.Relayed r) tt c x) s)
  told_as (ending.Managed r) g t c m x s = inr (record { last = r; before = before; managed = m; told = g })
