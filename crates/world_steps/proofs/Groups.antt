-- The groups of steps that leave the book's lists and the links' roles alone keep the relation.
use Rattle.std.proofs.Common.{◌≡◌, ℕ, Bool, true, false, List, [], ◌∷◌, ◌++◌, ◌⊎◌, inl, inr, ⊎_elim, refl, sym, ap, ◌∙◌, subst, Option, Some, None}
use Rattle.std.specs.Prelude.{◌&&◌}
use Rattle.std.specs.List.{AllByRecursion}
use Rattle.std.proofs.lemmas.Bool.{false≢true}
use Rattle.std.proofs.lemmas.Option.{none-some}
use Rattle.frame_view.specs.Frames.{FrameOf}
use Rattle.message_view.specs.declared.KeyWord.{KeyWord}
use Rattle.message_view.specs.declared.views.KeyView.{KeyView}
use Rattle.message_view.specs.Refusals.{refusal}
use Rattle.session_values.specs.State.{CatalogueOf, StartKeyOf, address_of}
use Rattle.session_values.specs.Step.{may_be_struck}
use Rattle.login_core.specs.Talk.End.{Stopped}
use Rattle.login_core.specs.Dialogue.{Cancelling, LoginRow, login}
use Rattle.world_steps.specs.Clients.{Client, HasCome, IsUnstruck, key_of, newcomer}
use Rattle.world_steps.specs.Clients.Phase.{Absent, LoggingIn, Waiting, Starting, Served, Finishing, Refusing, Closed}
use Rattle.world_steps.specs.Links.{Link, is_due, is_some, left_due}
use Rattle.world_steps.specs.Laws.{ByteStepsKeep, ClientStepsKeep, EndStepsKeep}
use Rattle.world_steps.specs.Relation.{IsOnItsWay, Related, StrikeFits}
use Rattle.world_steps.specs.Steps.{answers}
use Rattle.world_steps.specs.Steps.ClientStep.{of_client}
use Rattle.world_steps.specs.Steps.ClientMove.{comes, sends, reads, passes}
use Rattle.world_steps.specs.Steps.ByteStep.{by_client, by_lease, by_link, server_answers, server_answers_client, strike_arrives}
use Rattle.world_steps.specs.Steps.ClientBytes.{from_client, to_client}
use Rattle.world_steps.specs.Steps.LeaseBytes.{to_link, from_link}
use Rattle.world_steps.specs.Steps.LinkBytes.{to_reset, from_reset, server_dies, strike_passes}
use Rattle.world_steps.specs.Steps.EndStep.{of_end}
use Rattle.world_steps.specs.Steps.EndMove.{refuses, refusal_to_client, finishes, closes}
use Rattle.world_steps.specs.Worlds.{HasAsked, World, with_link, with_strikes}
use Rattle.world_steps.proofs.Cancels.{ClientStays, LinkStays, at_middle, client_keeps, goes_there, link_keeps, pair_keeps, pair_marked, same_asked, same_fit, strike_comes, strikes_change}
use Rattle.world_steps.proofs.Cancels.RoleGoes.{stays}
use Rattle.world_steps.proofs.Changes.{begins_refusal, dies, due_for, forwarded, has_passed, has_read, holds_more, in_phase, link_gets, link_gives, noted, refused_more, sends_bytes, spared, took_in, took_out}
use Rattle.world_steps.proofs.Logins.{login_stopped}
use Rattle.world_steps.proofs.Runs.{still_unstruck}
use Rattle.world_steps.proofs.Steps.{fits_at, step_closes, step_comes, step_finishes, step_from_client, step_from_link, step_from_reset, step_passes, step_reads_login, step_refusal_to_client, step_refuses, step_sends, step_server_answers, step_server_answers_client, step_server_dies, step_strike_arrives, step_strike_passes, step_strikes, step_to_client, step_to_link, step_to_reset}

-- ---- how clients go on

-- to a phase in which it waits for no link's start, with the same login and the same marks
pub goes_to : (x z : Client) → HasCome z.phase → ((own : StartKeyOf) (n : ℕ) → z.phase ≡ Starting own n → ⊥) → key_of z ≡ key_of x → z.struck ≡ x.struck →
    ((key : KeyView) → (login x.row x.word x.sent).ended ≡ Stopped (Cancelling key) → (login z.row z.word z.sent).ended ≡ Stopped (Cancelling key)) → ClientStays x z
goes_to x z came never word struck asked = record { goes = record { keeps = record { came = λ h. came; word = λ h. word; asked = λ key h e. asked key e }; marks = inr (struck, word) }; starting = λ own n e. absurd (never own n e) }

not_logging : (read : List ℕ) (own : StartKeyOf) (n : ℕ) → LoggingIn read ≡ Starting own n → ⊥
not_logging read own n e = cc

not_waiting : (key own : StartKeyOf) (n : ℕ) → Waiting key ≡ Starting own n → ⊥
not_waiting key own n e = cc

not_finishing : (own : StartKeyOf) (n : ℕ) → Finishing ≡ Starting own n → ⊥
not_finishing own n e = cc

not_refusing : (left : List ℕ) (own : StartKeyOf) (n : ℕ) → Refusing left ≡ Starting own n → ⊥
not_refusing left own n e = cc

not_closed : (own : StartKeyOf) (n : ℕ) → Closed ≡ Starting own n → ⊥
not_closed own n e = cc

-- what it comes as has no mark
new_stays : (x : Client) (row : LoginRow) (word : KeyWord) → x.phase ≡ Absent → ClientStays x (newcomer row word)
new_stays x row word e = record {
  goes = record { keeps = record { came = λ h. tt; word = λ h. absurd (subst HasCome e h); asked = λ key h q. absurd (subst HasCome e h) }; marks = inl refl };
  starting = λ own n q. absurd (not_logging [] own n q);
}

sends_stays : (x : Client) (bytes : List ℕ) → ClientStays x (sends_bytes x bytes)
sends_stays x bytes = record {
  goes = record { keeps = record { came = λ h. h; word = λ h. refl; asked = λ key h e. ap (λ (d : _). d.ended) (login_stopped x.row x.word x.sent bytes (Cancelling key) e) ∙ e }; marks = inr (refl, refl) };
  starting = λ own n e. e;
}

pub clients_keep : ClientStepsKeep
clients_keep w _ (of_client c (comes row word e lawful)) r =
    record { facts = step_comes w c row word r.facts e lawful; cancels = client_keeps w r.cancels c (newcomer row word) (new_stays (w.clients c) row word e) }
clients_keep w _ (of_client c (sends bytes are)) r = record { facts = step_sends w c bytes r.facts; cancels = client_keeps w r.cancels c (sends_bytes (w.clients c) bytes) (sends_stays (w.clients c) bytes) }
clients_keep w _ (of_client c (reads read more rest pieces e u p)) r =
    let x = has_read (w.clients c) (read ++ more) rest pieces in
    record { facts = step_reads_login w c read more rest pieces r.facts e u p; cancels = client_keeps w r.cancels c x (goes_to (w.clients c) x tt (not_logging (read ++ more)) refl refl (λ k q. q)) }
clients_keep w _ (of_client c (passes read left key e p)) r =
    let x = has_passed (w.clients c) key left in
    record { facts = step_passes w c read left key r.facts e p; cancels = client_keeps w r.cancels c x (goes_to (w.clients c) x tt (not_waiting key) refl refl (λ k q. q)) }

pub ends_keep : EndStepsKeep
ends_keep w _ (of_end c (refuses cause m b)) r =
    let x = begins_refusal (w.clients c) (refusal cause) in
    record { facts = step_refuses w c cause r.facts m b; cancels = client_keeps w r.cancels c x (goes_to (w.clients c) x tt (not_refusing (refusal cause)) refl refl (λ k q. q)) }
ends_keep w _ (of_end c (refusal_to_client bytes rest e)) r =
    let x = refused_more (w.clients c) bytes rest in
    record { facts = step_refusal_to_client w c bytes rest r.facts e; cancels = client_keeps w r.cancels c x (goes_to (w.clients c) x tt (not_refusing rest) refl refl (λ k q. q)) }
ends_keep w _ (of_end c (finishes read e)) r =
    let x = in_phase (w.clients c) Finishing in
    record { facts = step_finishes w c read r.facts e; cancels = client_keeps w r.cancels c x (goes_to (w.clients c) x tt not_finishing refl refl (λ k q. q)) }
ends_keep w _ (of_end c closes) r =
    let x = in_phase (w.clients c) Closed in
    record { facts = step_closes w c r.facts; cancels = client_keeps w r.cancels c x (goes_to (w.clients c) x tt not_closed refl refl (λ k q. q)) }

-- ---- moves of bytes

-- with the phase, login and marks that it had
pub in_place : (x z : Client) → z.phase ≡ x.phase → key_of z ≡ key_of x → z.struck ≡ x.struck → ((key : KeyView) → (login x.row x.word x.sent).ended ≡ Stopped (Cancelling key) → (login z.row z.word z.sent).ended ≡ Stopped (Cancelling key)) → ClientStays x z
in_place x z phase word struck asked = record { goes = record { keeps = record { came = λ h. subst HasCome (sym phase) h; word = λ h. word; asked = λ key h e. asked key e }; marks = inr (struck, word) }; starting = λ own n e. sym phase ∙ e }

-- a frame that a server took leaves a cancel that was there, or none
was_due : (struck : Bool) (due : Option KeyView) (client : KeyView) → left_due struck due ≡ Some client → due ≡ Some client
was_due true due client e = absurd (none-some client e)
was_due false due client e = e

answers_stay : (cat : CatalogueOf) (y : Link) (f : FrameOf) (rest : List ℕ) → LinkStays y (answers cat y f rest)
answers_stay cat y f rest = record { keeps = record { key = refl; server_key = refl; role = stays }; due = was_due (is_due y f) y.due; lent = λ h. h }

-- a frame is struck by a cancel that came
struck_by : (due : Option KeyView) (b : Bool) → (is_some due && b) ≡ true → (client : KeyView) × (due ≡ Some client)
struck_by None b e = absurd (false≢true e)
struck_by (Some client) b e = (client, refl)

-- so it was asked for the client that is served there
marked_by : (w : World) (c l : ℕ) (f : FrameOf) → Related w → (w.clients c).phase ≡ Served l → (mark : Bool) → is_due (w.links l) f ≡ mark →
    IsUnstruck (w.clients c).struck ⊎ HasAsked w (key_of (w.clients c)) → IsUnstruck ((w.clients c).struck ++ mark ∷ []) ⊎ HasAsked w (key_of (w.clients c))
marked_by w c l f r e false is h = ⊎_elim (λ none. inl (still_unstruck (w.clients c).struck false none refl)) (λ a. inr a) h
marked_by w c l f r e true is h =
    let d = struck_by (w.links l).due (may_be_struck (w.links l).session f) is in
    let p = r.cancels.due l d.0 d.1 in
    let lent = fits_at c (Served l) r.facts e in
    inr (subst (HasAsked w) (sym (subst (StrikeFits w l d.0) lent.1 p.0).0.key_is) p.1)

pub bytes_keep : ByteStepsKeep
bytes_keep w _ (by_client c (from_client l bytes rest e u)) r =
    let x = took_in (w.clients c) bytes rest in
    record { facts = step_from_client w c l bytes rest r.facts e u; cancels = client_keeps w r.cancels c x (in_place (w.clients c) x refl refl refl (λ k q. q)) }
bytes_keep w _ (by_client c (to_client bytes rest m u)) r =
    let x = took_out (w.clients c) bytes rest in
    record { facts = step_to_client w c bytes rest r.facts m u; cancels = client_keeps w r.cancels c x (in_place (w.clients c) x refl refl refl (λ k q. q)) }
bytes_keep w _ (by_lease c l e (to_link bytes rest u)) r =
    let x = forwarded (w.clients c) rest in
    record { facts = step_to_link w c l bytes rest r.facts e u; cancels = pair_keeps w r.cancels c x l (link_gets (w.links l) bytes) (in_place (w.clients c) x refl refl refl (λ k q. q)) (record { keeps = record { key = refl; server_key = refl; role = stays }; due = λ k q. q; lent = λ h. h }) }
bytes_keep w _ (by_lease c l e (from_link bytes rest u)) r =
    let x = holds_more (w.clients c) bytes in
    record { facts = step_from_link w c l bytes rest r.facts e u; cancels = pair_keeps w r.cancels c x l (link_gives (w.links l) bytes rest) (in_place (w.clients c) x refl refl refl (λ k q. q)) (record { keeps = record { key = refl; server_key = refl; role = stays }; due = λ k q. q; lent = λ h. h }) }
bytes_keep w _ (by_link l (to_reset bytes rest e p)) r =
    record { facts = step_to_reset w l bytes r.facts e; cancels = link_keeps w r.cancels l (link_gets (w.links l) bytes) (record { keeps = record { key = refl; server_key = refl; role = stays }; due = λ k q. q; lent = λ h. h }) }
bytes_keep w _ (by_link l (from_reset bytes rest e p)) r =
    record { facts = step_from_reset w l bytes rest r.facts e p; cancels = link_keeps w r.cancels l (link_gives (w.links l) bytes rest) (record { keeps = record { key = refl; server_key = refl; role = stays }; due = λ k q. q; lent = λ h. h }) }
bytes_keep w _ (by_link l (server_dies kept lost e)) r =
    record { facts = step_server_dies w l kept lost r.facts e; cancels = link_keeps w r.cancels l (dies (w.links l) kept) (record { keeps = record { key = refl; server_key = refl; role = stays }; due = λ k q. q; lent = λ h. h }) }
bytes_keep w _ (by_link l strike_passes) r =
    record { facts = step_strike_passes w l r.facts; cancels = link_keeps w r.cancels l (spared (w.links l)) (record { keeps = record { key = refl; server_key = refl; role = stays }; due = λ k q. absurd (none-some k q); lent = λ h. h }) }
bytes_keep w _ (server_answers l f rest unserved h) r =
    let y = answers (w.catalogue (address_of (w.links l).key)) (w.links l) f rest in
    record { facts = step_server_answers w l f rest r.facts unserved h; cancels = link_keeps w r.cancels l y (answers_stay (w.catalogue (address_of (w.links l).key)) (w.links l) f rest) }
bytes_keep w _ (server_answers_client c l f rest e h) r =
    let y = answers (w.catalogue (address_of (w.links l).key)) (w.links l) f rest in
    record {
      facts = step_server_answers_client w c l f rest r.facts e h;
      cancels = pair_marked w r.cancels c (noted (w.clients c) (is_due (w.links l) f)) l y (record { came = λ h. h; word = λ h. refl; asked = λ k h q. q }) (λ own n q. q)
          (answers_stay (w.catalogue (address_of (w.links l).key)) (w.links l) f rest) (marked_by w c l f r e (is_due (w.links l) f) refl);
    }
bytes_keep w _ (strike_arrives l before later s e h) r =
    let g = at_middle (IsOnItsWay w) before later s (subst (AllByRecursion (IsOnItsWay w)) e r.cancels.strikes) in
    let fit : StrikeFits w l s.client (w.links l).role = goes_there w l s r.cancels g.0 h in
    record {
      facts = step_strikes (with_link w l (due_for (w.links l) s.client)) (before ++ later) (step_strike_arrives w l s.client r.facts fit);
      cancels = strike_comes (with_strikes w (before ++ later)) l s.client (strikes_change w (before ++ later) r.cancels g.1) (same_fit w (before ++ later) l s.client (w.links l).role fit) (same_asked w (before ++ later) s.client g.0.asked);
    }
