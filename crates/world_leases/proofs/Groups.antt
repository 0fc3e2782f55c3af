-- The groups of steps that change the book's lists or the links' roles keep the relation.
use Rattle.std.proofs.Common.{◌≡◌, ℕ, ◌≤◌, [], ◌∷◌, ◌++◌, refl, sym, ◌∙◌, subst, le_refl, Option, Some, None}
use Rattle.message_view.specs.declared.views.KeyView.{KeyView}
use Rattle.session_values.specs.State.{StartKeyOf}
use Rattle.session_values.specs.Errors.{fatal}
use Rattle.frame_view.specs.Frames.{spelling}
use Rattle.session_laws.specs.Starts.{StartErrorIsFrame}
use Rattle.book_model.specs.Book.{Book}
use Rattle.book_model.specs.Laws.{PlainEventsAddNothing, ArrivalsNumber, AsksQueue, TakesLend, TakesStart, TakesEvict, ReturnsAdd, ReturnsClose, TicksClose, HangUpsClose, KeyedKeys, CancelsStrike, ResetsRelease, LendsNothing, Starts}
use Rattle.book_model.specs.Outcomes.{Answer, apply, apply_return}
use Rattle.book_model.specs.Outcomes.Event.{Arrive, Ask, Cancel, EndLease, HungUp, Keyed, Take, Tick}
use Rattle.book_model.specs.declared.events.Reply.{Reply}
use Rattle.world_steps.specs.Clients.{key_of}
use Rattle.world_steps.specs.Clients.Phase.{Starting, Served, Finishing, Waiting}
use Rattle.world_steps.specs.Laws.{BookStepsKeep, LinkStepsKeep}
use Rattle.world_steps.specs.Links.{Role}
use Rattle.world_steps.specs.Links.Role.{Unborn, Promised, Lent, InReset, Clean, Idle, Gone}
use Rattle.world_steps.specs.Relation.{AreRelated, CancelsFit, Related, TicketFits}
use Rattle.world_steps.specs.Steps.{Gives, gets_link, gone, promised, sets_out}
use Rattle.world_steps.specs.Steps.BookStep.{plain_event, arrives, asks, is_lent, is_promised, is_promised_for, gives_back, gives_back_too_late, tick_closes, hung_up_closes, keys, cancels}
use Rattle.world_steps.specs.Steps.LinkStep.{starts, start_fails, start_retries, returns_unused, returns_used, ends_reset, disposes_lent, disposes_promised, disposes}
use Rattle.world_steps.specs.Worlds.{Strike, World, with_book, with_client, with_link, with_pair}
use Rattle.world_steps.proofs.Cancels.{client_keeps, pair_keeps}
use Rattle.world_steps.proofs.Cancels.RoleGoes.{is_thrown}
use Rattle.world_steps.proofs.Changes.{at_clean_point, gets_start_error, in_phase, in_role, numbered}
use Rattle.world_steps.proofs.Groups.{goes_to, in_place}
use Rattle.world_steps.proofs.Steps.{fits_at, step_strikes}
use Rattle.world_leases.proofs.Cancels.{alone_if_returns, cancelled_keeps, event_keeps, given_back, has_asked, keyed_keeps, lent_anew, promised_anew, reset, returned_anew, started_anew, thrown}
use Rattle.world_leases.proofs.Leases.{evicting, starts_on, step_arrives, step_asks, step_disposes, step_disposes_lent, step_disposes_promised, step_ends_reset, step_evicts, step_gives_back, step_gives_back_too_late, step_is_lent, step_is_promised, step_is_promised_for, step_keeps, step_plain, step_returns_unused, step_returns_used, step_start_fails, step_start_retries, step_starts, step_hung_up_closes, step_tick_closes}

-- what is known of the book
pub record OfBook : Type 0 where
  pub plain : PlainEventsAddNothing
  pub arrives : ArrivalsNumber
  pub asks : AsksQueue
  pub lends : TakesLend
  pub starts : TakesStart
  pub evicts : TakesEvict
  pub gives_back : ReturnsAdd
  pub too_late : ReturnsClose
  pub tick : TicksClose
  pub hangs_up : HangUpsClose
  pub keyed : KeyedKeys
  pub cancels : CancelsStrike
  pub resets : ResetsRelease

-- ---- what no client waits for

-- no client waits for the start of a link in another role
nobody_starts : {w : World} (l : ℕ) (r : Role) → AreRelated w → (w.links l).role ≡ r → ((d : ℕ) → r ≡ Promised d → ⊥) → (d : ℕ) (own : StartKeyOf) → (w.clients d).phase ≡ Starting own l → ⊥
nobody_starts l r a e other d own p = other d (sym e ∙ (fits_at d (Starting own l) a p).1)

idle_promised : (d : ℕ) → Idle ≡ Promised d → ⊥
idle_promised d e = cc

unborn_promised : (d : ℕ) → Unborn ≡ Promised d → ⊥
unborn_promised d e = cc

lent_promised : (c d : ℕ) → Lent c ≡ Promised d → ⊥
lent_promised c d e = cc

same_promised : (c d : ℕ) → Promised c ≡ Promised d → c ≡ d
same_promised c d e = cc

-- the key of a ticket is its client's
ticket_key : (w : World) (c m : ℕ) (key : StartKeyOf) (own : StartKeyOf) → TicketFits own (w.clients c).phase → (w.clients c).phase ≡ Waiting key → own ≡ key
ticket_key w c m key own h e = subst (TicketFits own) e h

-- ---- events of the book

-- a number of the next link is of none
unborn_next : {w : World} {b : Book} {m l : ℕ} → AreRelated w → Starts w.book m l b → (w.links l).role ≡ Unborn
unborn_next {w} {b} {m} {l} r k = r.unborn l (subst (λ (n : ℕ). w.book.next_link ≤ n) (sym k.number) (le_refl w.book.next_link))

promise_cancels : (w : World) (b : Book) (c m l : ℕ) (key : StartKeyOf) → Related w → (w.clients c).phase ≡ Waiting key → (w.clients c).number ≡ Some m → Starts w.book m l b → CancelsFit (with_book (promised w c l key) b)
promise_cancels w b c m l key r e num k =
    let u = unborn_next r.facts k in
    promised_anew w b c m l key r.cancels e u k (ticket_key w c m key k.key (r.facts.tickets m k.key k.has_ticket c num) e) (nobody_starts l Unborn r.facts u unborn_promised)

-- the world's other parts, with the book that the event left
with_its : (v : World) {a : Answer} {r : Reply} {b : Book} → Gives a r b → Related (with_book v a.book) → Related (with_book v b)
with_its v q h = subst (λ (b : Book). Related (with_book v b)) q.book_is h

evicts_only : (old new : Book) → LendsNothing old (evicting old new)
evicts_only old new = record { lent = λ n k h. h; leases = λ n c s h. h; may_return = λ n m. record { key = m.key; is_lent = m.is_lent; unmarked = m.unmarked } }

pub book_keeps : OfBook → BookStepsKeep
book_keeps k w _ (plain_event e a b p q) r =
    with_its w q (record { facts = step_plain k.plain w e a r.facts p q.reply_is; cancels = event_keeps w (apply w.book e).book (k.plain w.book e a p q.reply_is).lends_nothing r.cancels })
book_keeps k w _ (arrives c n read beyond b e none q) r =
    let x = numbered (w.clients c) n in
    with_its (with_client w c x) q
    (record {
      facts = step_arrives k.arrives w c n read beyond r.facts e none q.reply_is;
      cancels = event_keeps (with_client w c x) (apply w.book (Arrive beyond)).book (k.arrives w.book beyond n q.reply_is).starts_nothing.lends_nothing (client_keeps w r.cancels c x (in_place (w.clients c) x refl refl refl (λ key i. i)));
    })
book_keeps k w _ (asks c m key a b h q) r =
    with_its w q (record { facts = step_asks k.asks w c m key r.facts h.phase h.number_is; cancels = event_keeps w (apply w.book (Ask m key)).book (k.asks w.book m key).lends_nothing r.cancels })
book_keeps k w _ (is_lent c m l key s b h q f) r =
    let n = k.lends w.book m l q.reply_is in
    let i = r.facts.idle l n.key n.was_idle in
    with_its (with_pair w c (gets_link (w.clients c) l s) l (in_role (w.links l) (Lent c))) q
    (record {
      facts = step_is_lent k.lends w c m l key s r.facts h.phase h.number_is q.reply_is f;
      cancels = lent_anew w (apply w.book (Take m)).book c m l key s r.cancels h.phase i.0 n i.1 (nobody_starts l Idle r.facts i.0 idle_promised);
    })
book_keeps k w _ (is_promised c m l started_at key b h q) r =
    with_its (promised w c l key) q
    (record {
      facts = step_is_promised k.starts w c m l started_at key r.facts h.phase h.number_is q.reply_is;
      cancels = promise_cancels w (apply w.book (Take m)).book c m l key r h.phase h.number_is (k.starts w.book m l started_at q.reply_is);
    })
book_keeps k w _ (is_promised_for c m l started_at old key b h q) r =
    let n = k.evicts w.book m l started_at old q.reply_is in
    let new = (apply w.book (Take m)).book in
    let middle = evicting w.book new in
    let first : Related (with_book (gone w old) middle) = record { facts = step_evicts w new m l old r.facts n.0 n.1; cancels = event_keeps (gone w old) middle (evicts_only w.book new) (thrown w old r.cancels) } in
    with_its (promised (gone w old) c l key) q
    (record {
      facts = step_is_promised_for k.evicts w c m l started_at old key r.facts h.phase h.number_is q.reply_is;
      cancels = promise_cancels (with_book (gone w old) middle) new c m l key first h.phase h.number_is (starts_on n.0);
    })
book_keeps k w _ (gives_back l started_at b e q) r =
    with_its (with_link w l (in_role (w.links l) Idle)) q
    (record {
      facts = step_gives_back k.gives_back w l started_at r.facts e q.reply_is;
      cancels = given_back w (apply_return w.book l (w.links l).key started_at).book l (w.links l).key r.cancels e (k.gives_back w.book l (w.links l).key started_at q.reply_is);
    })
book_keeps k w _ (gives_back_too_late l n started_at b e q) r =
    with_its (gone w l) q
    (record {
      facts = step_gives_back_too_late k.too_late w l n started_at r.facts e q.reply_is;
      cancels = event_keeps (gone w l) (apply_return w.book l (w.links l).key started_at).book (k.too_late w.book l n (w.links l).key started_at q.reply_is).lends_nothing (thrown w l r.cancels);
    })
book_keeps k w _ (tick_closes now l b q) r =
    with_its (gone w l) q
    (record {
      facts = step_tick_closes k.tick w now l r.facts q.reply_is;
      cancels = event_keeps (gone w l) (apply w.book (Tick now)).book (k.tick w.book now l q.reply_is).0.lends_nothing (thrown w l r.cancels);
    })
book_keeps k w _ (hung_up_closes n l b q) r =
    with_its (gone w l) q
    (record {
      facts = step_hung_up_closes k.hangs_up w n l r.facts q.reply_is;
      cancels = event_keeps (gone w l) (apply w.book (HungUp n)).book (k.hangs_up w.book n l q.reply_is).1.lends_nothing (thrown w l r.cancels);
    })
book_keeps k w _ (keys c l own b e told q) r =
    let n = k.keyed w.book l (key_of (w.clients c)) own q.reply_is in
    with_its w q
    (record {
      facts = step_keeps w (apply w.book (Keyed l (key_of (w.clients c)) own)).book r.facts n.adds_nothing n.next_link;
      cancels = keyed_keeps w (apply w.book (Keyed l (key_of (w.clients c)) own)).book c l own r.cancels e (fits_at c (Served l) r.facts e).1 told n;
    })
book_keeps k w _ (cancels c l key own host port b a q p) r =
    let n = k.cancels w.book key l own q.reply_is in
    let s : Strike = record { client = key; server = own; host = host; port = port } in
    with_its (sets_out w s) q
    (record {
      facts = step_keeps (sets_out w s) (apply w.book (Cancel key)).book (step_strikes w (w.strikes ++ s ∷ []) r.facts) n.starts_nothing.adds_nothing n.starts_nothing.next_link;
      cancels = cancelled_keeps w (apply w.book (Cancel key)).book l key own host port r.cancels (has_asked w c key r.facts a) n p;
    })

-- ---- starts, returns and resets

-- where no cancel came, none is due
undue_none : (due : Option KeyView) → ((client : KeyView) → due ≡ Some client → ⊥) → due ≡ None
undue_none None h = refl
undue_none (Some client) h = absurd (h client refl)

pub links_keep : StartErrorIsFrame → ResetsRelease → LinkStepsKeep
links_keep error resets w _ (starts c l key own s e f new) r =
    let h = fits_at c (Starting key l) r.facts e in
    record {
      facts = step_starts w c l key own s r.facts e f;
      cancels = started_anew w c l key own s r.cancels e h.1 new (λ d other ne p. ne (same_promised d c (sym (fits_at d (Starting other l) r.facts p).1 ∙ h.1)));
    }
links_keep error resets w _ (start_fails c l key cause e f) r =
    let x = gets_start_error (w.clients c) (spelling (fatal cause)) in
    record {
      facts = step_start_fails error w c l key cause r.facts e f;
      cancels = pair_keeps w r.cancels c x l (in_role (w.links l) Gone) (goes_to (w.clients c) x tt finishing_starting refl refl (λ q i. i))
          (record { keeps = record { key = refl; server_key = refl; role = is_thrown }; due = λ client i. i; lent = λ i. tt });
    }
  where
    finishing_starting : (own : StartKeyOf) (n : ℕ) → Finishing ≡ Starting own n → ⊥
    finishing_starting own n p = cc
links_keep error resets w _ (start_retries c l key e) r =
    let x = in_phase (w.clients c) (Waiting key) in
    record {
      facts = step_start_retries w c l key r.facts e;
      cancels = pair_keeps w r.cancels c x l (in_role (w.links l) Gone) (goes_to (w.clients c) x tt waiting_starting refl refl (λ q i. i))
          (record { keeps = record { key = refl; server_key = refl; role = is_thrown }; due = λ client i. i; lent = λ i. tt });
    }
  where
    waiting_starting : (own : StartKeyOf) (n : ℕ) → Waiting key ≡ Starting own n → ⊥
    waiting_starting own n p = cc
links_keep error resets w _ (returns_unused c l b e h none silent q) r =
    let n = resets w.book l q.reply_is in
    let new = (apply w.book (EndLease l)).book in
    let y = in_role (w.links l) Clean in
    let alone = alone_if_returns w c l r.cancels e n.could_return in
    with_its (with_link w l y) q
    (record {
      facts = step_keeps (with_link w l y) new (step_returns_unused w c l r.facts e h none silent (undue_none (w.links l).due alone.undue)) n.starts_nothing.adds_nothing n.starts_nothing.next_link;
      cancels = returned_anew w new c l y r.cancels e n tt (λ d p. clean_lent d p) refl refl refl (nobody_starts l (Lent c) r.facts e (lent_promised c));
    })
  where
    clean_lent : (d : ℕ) → Clean ≡ Lent d → ⊥
    clean_lent d p = cc
links_keep error resets w _ (returns_used c l b e h settled q) r =
    let n = resets w.book l q.reply_is in
    let new = (apply w.book (EndLease l)).book in
    let y = at_clean_point (w.links l) InReset in
    let alone = alone_if_returns w c l r.cancels e n.could_return in
    with_its (with_link w l y) q
    (record {
      facts = step_keeps (with_link w l y) new (step_returns_used w c l r.facts e h settled (undue_none (w.links l).due alone.undue)) n.starts_nothing.adds_nothing n.starts_nothing.next_link;
      cancels = returned_anew w new c l y r.cancels e n tt (λ d p. reset_lent d p) refl refl refl (nobody_starts l (Lent c) r.facts e (lent_promised c));
    })
  where
    reset_lent : (d : ℕ) → InReset ≡ Lent d → ⊥
    reset_lent d p = cc
links_keep error resets w _ (ends_reset l e done) r = record { facts = step_ends_reset w l r.facts e done; cancels = reset w l r.cancels e }
links_keep error resets w _ (disposes_lent c l e h) r = record { facts = step_disposes_lent w c l r.facts e h; cancels = thrown w l r.cancels }
links_keep error resets w _ (disposes_promised c l e h) r = record { facts = step_disposes_promised w c l r.facts e h; cancels = thrown w l r.cancels }
links_keep error resets w _ (disposes l h) r = record { facts = step_disposes w l r.facts h; cancels = thrown w l r.cancels }
