-- Events of the book, starts, returns and resets keep the relation, step by step.
use Rattle.std.proofs.Common.{◌≡◌, ℕ, ◌≤◌, Bool, length, List, [], ◌∷◌, ◌++◌, ◌⊎◌, inl, inr, ⊎_elim, refl, sym, ap, ◌∙◌, subst, append_assoc, append-nil, arith, le_refl, le_trans, ◌<◌, Option, Some, None, Result, Ok, Err}
use Rattle.std.specs.Prelude.{map}
use Rattle.std.specs.List.{flat_map}
use Rattle.frame_view.specs.Frames.{spelling}
use Rattle.message_view.specs.declared.KeyWord.{KeyWord}
use Rattle.message_view.specs.declared.views.KeyView.{KeyView}
use Rattle.message_view.specs.Refusals.{joined_pieces}
use Rattle.session_values.specs.declared.cause.Cause.{Cause}
use Rattle.session_values.specs.Errors.{fatal}
use Rattle.session_values.specs.State.{State, CatalogueOf, StartKeyOf, fresh, Address, address_of}
use Rattle.session_values.specs.Step.{run_frames}
use Rattle.session_values.specs.Service.{welcome, client_frames, served}
use Rattle.session_values.specs.Lawful.{IsLawfulKey}
use Rattle.session_laws.specs.Laws.{Reaches}
use Rattle.session_laws.specs.Starts.{StartErrorIsFrame}
use Rattle.session_laws.proofs.ByName.{fresh_is_at_rest, fresh_is_reached}
use Rattle.session_run_laws.proofs.ByName.{runs_stay_reached}
use Rattle.login_core.specs.Talk.{End}
use Rattle.login_core.specs.Talk.End.{Passed}
use Rattle.login_core.specs.Dialogue.{Way, Reason, ToLink, login}
use Rattle.login_core.specs.Solo.{after_in}
use Rattle.book_model.specs.Outcomes.Event.{Arrive, Ask, Take, Tick, HungUp}
use Rattle.book_model.specs.declared.events.Reply.TheVariants.{Arrived, Lend, Start, Done, Close}
use Rattle.world_steps.specs.Clients.Phase.{Absent, LoggingIn, Waiting, Starting, Served, Finishing, Refusing, Closed}
use Rattle.world_steps.specs.Links.Role.{Unborn, Promised, Lent, InReset, Clean, Idle, Gone}
use Rattle.world_steps.specs.Steps.IsInHand.{in_reset}
use Rattle.world_steps.proofs.Fronts.{front_nil, front_of}
use Rattle.world_steps.proofs.Put.{put_case, put_all, after_link, IsServed}
use Rattle.world_leases.proofs.Returns.{none_struck, ok, settled_rests, reset_done, unsent}
use Rattle.world_steps.proofs.Keeps.{kept_number, number_was, change_link, change_pair, clients_pair, links_put, tickets_put, unborn_put, alone_promised, alone_idle, alone_unborn}
use Rattle.world_steps.proofs.Steps.{fits_at, role_at, stays_away}
use Rattle.world_steps.proofs.Changes.{numbered, in_phase, gets_start_error, in_role, at_clean_point}
use Rattle.world_steps.specs.Clients.{Client, Phase, HasEnded}
use Rattle.world_steps.specs.Links.{IsSettled, IsReset, Link, newborn}
use Rattle.world_steps.specs.Relation.{IsLent, IsClean, RoleFits, InLogin, InQueue, InService, PhaseFits, TicketFits, AreRelated}
use Rattle.world_steps.specs.Steps.{gone, promised, gets_link, IsInHand}
use Rattle.world_steps.specs.Worlds.{World, put, with_client, with_link, with_pair, with_book}
use Rattle.book_model.specs.Book.{Book}
use Rattle.book_model.specs.Outcomes.{Event, apply, apply_return}
use Rattle.book_model.specs.declared.events.Beyond.{Beyond}
use Rattle.book_model.specs.declared.events.Reply.{Reply}
use Rattle.book_model.specs.Laws.{IsPlain, PlainEventsAddNothing, ArrivalsNumber, AsksQueue, TakesLend, TakesStart, TakesEvict, ReturnsAdd, ReturnsClose, TicksClose, HangUpsClose, AddsNothing, Lends, Starts, Drops, Numbers}

-- two different roles
lent_idle : {A : Type 0} (c : ℕ) → Lent c ≡ Idle → A
lent_idle c e = absurd (go e)
  where
    go : Lent c ≡ Idle → ⊥
    go p = cc

idle_unborn : {A : Type 0} → Idle ≡ Unborn → A
idle_unborn e = absurd (go e)
  where
    go : Idle ≡ Unborn → ⊥
    go p = cc

clean_idle : {A : Type 0} → Clean ≡ Idle → A
clean_idle e = absurd (go e)
  where
    go : Clean ≡ Idle → ⊥
    go p = cc

clean_lent : {A : Type 0} (c : ℕ) → Clean ≡ Lent c → A
clean_lent c e = absurd (go e)
  where
    go : Clean ≡ Lent c → ⊥
    go p = cc

clean_promised : {A : Type 0} (c : ℕ) → Clean ≡ Promised c → A
clean_promised c e = absurd (go e)
  where
    go : Clean ≡ Promised c → ⊥
    go p = cc

clean_unborn : {A : Type 0} → Clean ≡ Unborn → A
clean_unborn e = absurd (go e)
  where
    go : Clean ≡ Unborn → ⊥
    go p = cc

-- ---- book events

pub step_keeps : (w : World) (b : Book) → AreRelated w → AddsNothing w.book b → b.next_link ≡ w.book.next_link → AreRelated (with_book w b)
step_keeps w b r k same = record {
  lawful = r.lawful;
  clients = r.clients;
  links = r.links;
  idle = λ n key h. r.idle n key (k.idle n key h);
  unborn = λ n le. r.unborn n (subst (λ (m : ℕ). m ≤ n) same le);
  tickets = λ n key h. r.tickets n key (k.tickets n key h);
  numbers = r.numbers;
  counted = λ c n p. le_trans (r.counted c n p) k.next_client;
  tickets_counted = λ n key h. le_trans (r.tickets_counted n key (k.tickets n key h)) k.next_client;
}

pub step_plain : PlainEventsAddNothing → (w : World) (e : Event) (r : Reply) → AreRelated w → IsPlain e r → (apply w.book e).reply ≡ r → AreRelated (with_book w (apply w.book e).book)
step_plain plain w e r h p q = let k = plain w.book e r p q in step_keeps w (apply w.book e).book h k.adds_nothing k.next_link

pub step_arrives : ArrivalsNumber → (w : World) (c n : ℕ) (read : List ℕ) (beyond : Beyond) → AreRelated w → (w.clients c).phase ≡ LoggingIn read → (w.clients c).number ≡ None → (apply w.book (Arrive beyond)).reply ≡ Arrived n →
    AreRelated (with_book (with_client w c (numbered (w.clients c) n)) (apply w.book (Arrive beyond)).book)
step_arrives numbers w c n read beyond r e none reply =
    let k = numbers w.book beyond n reply in
    let x = numbered (w.clients c) n in
    let b = (apply w.book (Arrive beyond)).book in
    record {
      lawful = r.lawful;
      clients = put_all (λ i z. PhaseFits w.catalogue w.links i z.phase z) w.clients c x (subst (λ (p : Phase). PhaseFits w.catalogue w.links c p x) (sym e) (same_login (fits_at c (LoggingIn read) r e))) (λ i _. r.clients i);
      links = r.links;
      idle = λ m key h. r.idle m key (k.starts_nothing.adds_nothing.idle m key h);
      unborn = λ m le. r.unborn m (subst (λ (i : ℕ). i ≤ m) k.starts_nothing.next_link le);
      tickets = λ m key h d. put_case (λ z. z.number ≡ Some m → TicketFits key z.phase) w.clients c x d
          (λ _ p. absurd (too_new k m (r.tickets_counted m key (k.starts_nothing.adds_nothing.tickets m key h)) (some_same p))) (λ _ p. r.tickets m key (k.starts_nothing.adds_nothing.tickets m key h) d p);
      numbers = λ d f m p q. both k d f m (at d m p) (at f m q);
      counted = λ d m p. ⊎_elim (λ q. less k m q.1) (λ q. le_trans (r.counted d m q) k.starts_nothing.adds_nothing.next_client) (at d m p);
      tickets_counted = λ m key h. le_trans (r.tickets_counted m key (k.starts_nothing.adds_nothing.tickets m key h)) k.starts_nothing.adds_nothing.next_client;
    }
  where
    same_login : InLogin read (w.clients c) → InLogin read (numbered (w.clients c) n)
    same_login h = record { lawful_row = h.lawful_row; sent_is = h.sent_is; told = h.told; quiet = h.quiet; unstruck = h.unstruck }

    some_same : {i j : ℕ} → ◌≡◌ {A = Option ℕ} (Some i) (Some j) → i ≡ j
    some_same p = cc

    too_new : Numbers w.book n (apply w.book (Arrive beyond)).book → (m : ℕ) → m < w.book.next_client → n ≡ m → ⊥
    too_new k m lt p = let a = k.number in omega arith

    less : Numbers w.book n (apply w.book (Arrive beyond)).book → (m : ℕ) → n ≡ m → m < (apply w.book (Arrive beyond)).book.next_client
    less k m p = let a = k.number in let d = k.next_client in omega arith

    at : (d m : ℕ) → (put w.clients c (numbered (w.clients c) n) d).number ≡ Some m → ((d ≡ c) × (n ≡ m)) ⊎ ((w.clients d).number ≡ Some m)
    at d m = put_case (λ z. z.number ≡ Some m → ((d ≡ c) × (n ≡ m)) ⊎ ((w.clients d).number ≡ Some m)) w.clients c (numbered (w.clients c) n) d (λ g p. inl (g, some_same p)) (λ _ p. inr p)

    both : Numbers w.book n (apply w.book (Arrive beyond)).book → (d f m : ℕ) → ((d ≡ c) × (n ≡ m)) ⊎ ((w.clients d).number ≡ Some m) → ((f ≡ c) × (n ≡ m)) ⊎ ((w.clients f).number ≡ Some m) → d ≡ f
    both k d f m (inl p) (inl q) = p.0 ∙ sym q.0
    both k d f m (inl p) (inr q) = let a = r.counted f m q in let i = k.number in let j = p.1 in absurd (omega arith)
    both k d f m (inr p) (inl q) = let a = r.counted d m p in let i = k.number in let j = q.1 in absurd (omega arith)
    both k d f m (inr p) (inr q) = r.numbers d f m p q

pub step_asks : AsksQueue → (w : World) (c m : ℕ) (key : StartKeyOf) → AreRelated w → (w.clients c).phase ≡ Waiting key → (w.clients c).number ≡ Some m → AreRelated (with_book w (apply w.book (Ask m key)).book)
step_asks asks_queue w c m key r e num =
    let k = asks_queue w.book m key in
    record {
      lawful = r.lawful;
      clients = r.clients;
      links = r.links;
      idle = λ n q h. r.idle n q (k.idle n q h);
      unborn = λ n le. r.unborn n (subst (λ (i : ℕ). i ≤ n) k.next_link le);
      tickets = λ n q h d p. ⊎_elim (λ old. r.tickets n q old d p) (λ new. added n q d new.0 new.1 p) (k.tickets n q h);
      numbers = r.numbers;
      counted = λ d n p. subst (λ (i : ℕ). n < i) (sym k.next_client) (r.counted d n p);
      tickets_counted = λ n q h. subst (λ (i : ℕ). n < i) (sym k.next_client) (⊎_elim (λ old. r.tickets_counted n q old) (λ new. subst (λ (i : ℕ). i < w.book.next_client) new.0 (r.counted c m num)) (k.tickets n q h));
    }
  where
    added : (n : ℕ) (q : StartKeyOf) (d : ℕ) → m ≡ n → key ≡ q → (w.clients d).number ≡ Some n → TicketFits q (w.clients d).phase
    added n q d p f g = subst (λ (i : ℕ). TicketFits q (w.clients i).phase) (r.numbers c d m num (g ∙ ap Some (sym p))) (subst (TicketFits q) (sym e) (sym f))

-- a clean link starts a lease
clean_lent_out : {cat : CatalogueOf} {y : Link} (c : ℕ) → IsClean cat y → IsLent cat (in_role y (Lent c))
unfolding run_frames
clean_lent_out {cat} {y} c h = record {
  base = y.session;
  is_fresh = h.is_fresh;
  lawful_key = h.lawful_key;
  runs = record {
    taken = [];
    are_sent = tt;
    marked = ap (λ (marks : List Bool). length marks) h.struck;
    sent_is = h.sent ∙ sym h.inbox;
    session_is = refl;
    told = front_of quiet;
    all_told = λ _. quiet;
  };
}
  where
    quiet : y.received ++ y.outbox ≡ []
    quiet = ap (λ (l : List ℕ). l ++ y.outbox) h.received ∙ h.outbox

-- a client that waits gets a link with nothing sent or received
begins_service : {cat : CatalogueOf} {key : StartKeyOf} {x : Client} (y : Link) (l : ℕ) (s : State) → InQueue key x → y.key ≡ key → fresh cat key ≡ Ok s → y.sent ≡ [] → y.received ≡ [] → y.struck ≡ [] → InService cat (gets_link x l s) y
begins_service {cat} {key} {x} y l s h k f none silent unstruck =
    let hello : List ℕ = flat_map spelling (welcome s x.word.pid x.word.secret) in
    record {
      base = s;
      is_fresh = ap (fresh cat) k ∙ f;
      passed = h.passed ∙ ap (λ (b : List ℕ). Passed (ToLink key) (b ++ (x.for_link ++ x.unread))) (sym none) ∙ ap (λ (q : StartKeyOf). Passed (ToLink q) (y.sent ++ (x.for_link ++ x.unread))) (sym k);
      told = sym (append_assoc x.out x.for_client hello) ∙ ap (λ (b : List ℕ). b ++ hello) h.told
          ∙ ap (λ (b : List ℕ). joined_pieces (login x.row x.word x.sent).pieces ++ b) (sym (append-nil hello) ∙ ap (λ (b : List ℕ). hello ++ b) (sym silent));
      quiet = h.quiet;
      struck = h.unstruck ∙ sym unstruck;
    }

pub step_is_lent : TakesLend → (w : World) (c m l : ℕ) (key : StartKeyOf) (s : State) → AreRelated w →
    (w.clients c).phase ≡ Waiting key → (w.clients c).number ≡ Some m → (apply w.book (Take m)).reply ≡ Lend l → fresh (w.catalogue (address_of key)) key ≡ Ok s →
    AreRelated (with_book (with_pair w c (gets_link (w.clients c) l s) l (in_role (w.links l) (Lent c))) (apply w.book (Take m)).book)
step_is_lent lends w c m l key s r e num reply f =
    let k = lends w.book m l reply in
    let h = fits_at c (Waiting key) r e in
    let i = r.idle l k.key k.was_idle in
    let same : (w.links l).key ≡ key = i.1 ∙ of_ticket k in
    let clean = role_at l Idle r i.0 in
    let x = gets_link (w.clients c) l s in
    let y = in_role (w.links l) (Lent c) in
    record {
      lawful = r.lawful;
      clients = clients_pair w c x l y r (alone_idle c i.0)
          (put_case (λ z. IsServed w.catalogue c x z) w.links l y l (λ _. (begins_service {cat = w.catalogue (address_of (w.links l).key)} y l s h same (ap (λ (q : StartKeyOf). fresh (w.catalogue (address_of q)) key) same ∙ f) clean.sent clean.received clean.struck, refl)) (λ ne. absurd (ne refl)));
      links = links_put w.catalogue w.links l y (clean_lent_out c clean) r.links;
      idle = λ n q h. put_case (λ z. (z.role ≡ Idle) × (z.key ≡ q)) w.links l y n (λ g. absurd (k.not_idle n q h g)) (λ _. r.idle n q (k.adds_nothing.idle n q h));
      unborn = λ n le. unborn_put w.links l y n (λ u. idle_unborn (sym i.0 ∙ u)) (r.unborn n (subst (λ (i : ℕ). i ≤ n) k.next_link le));
      tickets = λ n q i. tickets_put w.clients c x n q (kept_number _ _ refl) (λ _ _. tt) (r.tickets n q (k.adds_nothing.tickets n q i));
      numbers = λ d f n p q. r.numbers d f n (number_was w.clients c x (kept_number _ _ refl) d n p) (number_was w.clients c x (kept_number _ _ refl) f n q);
      counted = λ d n p. le_trans (r.counted d n (number_was w.clients c x (kept_number _ _ refl) d n p)) k.adds_nothing.next_client;
      tickets_counted = λ n q i. le_trans (r.tickets_counted n q (k.adds_nothing.tickets n q i)) k.adds_nothing.next_client;
    }
  where
    of_ticket : (k : Lends w.book m l (apply w.book (Take m)).book) → k.key ≡ key
    of_ticket k = subst (λ (p : Phase). TicketFits k.key p) e (r.tickets m k.key k.has_ticket c num)

-- a link number is promised, in a world whose book then changes so
promise : (w : World) (b : Book) (c m l : ℕ) (key : StartKeyOf) → AreRelated w → (w.clients c).phase ≡ Waiting key → Starts w.book m l b →
    AreRelated (with_book (promised w c l key) b)
promise w b c m l key r e k =
    let h = fits_at c (Waiting key) r e in
    let unborn : (w.links l).role ≡ Unborn = r.unborn l (subst (λ (m : ℕ). w.book.next_link ≤ m) (sym k.number) (le_refl w.book.next_link)) in
    let x = in_phase (w.clients c) (Starting key l) in
    let y = in_role (w.links l) (Promised c) in
    record {
      lawful = r.lawful;
      clients = clients_pair w c x l y r (alone_unborn c unborn)
          (record { lawful_key = h.lawful_key; passed = h.passed; told = h.told; quiet = h.quiet; unstruck = h.unstruck }, put_case (λ z. z.role ≡ Promised c) w.links l y l (λ _. refl) (λ ne. absurd (ne refl)));
      links = links_put w.catalogue w.links l y tt r.links;
      idle = λ n q m. let i = r.idle n q (k.adds_nothing.idle n q m) in
          put_case (λ z. (z.role ≡ Idle) × (z.key ≡ q)) w.links l y n (λ g. idle_unborn (sym i.0 ∙ ap (λ (j : ℕ). (w.links j).role) g ∙ unborn)) (λ _. i);
      unborn = λ n le. put_case (λ z. z.role ≡ Unborn) w.links l y n (λ g. absurd (later n le g)) (λ _. r.unborn n (before n le));
      tickets = λ n q m. tickets_put w.clients c x n q (kept_number _ _ refl) (λ own t. subst (TicketFits own) e t) (r.tickets n q (k.adds_nothing.tickets n q m));
      numbers = λ d f n p q. r.numbers d f n (number_was w.clients c x (kept_number _ _ refl) d n p) (number_was w.clients c x (kept_number _ _ refl) f n q);
      counted = λ d n p. le_trans (r.counted d n (number_was w.clients c x (kept_number _ _ refl) d n p)) k.adds_nothing.next_client;
      tickets_counted = λ n q i. le_trans (r.tickets_counted n q (k.adds_nothing.tickets n q i)) k.adds_nothing.next_client;
    }
  where
    later : (n : ℕ) → b.next_link ≤ n → n ≡ l → ⊥
    later n le g = let a = k.number in let d = k.next_link in omega arith

    before : (n : ℕ) → b.next_link ≤ n → w.book.next_link ≤ n
    before n le = let d = k.next_link in omega arith

pub step_is_promised : TakesStart → (w : World) (c m l started_at : ℕ) (key : StartKeyOf) → AreRelated w → (w.clients c).phase ≡ Waiting key → (w.clients c).number ≡ Some m → (apply w.book (Take m)).reply ≡ Start l started_at None →
    AreRelated (with_book (promised w c l key) (apply w.book (Take m)).book)
step_is_promised begins w c m l started_at key r e num reply = promise w (apply w.book (Take m)).book c m l key r e (begins w.book m l started_at reply)

-- an idle link that the book dropped is closed
drops_idle : (w : World) (b : Book) (l : ℕ) → AreRelated w → AddsNothing w.book b → (n : ℕ) → b.next_link ≡ n → ((m : ℕ) → n ≤ m → w.book.next_link ≤ m) → Drops w.book l b →
    AreRelated (with_book (gone w l) b)
drops_idle w b l r k n is le d =
    let i = r.idle l d.key d.was_idle in
    record {
      lawful = r.lawful;
      clients = λ c. after_link w.catalogue w.links l (in_role (w.links l) Gone) c (w.clients c).phase (w.clients c)
          (λ _ f. lent_idle c (sym f.1 ∙ i.0)) (λ _ _ f. absurd (promised_idle c (sym f ∙ i.0))) (r.clients c);
      links = links_put w.catalogue w.links l (in_role (w.links l) Gone) tt r.links;
      idle = λ m q h. put_case (λ z. (z.role ≡ Idle) × (z.key ≡ q)) w.links l (in_role (w.links l) Gone) m (λ g. absurd (d.not_idle m q h g)) (λ _. r.idle m q (k.idle m q h));
      unborn = λ m h. unborn_put w.links l (in_role (w.links l) Gone) m (λ u. idle_unborn (sym i.0 ∙ u)) (r.unborn m (le m (subst (λ (p : ℕ). p ≤ m) is h)));
      tickets = λ n q h. r.tickets n q (k.tickets n q h);
      numbers = r.numbers;
      counted = λ c m p. le_trans (r.counted c m p) k.next_client;
      tickets_counted = λ n q h. le_trans (r.tickets_counted n q (k.tickets n q h)) k.next_client;
    }
  where
    promised_idle : (c : ℕ) → Promised c ≡ Idle → ⊥
    promised_idle c p = cc

pub step_tick_closes : TicksClose → (w : World) (now l : ℕ) → AreRelated w → (apply w.book (Tick now)).reply ≡ Close l → AreRelated (with_book (gone w l) (apply w.book (Tick now)).book)
step_tick_closes tick w now l r e =
    let k = tick w.book now l e in
    drops_idle w (apply w.book (Tick now)).book l r k.0.adds_nothing w.book.next_link k.0.next_link (λ m h. h) k.1

pub step_hung_up_closes : HangUpsClose → (w : World) (n l : ℕ) → AreRelated w → (apply w.book (HungUp n)).reply ≡ Close l → AreRelated (with_book (gone w l) (apply w.book (HungUp n)).book)
step_hung_up_closes closes w n l r e =
    let k = closes w.book n l e in
    drops_idle w (apply w.book (HungUp n)).book l r k.1.adds_nothing w.book.next_link k.1.next_link (λ m h. h) k.2

-- the book before the start, without the link that it evicts
abbrev pub evicting : Book → Book → Book
evicting old new = record old { idle = new.idle }

pub step_evicts : (w : World) (new : Book) (m l old : ℕ) → AreRelated w → Starts w.book m l new → Drops w.book old new → AreRelated (with_book (gone w old) (evicting w.book new))
step_evicts w new m l old r k d =
    drops_idle w (evicting w.book new) old r (record { next_client = le_refl w.book.next_client; idle = k.adds_nothing.idle; tickets = λ n q h. h }) w.book.next_link refl (λ n h. h)
    (record { key = d.key; was_idle = d.was_idle; not_idle = d.not_idle })

pub starts_on : {old new : Book} {m l : ℕ} → Starts old m l new → Starts (evicting old new) m l new
starts_on k = record {
  key = k.key;
  has_ticket = k.has_ticket;
  number = k.number;
  next_link = k.next_link;
  adds_nothing = record { next_client = k.adds_nothing.next_client; idle = λ n q h. h; tickets = k.adds_nothing.tickets };
  lends_one = record {
    lent = k.lends_one.lent;
    leases = k.lends_one.leases;
    may_return = λ n h. ⊎_elim (λ p. inl (record { key = p.key; is_lent = p.is_lent; unmarked = p.unmarked })) (λ p. inr p) (k.lends_one.may_return n h);
  };
}

pub step_is_promised_for : TakesEvict → (w : World) (c m l started_at old : ℕ) (key : StartKeyOf) → AreRelated w → (w.clients c).phase ≡ Waiting key → (w.clients c).number ≡ Some m → (apply w.book (Take m)).reply ≡ Start l started_at (Some old) →
    AreRelated (with_book (promised (gone w old) c l key) (apply w.book (Take m)).book)
step_is_promised_for evicts w c m l started_at old key r e num reply =
    let k = evicts w.book m l started_at old reply in
    let new = (apply w.book (Take m)).book in
    promise (with_book (gone w old) (evicting w.book new)) new c m l key (step_evicts w new m l old r k.0 k.1) e (starts_on k.0)

pub step_gives_back : ReturnsAdd → (w : World) (l started_at : ℕ) → AreRelated w → (w.links l).role ≡ Clean → (apply_return w.book l (w.links l).key started_at).reply ≡ Done →
    AreRelated (with_book (with_link w l (in_role (w.links l) Idle)) (apply_return w.book l (w.links l).key started_at).book)
step_gives_back adds w l started_at r e reply =
    let k = adds w.book l (w.links l).key started_at reply in
    let clean = role_at l Clean r e in
    let y = in_role (w.links l) Idle in
    let s = change_link w l y r (record { is_fresh = clean.is_fresh; lawful_key = clean.lawful_key; inbox = clean.inbox; outbox = clean.outbox; sent = clean.sent; received = clean.received; undue = clean.undue; struck = clean.struck })
    (λ d _ f. clean_lent d (sym e ∙ f.1)) (λ d _ _ f. clean_promised d (sym e ∙ f)) (λ f. clean_idle (sym e ∙ f)) (λ f. clean_unborn (sym e ∙ f)) in
    record {
      lawful = r.lawful;
      clients = s.clients;
      links = s.links;
      idle = λ n q m. ⊎_elim (λ old. s.idle n q old)
          (λ new. put_case (λ z. (z.role ≡ Idle) × (z.key ≡ q)) w.links l y n (λ g. (refl, new.1)) (λ ne. absurd (ne (sym new.0)))) (k.idle n q m);
      unborn = λ n le. s.unborn n (subst (λ (m : ℕ). m ≤ n) k.next_link le);
      tickets = λ n q m. s.tickets n q (k.tickets n q m);
      numbers = s.numbers;
      counted = λ d n p. subst (λ (i : ℕ). n < i) (sym k.next_client) (s.counted d n p);
      tickets_counted = λ n q h. subst (λ (i : ℕ). n < i) (sym k.next_client) (s.tickets_counted n q (k.tickets n q h));
    }

pub step_gives_back_too_late : ReturnsClose → (w : World) (l n started_at : ℕ) → AreRelated w → (w.links l).role ≡ Clean → (apply_return w.book l (w.links l).key started_at).reply ≡ Close n →
    AreRelated (with_book (gone w l) (apply_return w.book l (w.links l).key started_at).book)
step_gives_back_too_late closes w l n started_at r e reply =
    let k = closes w.book l n (w.links l).key started_at reply in
    step_keeps (gone w l) (apply_return w.book l (w.links l).key started_at).book
    (change_link w l (in_role (w.links l) Gone) r tt (λ d _ f. clean_lent d (sym e ∙ f.1)) (λ d _ _ f. clean_promised d (sym e ∙ f)) (λ f. clean_idle (sym e ∙ f)) (λ f. clean_unborn (sym e ∙ f)))
    k.adds_nothing k.next_link

-- ---- starts

newborn_lent : {cat : CatalogueOf} {c : ℕ} {key : StartKeyOf} {own : KeyView} {s : State} → fresh cat key ≡ Ok s → IsLawfulKey key → IsLent cat (newborn c key own s)
unfolding run_frames
newborn_lent {cat} {c} {key} {own} {s} f k = record { base = s; is_fresh = f; lawful_key = k; runs = record { taken = []; are_sent = tt; marked = refl; sent_is = refl; session_is = refl; told = front_nil []; all_told = λ _. refl } }

pub step_starts : (w : World) (c l : ℕ) (key : StartKeyOf) (own : KeyView) (s : State) → AreRelated w → (w.clients c).phase ≡ Starting key l → fresh (w.catalogue (address_of key)) key ≡ Ok s →
    AreRelated (with_pair w c (gets_link (w.clients c) l s) l (newborn c key own s))
step_starts w c l key own s r e f =
    let h = fits_at c (Starting key l) r e in
    let x = gets_link (w.clients c) l s in
    let y = newborn c key own s in
    change_pair w c x l y r (alone_promised h.1)
    (put_case (λ z. IsServed w.catalogue c x z) w.links l y l (λ _. (begins_service y l s h.0 refl f refl refl refl, refl)) (λ ne. absurd (ne refl)))
    (newborn_lent f h.0.lawful_key)
    (kept_number _ _ refl) (λ _ _. tt) (λ i. absurd (promised_idle (sym h.1 ∙ i))) (λ i. absurd (promised_unborn (sym h.1 ∙ i)))
  where
    promised_idle : Promised c ≡ Idle → ⊥
    promised_idle p = cc

    promised_unborn : Promised c ≡ Unborn → ⊥
    promised_unborn p = cc

-- the service of a client whose server refuses its start
after_refused : (catalogue : Address → CatalogueOf) (word : KeyWord) (marks : List Bool) (o : End Way Reason) (key : StartKeyOf) (left : List ℕ) (cause : Cause) → o ≡ Passed (ToLink key) left → fresh (catalogue (address_of key)) key ≡ Err cause →
    after_in catalogue word marks o ≡ spelling (fatal cause) ∷ []
after_refused catalogue word marks o key left cause e f =
    ap (after_in catalogue word marks) e ∙ ap (λ (r : Result State Cause). map spelling (served (catalogue (address_of key)) r word.pid word.secret marks (client_frames left))) f

pub step_start_fails : StartErrorIsFrame → (w : World) (c l : ℕ) (key : StartKeyOf) (cause : Cause) → AreRelated w → (w.clients c).phase ≡ Starting key l → fresh (w.catalogue (address_of key)) key ≡ Err cause →
    AreRelated (with_pair w c (gets_start_error (w.clients c) (spelling (fatal cause))) l (in_role (w.links l) Gone))
step_start_fails error w c l key cause r e f =
    let h = fits_at c (Starting key l) r e in
    let x = w.clients c in
    let said : List ℕ = joined_pieces (login x.row x.word x.sent).pieces in
    change_pair w c (gets_start_error x (spelling (fatal cause))) l (in_role (w.links l) Gone) r (alone_promised h.1)
    (record {
      frames = fatal cause ∷ [];
      are_frames = (error cause, tt);
      first = front_of (sym (after_refused w.catalogue x.word x.struck (login x.row x.word x.sent).ended key (x.for_link ++ x.unread) cause h.0.passed f));
      told = front_of (sym (append_assoc x.out x.for_client (spelling (fatal cause))) ∙ ap (λ (b : List ℕ). b ++ spelling (fatal cause)) h.0.told ∙ ap (λ (b : List ℕ). said ++ b) (sym (append-nil (spelling (fatal cause)))));
      quiet = h.0.quiet;
    })
    tt (kept_number _ _ refl) (λ _ _. tt) (λ i. absurd (promised_idle (sym h.1 ∙ i))) (λ i. absurd (promised_unborn (sym h.1 ∙ i)))
  where
    promised_idle : Promised c ≡ Idle → ⊥
    promised_idle p = cc

    promised_unborn : Promised c ≡ Unborn → ⊥
    promised_unborn p = cc

-- its client waits again, as it waited before
pub step_start_retries : (w : World) (c l : ℕ) (key : StartKeyOf) → AreRelated w → (w.clients c).phase ≡ Starting key l → AreRelated (with_pair w c (in_phase (w.clients c) (Waiting key)) l (in_role (w.links l) Gone))
step_start_retries w c l key r e =
    let h = fits_at c (Starting key l) r e in
    change_pair w c (in_phase (w.clients c) (Waiting key)) l (in_role (w.links l) Gone) r (alone_promised h.1)
    (record { lawful_key = h.0.lawful_key; passed = h.0.passed; told = h.0.told; quiet = h.0.quiet; unstruck = h.0.unstruck })
    tt (kept_number _ _ refl) (λ own t. subst (TicketFits own) e t) (λ i. absurd (promised_idle (sym h.1 ∙ i))) (λ i. absurd (promised_unborn (sym h.1 ∙ i)))
  where
    promised_idle : Promised c ≡ Idle → ⊥
    promised_idle p = cc

    promised_unborn : Promised c ≡ Unborn → ⊥
    promised_unborn p = cc

-- ---- returns and resets
ended_not_served : {A : Type 0} {phase : Phase} {l : ℕ} → HasEnded phase → phase ≡ Served l → A
ended_not_served {A} {phase} {l} h e = absurd (go (Served l) (subst HasEnded e h) refl)
  where
    go : (p : Phase) → HasEnded p → p ≡ Served l → ⊥
    go Finishing k q = cc
    go (Refusing left) k q = cc
    go Closed k q = cc
    go Absent k q = elim k [ ]
    go (LoggingIn read) k q = elim k [ ]
    go (Waiting key) k q = elim k [ ]
    go (Starting key m) k q = elim k [ ]
    go (Served m) k q = elim k [ ]

ended_not_starting : {A : Type 0} {phase : Phase} {key : StartKeyOf} {l : ℕ} → HasEnded phase → phase ≡ Starting key l → A
ended_not_starting {A} {phase} {key} {l} h e = absurd (go (Starting key l) (subst HasEnded e h) refl)
  where
    go : (p : Phase) → HasEnded p → p ≡ Starting key l → ⊥
    go Finishing k q = cc
    go (Refusing left) k q = cc
    go Closed k q = cc
    go Absent k q = elim k [ ]
    go (LoggingIn read) k q = elim k [ ]
    go (Waiting key) k q = elim k [ ]
    go (Starting key m) k q = elim k [ ]
    go (Served m) k q = elim k [ ]

same_client : (c d : ℕ) → Lent c ≡ Lent d → d ≡ c
same_client c d e = cc

same_promised : (c d : ℕ) → Promised c ≡ Promised d → d ≡ c
same_promised c d e = cc

-- a lent link whose client has ended takes another role
leaves_client : (w : World) (c l : ℕ) (y : Link) → AreRelated w → (w.links l).role ≡ Lent c → HasEnded (w.clients c).phase → RoleFits w.catalogue y.role y → AreRelated (with_link w l y)
leaves_client w c l y r e h k =
    change_link w l y r k
    (λ d p f. ended_not_served (subst (λ (i : ℕ). HasEnded (w.clients i).phase) (sym (same_client c d (sym e ∙ f.1))) h) p)
    (λ d _ _ f. absurd (lent_promised d (sym e ∙ f))) (λ f. lent_idle c (sym e ∙ f)) (λ f. absurd (lent_unborn (sym e ∙ f)))
  where
    lent_promised : (d : ℕ) → Lent c ≡ Promised d → ⊥
    lent_promised d p = cc

    lent_unborn : Lent c ≡ Unborn → ⊥
    lent_unborn p = cc

pub step_returns_unused : (w : World) (c l : ℕ) → AreRelated w → (w.links l).role ≡ Lent c → HasEnded (w.clients c).phase → (w.links l).sent ≡ [] → (w.links l).received ≡ [] →
    (w.links l).due ≡ None → AreRelated (with_link w l (in_role (w.links l) Clean))
step_returns_unused w c l r e h none silent undue =
    let y = w.links l in
    let cat : CatalogueOf = w.catalogue (address_of y.key) in
    let k = role_at l (Lent c) r e in
    let u = unsent cat y.key k.base y k.runs none in
    leaves_client w c l (in_role y Clean) r e h (record { is_fresh = k.is_fresh ∙ ap ok (sym u.session); lawful_key = k.lawful_key; inbox = u.inbox; outbox = u.outbox; sent = none; received = silent; undue = undue; struck = none_struck cat y.key k.base y k.runs none })

pub step_returns_used : (w : World) (c l : ℕ) → AreRelated w → (w.links l).role ≡ Lent c → HasEnded (w.clients c).phase → IsSettled (w.links l).sent (w.links l).received →
    (w.links l).due ≡ None → AreRelated (with_link w l (at_clean_point (w.links l) InReset))
unfolding run_frames
step_returns_used w c l r e h settled undue =
    let y = w.links l in
    let cat : CatalogueOf = w.catalogue (address_of y.key) in
    let k = role_at l (Lent c) r e in
    let reached : Reaches cat y.key k.base = fresh_is_reached cat y.key k.base (r.lawful (address_of y.key)) k.lawful_key k.is_fresh in
    let u = settled_rests cat y.key k.base y k.runs reached (fresh_is_at_rest cat y.key k.base k.is_fresh) settled in
    let now : State = (run_frames cat k.base y.struck u.frames).next in
    leaves_client w c l (at_clean_point y InReset) r e h (record {
      base = now;
      lawful_key = k.lawful_key;
      reached = runs_stay_reached cat y.key k.base y.struck u.frames reached u.are_sent;
      rests = u.rests;
      runs = record { taken = []; are_sent = tt; marked = refl; sent_is = sym u.done.inbox; session_is = u.done.session; told = front_of u.done.outbox; all_told = λ _. u.done.outbox };
      undue = undue;
      unstruck = refl;
    })

pub step_ends_reset : (w : World) (l : ℕ) → AreRelated w → (w.links l).role ≡ InReset → IsReset (w.links l).sent (w.links l).received → AreRelated (with_link w l (at_clean_point (w.links l) Clean))
step_ends_reset w l r e done =
    let y = w.links l in
    let k = role_at l InReset r e in
    let u = reset_done (w.catalogue (address_of y.key)) y.key k.base y k.runs k.reached k.rests k.unstruck done in
    stays_away w l (at_clean_point y Clean) r (subst IsInHand (sym e) in_reset)
    (record { is_fresh = u.is_fresh; lawful_key = k.lawful_key; inbox = u.inbox; outbox = u.outbox; sent = refl; received = refl; undue = k.undue; struck = refl })

pub step_disposes_lent : (w : World) (c l : ℕ) → AreRelated w → (w.links l).role ≡ Lent c → HasEnded (w.clients c).phase → AreRelated (gone w l)
step_disposes_lent w c l r e h = leaves_client w c l (in_role (w.links l) Gone) r e h tt

pub step_disposes_promised : (w : World) (c l : ℕ) → AreRelated w → (w.links l).role ≡ Promised c → HasEnded (w.clients c).phase → AreRelated (gone w l)
step_disposes_promised w c l r e h =
    change_link w l (in_role (w.links l) Gone) r tt
    (λ d _ f. absurd (promised_lent d (sym e ∙ f.1)))
    (λ d key p f. ended_not_starting (subst (λ (i : ℕ). HasEnded (w.clients i).phase) (sym (same_promised c d (sym e ∙ f))) h) p)
    (λ f. absurd (promised_idle (sym e ∙ f))) (λ f. absurd (promised_unborn (sym e ∙ f)))
  where
    promised_lent : (d : ℕ) → Promised c ≡ Lent d → ⊥
    promised_lent d p = cc

    promised_idle : Promised c ≡ Idle → ⊥
    promised_idle p = cc

    promised_unborn : Promised c ≡ Unborn → ⊥
    promised_unborn p = cc

pub step_disposes : (w : World) (l : ℕ) → AreRelated w → IsInHand (w.links l).role → AreRelated (gone w l)
step_disposes w l r h = stays_away w l (in_role (w.links l) Gone) r h tt
