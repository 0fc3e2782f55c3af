-- Leases and cancels under events of the book, starts, returns and resets.
use Rattle.std.proofs.Common.{◌≡◌, ◌≢◌, ℕ, Bool, true, false, List, [], ◌∷◌, ◌++◌, ◌⊎◌, inl, inr, ⊎_elim, refl, sym, ap, ◌∙◌, subst, nat_eq, eqb-true, eq-eqb, Some}
use Rattle.std.specs.List.{AllByRecursion}
use Rattle.std.proofs.lemmas.Bool.{false≢true}
use Rattle.std.proofs.lemmas.Option.{none-some}
use Rattle.message_view.specs.declared.views.KeyView.{KeyView}
use Rattle.session_values.specs.State.{State, StartKeyOf}
use Rattle.login_core.specs.Talk.End.{Stopped}
use Rattle.login_core.specs.Dialogue.{Cancelling, login}
use Rattle.book_model.specs.Book.{Book}
use Rattle.book_model.specs.Laws.{HasLease, HasLink, Keys, Lends, LendsNothing, LendsOne, MayReturn, Releases, Starts, Strikes, TakesBack}
use Rattle.book_model.specs.Places.{IsPlaceOf}
use Rattle.world_steps.specs.Clients.{Client, HasCome, IsUnstruck, key_of}
use Rattle.world_steps.specs.Clients.Phase.{LoggingIn, Waiting, Starting, Served}
use Rattle.world_steps.specs.Links.{Link, Role, newborn}
use Rattle.world_steps.specs.Links.Role.{Unborn, Promised, Lent, InReset, Clean, Idle, Gone}
use Rattle.world_steps.specs.Relation.{AreRelated, CancelsFit, HasLentKey, IsOnItsWay, LeaseFits, MayBeLent, StrikeFits}
use Rattle.world_steps.specs.Steps.{Asks, IsNewKey, gets_link, gone, promised, sets_out}
use Rattle.world_steps.specs.Worlds.{AreTogether, HasAsked, Strike, World, put, with_book, with_link, with_pair}
use Rattle.world_steps.proofs.Cancels.{ClientGoes, ClientKeeps, Everywhere, GoesOn, LendsNothingNew, LinkKeeps, RoleGoes, all_marks_on, due_kept, due_on, fits_on, lease_kept, link_goes, same_client, same_link, strikes_change, strikes_kept}
use Rattle.world_steps.proofs.Cancels.RoleGoes.{comes_back, is_renewed, is_thrown}
use Rattle.world_steps.proofs.Changes.{at_clean_point, in_phase, in_role}
use Rattle.world_steps.proofs.Logins.{login_stopped}
use Rattle.world_steps.proofs.Put.{put_all, put_case}
use Rattle.world_steps.proofs.Steps.{fits_at}

-- ---- numbers

here_or_there : (n l : ℕ) → (n ≡ l) ⊎ (n ≢ l)
here_or_there n l = go (nat_eq n l) refl
  where
    go : (b : Bool) → nat_eq n l ≡ b → (n ≡ l) ⊎ (n ≢ l)
    go true e = inl (eqb-true n l e)
    go false e = inr (λ h. absurd (false≢true (sym e ∙ eq-eqb n l h)))

put_same : {A : Type 0} (f : ℕ → A) (k : ℕ) (x : A) → put f k x k ≡ x
put_same f k x = put_case (λ z. z ≡ x) f k x k (λ _. refl) (λ ne. absurd (ne refl))

put_other : {A : Type 0} (f : ℕ → A) (k : ℕ) (x : A) (i : ℕ) → i ≢ k → put f k x i ≡ f i
put_other f k x i ne = put_case (λ z. z ≡ f i) f k x i (λ e. absurd (ne e)) (λ _. refl)

-- ---- an event that lends nothing

pub event_keeps : (w : World) (b : Book) → LendsNothing w.book b → CancelsFit w → CancelsFit (with_book w b)
event_keeps w b n f =
    let v = with_book w b in
    let k : LendsNothingNew w v = record {
      book = n;
      strikes = refl;
      links = λ l. (same_link (w.links l)).keeps;
      lent_roles = λ m key h. f.lent_roles m key (n.lent m key h);
      clients = λ c. (same_client (w.clients c)).goes.keeps;
      starting = λ c own m e. e;
    } in
    fits_on w v k f (all_marks_on w v (λ c. (same_client (w.clients c)).goes) f) (due_on w v k f)

-- ---- a lease can be found

pub keyed_keeps : (w : World) (b : Book) (c l : ℕ) (own : KeyView) → CancelsFit w → (w.clients c).phase ≡ Served l → (w.links l).role ≡ Lent c → (w.links l).server_key ≡ Some own →
    Keys w.book l (key_of (w.clients c)) own b → CancelsFit (with_book w b)
keyed_keeps w b c l own f served lent told k = record {
  lent_roles = λ n key h. f.lent_roles n key (k.lent n key h);
  lent = λ n d r key h. f.lent n d r key (k.lent n key h);
  promised = λ n d o key p h. f.promised n d o key p (k.lent n key h);
  server_keys = f.server_keys;
  leases = λ n x y h. ⊎_elim (λ old. lease_kept w (with_book w b) Everywhere goes f n x y tt old) (λ new. new_lease n x y new.0 new.1 new.2) (k.leases n x y h);
  strikes = strikes_kept w (with_book w b) Everywhere goes f;
  due = λ n x e. due_kept w (with_book w b) Everywhere goes f n x tt e;
  asked = all_marks_on w (with_book w b) (λ d. (same_client (w.clients d)).goes) f;
}
  where
    goes : GoesOn w (with_book w b) Everywhere
    goes = record {
      lent = λ n key o h. k.lent n key h;
      may_return = λ n o m. k.may_return n m;
      strikes = refl;
      links = λ n o. (same_link (w.links n)).keeps;
      clients = λ d. (same_client (w.clients d)).goes.keeps;
      goes_there = λ s h. tt;
    }

    here : LeaseFits (with_book w b) l (key_of (w.clients c)) own (w.links l).role
    here = subst (LeaseFits (with_book w b) l (key_of (w.clients c)) own) (sym lent)
        (record { came = subst HasCome (sym served) tt; key_is = refl }, told, λ key i. f.lent l c lent key (k.lent l key i))

    new_lease : (n : ℕ) (x y : KeyView) → l ≡ n → key_of (w.clients c) ≡ x → own ≡ y → LeaseFits (with_book w b) n x y (w.links n).role
    new_lease n x y p q t = subst (λ (z : KeyView). LeaseFits (with_book w b) n x z (w.links n).role) t
        (subst (λ (z : KeyView). LeaseFits (with_book w b) n z own (w.links n).role) q
        (subst (λ (i : ℕ). LeaseFits (with_book w b) i (key_of (w.clients c)) own (w.links i).role) p here))

-- ---- a cancel finds a lease

-- the strike goes to the lease's server, and fits there
struck_lease : (w : World) (b : Book) (l : ℕ) (client own : KeyView) (k : Strikes w.book client l own b) →
    (r : Role) → LeaseFits w l client own r → ((w.links l).server_key ≡ Some own) × HasLentKey w l × StrikeFits (with_book w b) l client r
struck_lease w b l client own k (Lent c) h = (h.1, h.2, (h.0, k.marks))
struck_lease w b l client own k Gone h = (h.0, h.1, tt)
struck_lease w b l client own k Unborn h = absurd h
struck_lease w b l client own k (Promised c) h = absurd h
struck_lease w b l client own k InReset h = absurd h
struck_lease w b l client own k Clean h = absurd h
struck_lease w b l client own k Idle h = absurd h

all_and : (P : Strike → Type 0) (ss : List Strike) (s : Strike) → AllByRecursion P ss → P s → AllByRecursion P (ss ++ s ∷ [])
all_and P [] s h p = (p, tt)
all_and P (t ∷ ss) s h p = (h.0, all_and P ss s h.1 p)

-- its login has stopped, whatever else it sends
pub has_asked : (w : World) (c : ℕ) (key : KeyView) → AreRelated w → Asks (w.clients c) key → HasAsked w key
has_asked w c key r a =
    let x = w.clients c in
    let h = fits_at c (LoggingIn a.read) r a.phase in
    record {
      client = c;
      came = subst HasCome (sym a.phase) tt;
      ended = ap (λ (b : List ℕ). (login x.row x.word b).ended) h.sent_is ∙ ap (λ (d : _). d.ended) (login_stopped x.row x.word a.read x.unread (Cancelling key) a.ended) ∙ a.ended;
    }

pub cancelled_keeps : (w : World) (b : Book) (l : ℕ) (client own : KeyView) (host : List ℕ) (port : ℕ) → CancelsFit w → HasAsked w client → Strikes w.book client l own b → IsPlaceOf w.book l host port →
    CancelsFit (with_book (sets_out w (record { client = client; server = own; host = host; port = port })) b)
cancelled_keeps w b l client own host port f a k p =
    let v = with_book w b in
    let s : Strike = record { client = client; server = own; host = host; port = port } in
    let g = event_keeps w b k.starts_nothing.lends_nothing f in
    let h = struck_lease w b l client own k (w.links l).role (f.leases l client own k.lease) in
    let same = h.1 p.key p.is_lent in
    strikes_change v (w.strikes ++ s ∷ []) g
    (all_and (IsOnItsWay v) w.strikes s g.strikes
    (record {
      link = l;
      goes = record { key = h.0; host = ap (λ (q : StartKeyOf). q.host) same ∙ p.host_is; port = ap (λ (q : StartKeyOf). q.port) same ∙ p.port_is };
      fits = h.2;
      asked = record { client = a.client; came = a.came; ended = a.ended };
    }))

-- ---- a link takes a new role, with no lease of it and no cancel for it

pub record Anew (w v : World) (l : ℕ) : Type 0 where
  pub lent : (n : ℕ) (key : StartKeyOf) → n ≢ l → HasLink n key v.book.lent → HasLink n key w.book.lent
  pub leases : (n : ℕ) (client server : KeyView) → HasLease n client server v.book.keyed → HasLease n client server w.book.keyed
  pub may_return : (n : ℕ) → n ≢ l → MayReturn n v.book → MayReturn n w.book
  pub strikes : v.strikes ≡ w.strikes
  -- the other links are as they were
  pub others : (n : ℕ) → n ≢ l → v.links n ≡ w.links n
  pub clients : (c : ℕ) → ClientKeeps (w.clients c) (v.clients c)
  pub starting : (c : ℕ) (own : StartKeyOf) (n : ℕ) → n ≢ l → (v.clients c).phase ≡ Starting own n → (w.clients c).phase ≡ Starting own n
  -- nothing is at it
  pub no_lease : (client server : KeyView) → HasLease l client server v.book.keyed → ⊥
  pub undue : (client : KeyView) → (v.links l).due ≡ Some client → ⊥
  pub no_strike : (s : Strike) (h : IsOnItsWay w s) → h.link ≡ l → ⊥
  -- what it is now
  pub lent_role : MayBeLent (v.links l).role
  pub lent_key : (c : ℕ) → (v.links l).role ≡ Lent c → HasLentKey v l
  pub promised : (c : ℕ) (own key : StartKeyOf) → (v.clients c).phase ≡ Starting own l → HasLink l key v.book.lent → own ≡ key

link_same : {y z : Link} → z ≡ y → LinkKeeps y z
link_same {y} {z} e = subst (LinkKeeps y) (sym e) (same_link y).keeps

module _ (w v : World) (l : ℕ) (a : Anew w v l) (f : CancelsFit w) where
  goes : GoesOn w v (λ n. n ≢ l)
  goes = record {
    lent = λ n key ne h. a.lent n key ne h;
    may_return = a.may_return;
    strikes = a.strikes;
    links = λ n ne. link_same (a.others n ne);
    clients = a.clients;
    goes_there = λ s h. a.no_strike s h;
  }

  pub fits_anew : ((m n : ℕ) (own : KeyView) → (v.links m).server_key ≡ Some own → (v.links n).server_key ≡ Some own → AreTogether (v.links m).key (v.links n).key → m ≡ n) →
      ((c : ℕ) → IsUnstruck (v.clients c).struck ⊎ HasAsked v (key_of (v.clients c))) → CancelsFit v
  fits_anew server_keys asked = record {
    lent_roles = λ n key h. ⊎_elim (λ g. subst (λ (i : ℕ). MayBeLent (v.links i).role) (sym g) a.lent_role)
        (λ ne. subst (λ (y : Link). MayBeLent y.role) (sym (a.others n ne)) (f.lent_roles n key (a.lent n key ne h))) (here_or_there n l);
    lent = λ n c e. ⊎_elim (λ g. subst (HasLentKey v) (sym g) (a.lent_key c (subst (λ (i : ℕ). (v.links i).role ≡ Lent c) g e)))
        (λ ne key h. ap (λ (y : Link). y.key) (a.others n ne) ∙ f.lent n c (sym (ap (λ (y : Link). y.role) (a.others n ne)) ∙ e) key (a.lent n key ne h)) (here_or_there n l);
    promised = λ n c own key e h. ⊎_elim (λ g. a.promised c own key (subst (λ (i : ℕ). (v.clients c).phase ≡ Starting own i) g e) (subst (λ (i : ℕ). HasLink i key v.book.lent) g h))
        (λ ne. f.promised n c own key (a.starting c own n ne e) (a.lent n key ne h)) (here_or_there n l);
    server_keys = server_keys;
    leases = λ n client server h. lease_kept w v (λ i. i ≢ l) goes f n client server (λ g. a.no_lease client server (subst (λ (i : ℕ). HasLease i client server v.book.keyed) g h)) (a.leases n client server h);
    strikes = strikes_kept w v (λ i. i ≢ l) goes f;
    due = λ n client e. let ne : n ≢ l = λ g. a.undue client (subst (λ (i : ℕ). (v.links i).due ≡ Some client) g e) in
        due_kept w v (λ i. i ≢ l) goes f n client ne (sym (ap (λ (y : Link). y.due) (a.others n ne)) ∙ e);
    asked = asked;
  }

-- ---- links at which nothing is

abbrev IsFree : Role → Type 0
IsFree (Lent c) = ⊥
IsFree Gone = ⊥
IsFree _ = Unit {0}

free_lease : (w : World) (l : ℕ) (client server : KeyView) (r : Role) → IsFree r → LeaseFits w l client server r → ⊥
free_lease w l client server Unborn h k = k
free_lease w l client server (Promised c) h k = k
free_lease w l client server (Lent c) h k = h
free_lease w l client server InReset h k = k
free_lease w l client server Clean h k = k
free_lease w l client server Idle h k = k
free_lease w l client server Gone h k = h

free_strike : (w : World) (l : ℕ) (client : KeyView) (r : Role) → IsFree r → StrikeFits w l client r → ⊥
free_strike w l client Unborn h k = k
free_strike w l client (Promised c) h k = k
free_strike w l client (Lent c) h k = h
free_strike w l client InReset h k = k
free_strike w l client Clean h k = k
free_strike w l client Idle h k = k
free_strike w l client Gone h k = h

record NothingAt (w : World) (l : ℕ) : Type 0 where
  leases : (client server : KeyView) → HasLease l client server w.book.keyed → ⊥
  due : (client : KeyView) → (w.links l).due ≡ Some client → ⊥
  strikes : (s : Strike) (h : IsOnItsWay w s) → h.link ≡ l → ⊥

nothing_at : (w : World) (l : ℕ) (r : Role) → CancelsFit w → (w.links l).role ≡ r → IsFree r → NothingAt w l
nothing_at w l r f e free = record {
  leases = λ client server h. free_lease w l client server (w.links l).role (subst IsFree (sym e) free) (f.leases l client server h);
  due = λ client d. free_strike w l client (w.links l).role (subst IsFree (sym e) free) (f.due l client d).0;
  strikes = λ s h g. free_strike w h.link s.client (w.links h.link).role (subst (λ (i : ℕ). IsFree (w.links i).role) (sym g) (subst IsFree (sym e) free)) h.fits;
}

turned : {a b : StartKeyOf} → AreTogether a b → AreTogether b a
turned t = record { host = sym t.host; port = sym t.port }

abbrev KeysApart : (ℕ → Link) → Type 0
KeysApart links = (m n : ℕ) (own : KeyView) → (links m).server_key ≡ Some own → (links n).server_key ≡ Some own → AreTogether (links m).key (links n).key → m ≡ n

keys_put : (links : ℕ → Link) (l : ℕ) (y : Link) → KeysApart links → ((n : ℕ) (own : KeyView) → n ≢ l → y.server_key ≡ Some own → (links n).server_key ≡ Some own → AreTogether y.key (links n).key → ⊥) → KeysApart (put links l y)
keys_put links l y old apart m n own =
    put_case (λ z. z.server_key ≡ Some own → (put links l y n).server_key ≡ Some own → AreTogether z.key (put links l y n).key → m ≡ n) links l y m
    (λ g. put_case (λ z. y.server_key ≡ Some own → z.server_key ≡ Some own → AreTogether y.key z.key → m ≡ n) links l y n (λ h e i t. g ∙ sym h) (λ ne e i t. absurd (apart n own ne e i t)))
    (λ ne. put_case (λ z. (links m).server_key ≡ Some own → z.server_key ≡ Some own → AreTogether (links m).key z.key → m ≡ n) links l y n (λ h e i t. absurd (apart m own ne i e (turned t))) (λ _ e i t. old m n own e i t))

-- a link with the key word that it had
same_apart : (w : World) (l : ℕ) → CancelsFit w → (n : ℕ) (own : KeyView) → n ≢ l → (w.links l).server_key ≡ Some own → (w.links n).server_key ≡ Some own → AreTogether (w.links l).key (w.links n).key → ⊥
same_apart w l f n own ne e i t = ne (sym (f.server_keys l n own e i t))

-- ---- a client gets a link, or is promised one

-- what becomes of the client and of the link
record Gets (w : World) (b : Book) (c : ℕ) (x : Client) (l : ℕ) (y : Link) : Type 0 where
  goes : ClientGoes (w.clients c) x
  starting : (own : StartKeyOf) (n : ℕ) → n ≢ l → x.phase ≡ Starting own n → (w.clients c).phase ≡ Starting own n
  undue : (client : KeyView) → y.due ≡ Some client → ⊥
  lent_role : MayBeLent y.role
  lent_key : (d : ℕ) → y.role ≡ Lent d → (key : StartKeyOf) → HasLink l key b.lent → y.key ≡ key
  promised : (own key : StartKeyOf) → x.phase ≡ Starting own l → HasLink l key b.lent → own ≡ key
  nobody : (d : ℕ) (own : StartKeyOf) → d ≢ c → (w.clients d).phase ≡ Starting own l → ⊥
  apart : (n : ℕ) (own : KeyView) → n ≢ l → y.server_key ≡ Some own → (w.links n).server_key ≡ Some own → AreTogether y.key (w.links n).key → ⊥

gets_anew : (w : World) (b : Book) (c : ℕ) (x : Client) (l : ℕ) (y : Link) (key : StartKeyOf) → CancelsFit w → NothingAt w l → LendsOne w.book l key b → Gets w b c x l y → CancelsFit (with_book (with_pair w c x l y) b)
gets_anew w b c x l y key f none k g =
    let v = with_book (with_pair w c x l y) b in
    let is : put w.links l y l ≡ y = put_same w.links l y in
    let all : (i : ℕ) → ClientGoes (w.clients i) (put w.clients c x i) = put_all (λ i z. ClientGoes (w.clients i) z) w.clients c x g.goes (λ i _. (same_client (w.clients i)).goes) in
    fits_anew w v l
    (record {
      lent = λ n q ne h. ⊎_elim (λ old. old) (λ e. absurd (ne (sym e.0))) (k.lent n q h);
      leases = k.leases;
      may_return = λ n ne m. ⊎_elim (λ old. old) (λ e. absurd (ne (sym e))) (k.may_return n m);
      strikes = refl;
      others = λ n ne. put_other w.links l y n ne;
      clients = λ i. (all i).keeps;
      starting = put_all (λ i z. (own : StartKeyOf) (n : ℕ) → n ≢ l → z.phase ≡ Starting own n → (w.clients i).phase ≡ Starting own n) w.clients c x g.starting (λ i _ own n ne e. e);
      no_lease = λ client server h. none.leases client server (k.leases l client server h);
      undue = λ client e. g.undue client (sym (ap (λ (z : Link). z.due) is) ∙ e);
      no_strike = none.strikes;
      lent_role = subst (λ (z : Link). MayBeLent z.role) (sym is) g.lent_role;
      lent_key = λ d e q h. ap (λ (z : Link). z.key) is ∙ g.lent_key d (sym (ap (λ (z : Link). z.role) is) ∙ e) q h;
      promised = λ d own q. put_case (λ z. z.phase ≡ Starting own l → HasLink l q b.lent → own ≡ q) w.clients c x d (λ _ e h. g.promised own q e h) (λ ne e h. absurd (g.nobody d own ne e));
    })
    f (keys_put w.links l y f.server_keys g.apart) (all_marks_on w v all f)

-- to a phase that isn't of a start
goes_on : (x z : Client) → HasCome z.phase → key_of z ≡ key_of x → z.struck ≡ x.struck → ((key : KeyView) → (login x.row x.word x.sent).ended ≡ Stopped (Cancelling key) → (login z.row z.word z.sent).ended ≡ Stopped (Cancelling key)) → ClientGoes x z
goes_on x z came word struck asked = record { keeps = record { came = λ h. came; word = λ h. word; asked = λ key h e. asked key e }; marks = inr (struck, word) }

served_starting : {A : Type 0} (l : ℕ) (own : StartKeyOf) (n : ℕ) → Served l ≡ Starting own n → A
served_starting l own n e = absurd (go e)
  where
    go : Served l ≡ Starting own n → ⊥
    go p = cc

-- an idle link is lent
pub lent_anew : (w : World) (b : Book) (c m l : ℕ) (key : StartKeyOf) (s : State) → CancelsFit w → (w.clients c).phase ≡ Waiting key → (w.links l).role ≡ Idle → (k : Lends w.book m l b) → (w.links l).key ≡ k.key →
    ((d : ℕ) (own : StartKeyOf) → (w.clients d).phase ≡ Starting own l → ⊥) → CancelsFit (with_book (with_pair w c (gets_link (w.clients c) l s) l (in_role (w.links l) (Lent c))) b)
lent_anew w b c m l key s f waits idle k same nobody =
    let none = nothing_at w l Idle f idle tt in
    let x = gets_link (w.clients c) l s in
    gets_anew w b c x l (in_role (w.links l) (Lent c)) k.key f none k.lends_one
    (record {
      goes = goes_on (w.clients c) x tt refl refl (λ q e. e);
      starting = λ own n ne e. served_starting l own n e;
      undue = none.due;
      lent_role = tt;
      lent_key = λ d e q h. ⊎_elim (λ old. absurd (subst MayBeLent idle (f.lent_roles l q old))) (λ new. same ∙ new.1) (k.lends_one.lent l q h);
      promised = λ own q e h. served_starting l own l e;
      nobody = λ d own ne e. nobody d own e;
      apart = same_apart w l f;
    })

-- a link number is promised
pub promised_anew : (w : World) (b : Book) (c m l : ℕ) (key : StartKeyOf) → CancelsFit w → (w.clients c).phase ≡ Waiting key → (w.links l).role ≡ Unborn → (k : Starts w.book m l b) → k.key ≡ key →
    ((d : ℕ) (own : StartKeyOf) → (w.clients d).phase ≡ Starting own l → ⊥) → CancelsFit (with_book (promised w c l key) b)
promised_anew w b c m l key f waits unborn k same nobody =
    let none = nothing_at w l Unborn f unborn tt in
    let x = in_phase (w.clients c) (Starting key l) in
    gets_anew w b c x l (in_role (w.links l) (Promised c)) k.key f none k.lends_one
    (record {
      goes = goes_on (w.clients c) x tt refl refl (λ q e. e);
      starting = λ own n ne e. absurd (ne (sym (same_number own n e)));
      undue = none.due;
      lent_role = tt;
      lent_key = λ d e. absurd (promised_lent d e);
      promised = λ own q e h. ⊎_elim (λ old. absurd (subst MayBeLent unborn (f.lent_roles l q old))) (λ new. sym (same_own own e) ∙ sym same ∙ new.1) (k.lends_one.lent l q h);
      nobody = λ d own ne e. nobody d own e;
      apart = same_apart w l f;
    })
  where
    same_number : (own : StartKeyOf) (n : ℕ) → Starting key l ≡ Starting own n → l ≡ n
    same_number own n e = cc

    same_own : (own : StartKeyOf) → Starting key l ≡ Starting own l → key ≡ own
    same_own own e = cc

    promised_lent : (d : ℕ) → Promised c ≡ Lent d → ⊥
    promised_lent d e = cc

-- ---- starts

lends_again : (b : Book) (l : ℕ) (key : StartKeyOf) → LendsOne b l key b
lends_again b l key = record { lent = λ n k h. inl h; leases = λ n c s h. h; may_return = λ n m. inl m }

pub started_anew : (w : World) (c l : ℕ) (key : StartKeyOf) (own : KeyView) (s : State) → CancelsFit w → (w.clients c).phase ≡ Starting key l → (w.links l).role ≡ Promised c → IsNewKey w key own →
    ((d : ℕ) (other : StartKeyOf) → d ≢ c → (w.clients d).phase ≡ Starting other l → ⊥) → CancelsFit (with_pair w c (gets_link (w.clients c) l s) l (newborn c key own s))
started_anew w c l key own s f starting role new nobody =
    let x = gets_link (w.clients c) l s in
    gets_anew w w.book c x l (newborn c key own s) key f (nothing_at w l (Promised c) f role tt) (lends_again w.book l key)
    (record {
      goes = goes_on (w.clients c) x tt refl refl (λ q e. e);
      starting = λ other n ne e. served_starting l other n e;
      undue = λ client e. none-some client e;
      lent_role = tt;
      lent_key = λ d e q h. f.promised l c key q starting h;
      promised = λ other q e h. served_starting l other l e;
      nobody = nobody;
      apart = λ n told ne e i t. new n (i ∙ sym e) (turned t);
    })

-- ---- a link returns

-- no cancel came to it, and none is on its way to it
pub record IsLeftAlone (w : World) (l : ℕ) : Type 0 where
  pub undue : (client : KeyView) → (w.links l).due ≡ Some client → ⊥
  pub no_strike : (s : Strike) (h : IsOnItsWay w s) → h.link ≡ l → ⊥

pub alone_if_returns : (w : World) (c l : ℕ) → CancelsFit w → (w.links l).role ≡ Lent c → MayReturn l w.book → IsLeftAlone w l
alone_if_returns w c l f e m = record {
  undue = λ client d. (subst (StrikeFits w l client) e (f.due l client d).0).1 m;
  no_strike = λ s h g. (subst (StrikeFits w l s.client) e (subst (λ (i : ℕ). StrikeFits w i s.client (w.links i).role) g h.fits)).1 m;
}

pub returned_anew : (w : World) (b : Book) (c l : ℕ) (y : Link) → CancelsFit w → (w.links l).role ≡ Lent c → Releases w.book l b → MayBeLent y.role → ((d : ℕ) → y.role ≡ Lent d → ⊥) → y.key ≡ (w.links l).key → y.server_key ≡ (w.links l).server_key → y.due ≡ (w.links l).due →
    ((d : ℕ) (own : StartKeyOf) → (w.clients d).phase ≡ Starting own l → ⊥) → CancelsFit (with_book (with_link w l y) b)
returned_anew w b c l y f lent k role not_lent key told due nobody =
    let v = with_book (with_link w l y) b in
    let alone = alone_if_returns w c l f lent k.could_return in
    let none = k.starts_nothing.lends_nothing in
    let is : put w.links l y l ≡ y = put_same w.links l y in
    fits_anew w v l
    (record {
      lent = λ n q ne h. none.lent n q h;
      leases = none.leases;
      may_return = λ n ne m. none.may_return n m;
      strikes = refl;
      others = λ n ne. put_other w.links l y n ne;
      clients = λ i. (same_client (w.clients i)).goes.keeps;
      starting = λ i own n ne e. e;
      no_lease = k.no_lease;
      undue = λ client e. alone.undue client (sym due ∙ sym (ap (λ (z : Link). z.due) is) ∙ e);
      no_strike = alone.no_strike;
      lent_role = subst (λ (z : Link). MayBeLent z.role) (sym is) role;
      lent_key = λ d e. absurd (not_lent d (sym (ap (λ (z : Link). z.role) is) ∙ e));
      promised = λ d own q e h. absurd (nobody d own e);
    })
    f
    (keys_put w.links l y f.server_keys (λ n own ne e i t. same_apart w l f n own ne (sym told ∙ e) i (record { host = sym (ap (λ (q : StartKeyOf). q.host) key) ∙ t.host; port = sym (ap (λ (q : StartKeyOf). q.port) key) ∙ t.port })))
    (all_marks_on w v (λ i. (same_client (w.clients i)).goes) f)

-- ---- a link is given back, or thrown away

pub thrown : (w : World) (l : ℕ) → CancelsFit w → CancelsFit (gone w l)
thrown w l f = link_goes w f l (in_role (w.links l) Gone) (record { key = refl; server_key = refl; role = is_thrown }) (λ client e. e) (λ key h. tt)

pub given_back : (w : World) (b : Book) (l : ℕ) (key : StartKeyOf) → CancelsFit w → (w.links l).role ≡ Clean → TakesBack w.book l key b → CancelsFit (with_book (with_link w l (in_role (w.links l) Idle)) b)
given_back w b l key f e k =
    link_goes (with_book w b) (event_keeps w b k.lends_nothing f) l (in_role (w.links l) Idle) (record { key = refl; server_key = refl; role = subst (λ (r : Role). RoleGoes r Idle) (sym e) comes_back }) (λ client d. d) (λ q h. absurd (k.not_lent q h))

pub reset : (w : World) (l : ℕ) → CancelsFit w → (w.links l).role ≡ InReset → CancelsFit (with_link w l (at_clean_point (w.links l) Clean))
reset w l f e = link_goes w f l (at_clean_point (w.links l) Clean) (record { key = refl; server_key = refl; role = subst (λ (r : Role). RoleGoes r Clean) (sym e) is_renewed }) (λ client d. d) (λ key h. tt)
