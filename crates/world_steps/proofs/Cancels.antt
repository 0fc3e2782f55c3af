-- Leases and cancels under a step that lends nothing anew: each link goes on, or is thrown away.
use Rattle.std.proofs.Common.{◌≡◌, ℕ, List, [], ◌∷◌, ◌++◌, ◌⊎◌, inl, inr, ⊎_elim, refl, sym, ap, ◌∙◌, subst, Option, Some}
use Rattle.std.specs.List.{AllByRecursion}
use Rattle.message_view.specs.declared.views.KeyView.{KeyView}
use Rattle.session_values.specs.State.{StartKeyOf}
use Rattle.login_core.specs.Talk.End.{Stopped}
use Rattle.login_core.specs.Dialogue.{Cancelling, login}
use Rattle.book_model.specs.Book.{Book}
use Rattle.book_model.specs.Laws.{HasLease, HasLink, LendsNothing, MayReturn}
use Rattle.world_steps.specs.Clients.{Client, HasCome, IsUnstruck, key_of}
use Rattle.world_steps.specs.Clients.Phase.{Starting}
use Rattle.world_steps.specs.Links.{Link, Role}
use Rattle.world_steps.specs.Links.Role.{Unborn, Promised, Lent, InReset, Clean, Idle, Gone}
use Rattle.world_steps.specs.Worlds.{AreTogether, HasAsked, IsFor, Strike, World, put, with_client, with_link, with_pair, with_strikes}
use Rattle.world_steps.specs.Relation.{CancelsFit, HasLentKey, IsOfClient, IsOnItsWay, LeaseFits, MayBeLent, StrikeFits}
use Rattle.world_steps.proofs.Changes.{due_for}
use Rattle.world_steps.proofs.Put.{put_all, put_case}

-- ---- how a link and a client go on

pub data RoleGoes : Role → Role → Type 0 where
  stays : {r : Role} → RoleGoes r r
  is_thrown : {r : Role} → RoleGoes r Gone
  is_renewed : RoleGoes InReset Clean
  comes_back : RoleGoes Clean Idle

pub record LinkKeeps (y z : Link) : Type 0 where
  pub key : z.key ≡ y.key
  pub server_key : z.server_key ≡ y.server_key
  pub role : RoleGoes y.role z.role

-- and no cancel came
pub record LinkStays (y z : Link) : Type 0 where
  pub keeps : LinkKeeps y z
  pub due : (client : KeyView) → z.due ≡ Some client → y.due ≡ Some client
  pub lent : MayBeLent y.role → MayBeLent z.role

pub record ClientKeeps (x z : Client) : Type 0 where
  pub came : HasCome x.phase → HasCome z.phase
  pub word : HasCome x.phase → key_of z ≡ key_of x
  pub asked : (key : KeyView) → HasCome x.phase → (login x.row x.word x.sent).ended ≡ Stopped (Cancelling key) → (login z.row z.word z.sent).ended ≡ Stopped (Cancelling key)

-- and no cancel struck a frame
pub record ClientGoes (x z : Client) : Type 0 where
  pub keeps : ClientKeeps x z
  pub marks : IsUnstruck z.struck ⊎ ((z.struck ≡ x.struck) × (key_of z ≡ key_of x))

-- and it waits for no other link's start
pub record ClientStays (x z : Client) : Type 0 where
  pub goes : ClientGoes x z
  pub starting : (own : StartKeyOf) (n : ℕ) → z.phase ≡ Starting own n → x.phase ≡ Starting own n

pub same_link : (y : Link) → LinkStays y y
same_link y = record { keeps = record { key = refl; server_key = refl; role = stays }; due = λ k e. e; lent = λ h. h }

pub same_client : (x : Client) → ClientStays x x
same_client x = record { goes = record { keeps = record { came = λ h. h; word = λ h. refl; asked = λ k h e. e }; marks = inr (refl, refl) }; starting = λ own n e. e }

-- ---- what goes on: at all other links, with all leases and cancels at these

pub record GoesOn (w v : World) (Other : ℕ → Type 0) : Type 0 where
  pub lent : (n : ℕ) (key : StartKeyOf) → Other n → HasLink n key v.book.lent → HasLink n key w.book.lent
  pub may_return : (n : ℕ) → Other n → MayReturn n v.book → MayReturn n w.book
  pub strikes : v.strikes ≡ w.strikes
  pub links : (n : ℕ) → Other n → LinkKeeps (w.links n) (v.links n)
  pub clients : (c : ℕ) → ClientKeeps (w.clients c) (v.clients c)
  pub goes_there : (s : Strike) (h : IsOnItsWay w s) → Other h.link

of_client_on : (x z : Client) (key : KeyView) → ClientKeeps x z → IsOfClient x key → IsOfClient z key
of_client_on x z key k h = record { came = k.came h.came; key_is = k.word h.came ∙ h.key_is }

pub asked_on : (w v : World) (key : KeyView) → ((c : ℕ) → ClientKeeps (w.clients c) (v.clients c)) → HasAsked w key → HasAsked v key
asked_on w v key k h = record { client = h.client; came = (k h.client).came h.came; ended = (k h.client).asked key h.came h.ended }

-- at one link
module _ (w v : World) (clients : (c : ℕ) → ClientKeeps (w.clients c) (v.clients c)) (l : ℕ) where
  lent_key_on : LinkKeeps (w.links l) (v.links l) → ((key : StartKeyOf) → HasLink l key v.book.lent → HasLink l key w.book.lent) → HasLentKey w l → HasLentKey v l
  lent_key_on k lent h = λ key i. k.key ∙ h key (lent key i)

  lease_on : (client server : KeyView) → LinkKeeps (w.links l) (v.links l) → ((key : StartKeyOf) → HasLink l key v.book.lent → HasLink l key w.book.lent) →
      (r s : Role) → RoleGoes r s → LeaseFits w l client server r → LeaseFits v l client server s
  lease_on client server k lent (Lent c) _ stays h = (of_client_on (w.clients c) (v.clients c) client (clients c) h.0, k.server_key ∙ h.1, lent_key_on k lent h.2)
  lease_on client server k lent Gone _ stays h = (k.server_key ∙ h.0, lent_key_on k lent h.1)
  lease_on client server k lent Unborn _ stays h = absurd h
  lease_on client server k lent (Promised c) _ stays h = absurd h
  lease_on client server k lent InReset _ stays h = absurd h
  lease_on client server k lent Clean _ stays h = absurd h
  lease_on client server k lent Idle _ stays h = absurd h
  lease_on client server k lent (Lent c) _ is_thrown h = (k.server_key ∙ h.1, lent_key_on k lent h.2)
  lease_on client server k lent Gone _ is_thrown h = (k.server_key ∙ h.0, lent_key_on k lent h.1)
  lease_on client server k lent Unborn _ is_thrown h = absurd h
  lease_on client server k lent (Promised c) _ is_thrown h = absurd h
  lease_on client server k lent InReset _ is_thrown h = absurd h
  lease_on client server k lent Clean _ is_thrown h = absurd h
  lease_on client server k lent Idle _ is_thrown h = absurd h
  lease_on client server k lent _ _ is_renewed h = absurd h
  lease_on client server k lent _ _ comes_back h = absurd h

  pub strike_on : (client : KeyView) → (MayReturn l v.book → MayReturn l w.book) → (r s : Role) → RoleGoes r s → StrikeFits w l client r → StrikeFits v l client s
  strike_on client may (Lent c) _ stays h = (of_client_on (w.clients c) (v.clients c) client (clients c) h.0, λ m. h.1 (may m))
  strike_on client may Gone _ stays h = tt
  strike_on client may Unborn _ stays h = absurd h
  strike_on client may (Promised c) _ stays h = absurd h
  strike_on client may InReset _ stays h = absurd h
  strike_on client may Clean _ stays h = absurd h
  strike_on client may Idle _ stays h = absurd h
  strike_on client may r _ is_thrown h = tt
  strike_on client may _ _ is_renewed h = absurd h
  strike_on client may _ _ comes_back h = absurd h

for_on : (s : Strike) (y z : Link) → LinkKeeps y z → IsFor s y → IsFor s z
for_on s y z k h = record { key = k.server_key ∙ h.key; host = ap (λ (q : StartKeyOf). q.host) k.key ∙ h.host; port = ap (λ (q : StartKeyOf). q.port) k.key ∙ h.port }

pub all_on : (P Q : Strike → Type 0) → ((s : Strike) → P s → Q s) → (ss : List Strike) → AllByRecursion P ss → AllByRecursion Q ss
all_on P Q f [] h = tt
all_on P Q f (s ∷ ss) h = (f s h.0, all_on P Q f ss h.1)

-- at all links
module _ (w v : World) (Other : ℕ → Type 0) (g : GoesOn w v Other) (f : CancelsFit w) where
  pub lease_kept : (n : ℕ) (client server : KeyView) → Other n → HasLease n client server w.book.keyed → LeaseFits v n client server (v.links n).role
  lease_kept n client server o h =
      let k = g.links n o in
      lease_on w v g.clients n client server k (λ key i. g.lent n key o i) (w.links n).role (v.links n).role k.role (f.leases n client server h)

  way_on : (s : Strike) → IsOnItsWay w s → IsOnItsWay v s
  way_on s h =
      let o = g.goes_there s h in
      let k = g.links h.link o in
      record {
        link = h.link;
        goes = for_on s (w.links h.link) (v.links h.link) k h.goes;
        fits = strike_on w v g.clients h.link s.client (g.may_return h.link o) (w.links h.link).role (v.links h.link).role k.role h.fits;
        asked = asked_on w v s.client g.clients h.asked;
      }

  pub strikes_kept : AllByRecursion (IsOnItsWay v) v.strikes
  strikes_kept = subst (AllByRecursion (IsOnItsWay v)) (sym g.strikes) (all_on (IsOnItsWay w) (IsOnItsWay v) way_on w.strikes f.strikes)

  pub due_kept : (n : ℕ) (client : KeyView) → Other n → (w.links n).due ≡ Some client → StrikeFits v n client (v.links n).role × HasAsked v client
  due_kept n client o e =
      let k = g.links n o in
      let p = f.due n client e in
      (strike_on w v g.clients n client (g.may_return n o) (w.links n).role (v.links n).role k.role p.0, asked_on w v client g.clients p.1)

-- ---- the marks of clients

marks_on : (w v : World) (x z : Client) → ClientGoes x z → ((key : KeyView) → HasAsked w key → HasAsked v key) → IsUnstruck x.struck ⊎ HasAsked w (key_of x) → IsUnstruck z.struck ⊎ HasAsked v (key_of z)
marks_on w v x z k on h =
    ⊎_elim (λ none. inl none)
    (λ same. ⊎_elim (λ none. inl (subst IsUnstruck (sym same.0) none)) (λ a. inr (subst (HasAsked v) (sym same.1) (on (key_of x) a))) h) k.marks

pub all_marks_on : (w v : World) → ((c : ℕ) → ClientGoes (w.clients c) (v.clients c)) → CancelsFit w → (c : ℕ) → IsUnstruck (v.clients c).struck ⊎ HasAsked v (key_of (v.clients c))
all_marks_on w v k f c = marks_on w v (w.clients c) (v.clients c) (k c) (λ key a. asked_on w v key (λ d. (k d).keeps) a) (f.asked c)

-- ---- the keys of servers

pub together_on : (w v : World) (l m : ℕ) → (v.links l).key ≡ (w.links l).key → (v.links m).key ≡ (w.links m).key → AreTogether (v.links l).key (v.links m).key → AreTogether (w.links l).key (w.links m).key
together_on w v l m p q t = record {
  host = sym (ap (λ (k : StartKeyOf). k.host) p) ∙ t.host ∙ ap (λ (k : StartKeyOf). k.host) q;
  port = sym (ap (λ (k : StartKeyOf). k.port) p) ∙ t.port ∙ ap (λ (k : StartKeyOf). k.port) q;
}

-- ---- where no link is lent or keyed, or may return, that wasn't, or mightn't, before

pub record LendsNothingNew (w v : World) : Type 0 where
  pub book : LendsNothing w.book v.book
  pub strikes : v.strikes ≡ w.strikes
  pub links : (l : ℕ) → LinkKeeps (w.links l) (v.links l)
  pub lent_roles : (n : ℕ) (key : StartKeyOf) → HasLink n key v.book.lent → MayBeLent (v.links n).role
  pub clients : (c : ℕ) → ClientKeeps (w.clients c) (v.clients c)
  pub starting : (c : ℕ) (own : StartKeyOf) (n : ℕ) → (v.clients c).phase ≡ Starting own n → (w.clients c).phase ≡ Starting own n

abbrev pub Everywhere : ℕ → Type 0
Everywhere n = Unit {0}

everywhere : (w v : World) → LendsNothingNew w v → GoesOn w v Everywhere
everywhere w v k = record {
  lent = λ n key o h. k.book.lent n key h;
  may_return = λ n o m. k.book.may_return n m;
  strikes = k.strikes;
  links = λ n o. k.links n;
  clients = k.clients;
  goes_there = λ s h. tt;
}

was_lent : (r : Role) (c : ℕ) → RoleGoes r (Lent c) → r ≡ Lent c
was_lent r c stays = refl

module _ (w v : World) (k : LendsNothingNew w v) (f : CancelsFit w) where
  pub due_on : (n : ℕ) (client : KeyView) → (w.links n).due ≡ Some client → StrikeFits v n client (v.links n).role × HasAsked v client
  due_on n client e = due_kept w v Everywhere (everywhere w v k) f n client tt e

  -- with marks and cancels at servers that are told apart
  pub fits_on : ((c : ℕ) → IsUnstruck (v.clients c).struck ⊎ HasAsked v (key_of (v.clients c))) → ((n : ℕ) (client : KeyView) → (v.links n).due ≡ Some client → StrikeFits v n client (v.links n).role × HasAsked v client) → CancelsFit v
  fits_on asked due = record {
    lent_roles = k.lent_roles;
    lent = λ n c e key h. (k.links n).key ∙ f.lent n c (was_lent (w.links n).role c (subst (RoleGoes (w.links n).role) e (k.links n).role)) key (k.book.lent n key h);
    promised = λ n c own key e h. f.promised n c own key (k.starting c own n e) (k.book.lent n key h);
    server_keys = λ l m own e g t. f.server_keys l m own (sym (k.links l).server_key ∙ e) (sym (k.links m).server_key ∙ g) (together_on w v l m (k.links l).key (k.links m).key t);
    leases = λ n client server h. lease_kept w v Everywhere (everywhere w v k) f n client server tt (k.book.leases n client server h);
    strikes = strikes_kept w v Everywhere (everywhere w v k) f;
    due = due;
    asked = asked;
  }

pub lends_same : (b : Book) → LendsNothing b b
lends_same b = record { lent = λ n k h. h; leases = λ n c s h. h; may_return = λ n m. m }

-- one client changes, or one link, or both
module _ (w : World) (f : CancelsFit w) where
  pub client_keeps : (c : ℕ) (x : Client) → ClientStays (w.clients c) x → CancelsFit (with_client w c x)
  client_keeps c x h =
      let v = with_client w c x in
      let all : (i : ℕ) → ClientStays (w.clients i) (put w.clients c x i) = put_all (λ i z. ClientStays (w.clients i) z) w.clients c x h (λ i _. same_client (w.clients i)) in
      let k : LendsNothingNew w v = record { book = lends_same w.book; strikes = refl; links = λ l. (same_link (w.links l)).keeps; lent_roles = f.lent_roles; clients = λ i. (all i).goes.keeps; starting = λ i. (all i).starting } in
      fits_on w v k f (all_marks_on w v (λ i. (all i).goes) f) (due_on w v k f)

  links_put_on : (l : ℕ) (y : Link) → LinkKeeps (w.links l) y → (i : ℕ) → LinkKeeps (w.links i) (put w.links l y i)
  links_put_on l y h = put_all (λ i z. LinkKeeps (w.links i) z) w.links l y h (λ i _. (same_link (w.links i)).keeps)

  due_put_on : (l : ℕ) (y : Link) → ((client : KeyView) → y.due ≡ Some client → (w.links l).due ≡ Some client) → (n : ℕ) (client : KeyView) → (put w.links l y n).due ≡ Some client → (w.links n).due ≡ Some client
  due_put_on l y h = put_all (λ i z. (client : KeyView) → z.due ≡ Some client → (w.links i).due ≡ Some client) w.links l y h (λ i _ client e. e)

  roles_put_on : (l : ℕ) (y : Link) → ((key : StartKeyOf) → HasLink l key w.book.lent → MayBeLent y.role) → (n : ℕ) (key : StartKeyOf) → HasLink n key w.book.lent → MayBeLent (put w.links l y n).role
  roles_put_on l y h = put_all (λ i z. (key : StartKeyOf) → HasLink i key w.book.lent → MayBeLent z.role) w.links l y h (λ i _ key t. f.lent_roles i key t)

  -- with cancels at servers that are told apart
  link_due : (l : ℕ) (y : Link) → LinkKeeps (w.links l) y → ((key : StartKeyOf) → HasLink l key w.book.lent → MayBeLent y.role) →
      (LendsNothingNew w (with_link w l y) → (n : ℕ) (client : KeyView) → (put w.links l y n).due ≡ Some client → StrikeFits (with_link w l y) n client (put w.links l y n).role × HasAsked (with_link w l y) client) → CancelsFit (with_link w l y)
  link_due l y h lent due =
      let v = with_link w l y in
      let k : LendsNothingNew w v = record { book = lends_same w.book; strikes = refl; links = links_put_on l y h; lent_roles = roles_put_on l y lent; clients = λ i. (same_client (w.clients i)).goes.keeps; starting = λ i own n e. e } in
      fits_on w v k f (all_marks_on w v (λ i. (same_client (w.clients i)).goes) f) (due k)

  -- with a role in which it may not be lent
  pub link_goes : (l : ℕ) (y : Link) → LinkKeeps (w.links l) y → ((client : KeyView) → y.due ≡ Some client → (w.links l).due ≡ Some client) → ((key : StartKeyOf) → HasLink l key w.book.lent → MayBeLent y.role) → CancelsFit (with_link w l y)
  link_goes l y h due lent = link_due l y h lent (λ k n client e. due_on w (with_link w l y) k f n client (due_put_on l y due n client e))

  pub link_keeps : (l : ℕ) (y : Link) → LinkStays (w.links l) y → CancelsFit (with_link w l y)
  link_keeps l y h = link_goes l y h.keeps h.due (λ key t. h.lent (f.lent_roles l key t))

  -- with marks that are told apart
  pub pair_marked : (c : ℕ) (x : Client) (l : ℕ) (y : Link) → ClientKeeps (w.clients c) x → ((own : StartKeyOf) (n : ℕ) → x.phase ≡ Starting own n → (w.clients c).phase ≡ Starting own n) →
      LinkStays (w.links l) y → (IsUnstruck (w.clients c).struck ⊎ HasAsked w (key_of (w.clients c)) → IsUnstruck x.struck ⊎ HasAsked w (key_of x)) → CancelsFit (with_pair w c x l y)
  pair_marked c x l y h starting j marks =
      let v = with_pair w c x l y in
      let keeps : (i : ℕ) → ClientKeeps (w.clients i) (put w.clients c x i) = put_all (λ i z. ClientKeeps (w.clients i) z) w.clients c x h (λ i _. (same_client (w.clients i)).goes.keeps) in
      let on : (key : KeyView) → HasAsked w key → HasAsked v key = λ key a. asked_on w v key keeps a in
      let k : LendsNothingNew w v = record {
        book = lends_same w.book;
        strikes = refl;
        links = links_put_on l y j.keeps;
        lent_roles = roles_put_on l y (λ key t. j.lent (f.lent_roles l key t));
        clients = keeps;
        starting = put_all (λ i z. (own : StartKeyOf) (n : ℕ) → z.phase ≡ Starting own n → (w.clients i).phase ≡ Starting own n) w.clients c x starting (λ i _ own n e. e);
      } in
      fits_on w v k f
      (put_all (λ i z. IsUnstruck z.struck ⊎ HasAsked v (key_of z)) w.clients c x (⊎_elim (λ none. inl none) (λ a. inr (on (key_of x) a)) (marks (f.asked c)))
      (λ i _. ⊎_elim (λ none. inl none) (λ a. inr (on (key_of (w.clients i)) a)) (f.asked i)))
      (λ n client e. due_on w v k f n client (due_put_on l y j.due n client e))

  pub pair_keeps : (c : ℕ) (x : Client) (l : ℕ) (y : Link) → ClientStays (w.clients c) x → LinkStays (w.links l) y → CancelsFit (with_pair w c x l y)
  pair_keeps c x l y k j = pair_marked c x l y k.goes.keeps k.starting j (λ h. marks_on w w (w.clients c) x k.goes (λ key a. a) h)

-- ---- other cancels are on their way

-- what isn't read of a world may change
module _ (w : World) (strikes : List Strike) where
  pub same_asked : (key : KeyView) → HasAsked w key → HasAsked (with_strikes w strikes) key
  same_asked key a = record { client = a.client; came = a.came; ended = a.ended }

  pub same_fit : (l : ℕ) (client : KeyView) (r : Role) → StrikeFits w l client r → StrikeFits (with_strikes w strikes) l client r
  same_fit l client (Lent c) h = h
  same_fit l client Gone h = h
  same_fit l client Unborn h = h
  same_fit l client (Promised c) h = h
  same_fit l client InReset h = h
  same_fit l client Clean h = h
  same_fit l client Idle h = h

  same_lease : (l : ℕ) (client server : KeyView) (r : Role) → LeaseFits w l client server r → LeaseFits (with_strikes w strikes) l client server r
  same_lease l client server (Lent c) h = h
  same_lease l client server Gone h = h
  same_lease l client server Unborn h = h
  same_lease l client server (Promised c) h = h
  same_lease l client server InReset h = h
  same_lease l client server Clean h = h
  same_lease l client server Idle h = h

  same_way : (s : Strike) → IsOnItsWay w s → IsOnItsWay (with_strikes w strikes) s
  same_way s h = record { link = h.link; goes = h.goes; fits = same_fit h.link s.client (w.links h.link).role h.fits; asked = same_asked s.client h.asked }

  pub strikes_change : CancelsFit w → AllByRecursion (IsOnItsWay w) strikes → CancelsFit (with_strikes w strikes)
  strikes_change f h = record {
    lent_roles = f.lent_roles;
    lent = f.lent;
    promised = f.promised;
    server_keys = f.server_keys;
    leases = λ n x y i. same_lease n x y (w.links n).role (f.leases n x y i);
    strikes = all_on (IsOnItsWay w) (IsOnItsWay (with_strikes w strikes)) same_way strikes h;
    due = λ l x e. let p = f.due l x e in (same_fit l x (w.links l).role p.0, same_asked x p.1);
    asked = λ c. ⊎_elim (λ none. inl none) (λ a. inr (same_asked (key_of (w.clients c)) a)) (f.asked c);
  }

-- ---- a cancel that is on its way

-- any link that it is for is the one that it goes to
pub goes_there : (w : World) (l : ℕ) (s : Strike) → CancelsFit w → IsOnItsWay w s → IsFor s (w.links l) → StrikeFits w l s.client (w.links l).role
goes_there w l s f h g =
    subst (λ (i : ℕ). StrikeFits w i s.client (w.links i).role)
    (f.server_keys h.link l s.server h.goes.key g.key (record { host = h.goes.host ∙ sym g.host; port = h.goes.port ∙ sym g.port })) h.fits

pub at_middle : (P : Strike → Type 0) (before later : List Strike) (s : Strike) → AllByRecursion P (before ++ s ∷ later) → P s × AllByRecursion P (before ++ later)
at_middle P [] later s h = (h.0, h.1)
at_middle P (t ∷ before) later s h = let r = at_middle P before later s h.1 in (r.0, (h.0, r.1))

some_same : {a b : KeyView} → ◌≡◌ {A = Option KeyView} (Some a) (Some b) → a ≡ b
some_same e = cc

-- it comes to a server, where it fits
pub strike_comes : (w : World) (l : ℕ) (client : KeyView) → CancelsFit w → StrikeFits w l client (w.links l).role → HasAsked w client → CancelsFit (with_link w l (due_for (w.links l) client))
strike_comes w l client f fit asked = link_due w f l (due_for (w.links l) client) (record { key = refl; server_key = refl; role = stays }) (f.lent_roles l) comes
  where
    same : (i : ℕ) → ClientKeeps (w.clients i) (w.clients i)
    same i = (same_client (w.clients i)).goes.keeps

    comes : LendsNothingNew w (with_link w l (due_for (w.links l) client)) → (n : ℕ) (key : KeyView) → (put w.links l (due_for (w.links l) client) n).due ≡ Some key →
        StrikeFits (with_link w l (due_for (w.links l) client)) n key (put w.links l (due_for (w.links l) client) n).role × HasAsked (with_link w l (due_for (w.links l) client)) key
    comes k n key =
        let v = with_link w l (due_for (w.links l) client) in
        put_case (λ z. z.due ≡ Some key → StrikeFits v n key z.role × HasAsked v key) w.links l (due_for (w.links l) client) n
        (λ g e. subst (λ (q : KeyView). StrikeFits v n q (w.links l).role × HasAsked v q) (some_same e)
        (subst (λ (i : ℕ). StrikeFits v i client (w.links l).role) (sym g) (strike_on w v same l client (λ m. m) (w.links l).role (w.links l).role stays fit), asked_on w v client same asked))
        (λ ne e. let p = f.due n key e in (strike_on w v same n key (λ m. m) (w.links n).role (w.links n).role stays p.0, asked_on w v key same p.1))
