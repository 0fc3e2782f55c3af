-- The parts of the relation under a change of one client, one link, or both.
use Rattle.std.proofs.Common.{◌≡◌, ◌≢◌, ℕ, sym, ◌∙◌, subst, Some}
use Rattle.session_values.specs.State.{CatalogueOf, StartKeyOf, Address}
use Rattle.world_steps.specs.Clients.Phase.{Served, Starting}
use Rattle.world_steps.specs.Links.Role.{Unborn, Promised, Lent, Idle}
use Rattle.world_steps.proofs.Put.{put_case, put_all, after_link, IsServed}
use Rattle.world_steps.specs.Clients.{Client}
use Rattle.world_steps.specs.Links.{Link, Role}
use Rattle.world_steps.specs.Relation.{PhaseFits, RoleFits, TicketFits, AreRelated}
use Rattle.world_steps.specs.Worlds.{World, put, with_client, with_link, with_pair}

-- the links' part, the clients' part and the tickets' part
pub links_put : (catalogue : Address → CatalogueOf) (links : ℕ → Link) (l : ℕ) (y : Link) → RoleFits catalogue y.role y → ((i : ℕ) → RoleFits catalogue (links i).role (links i)) → (i : ℕ) → RoleFits catalogue (put links l y i).role (put links l y i)
links_put catalogue links l y h all i = put_all (λ i z. RoleFits catalogue z.role z) links l y h (λ i _. all i) i

-- no other client has the link
pub Alone : Role → ℕ → Type 0
Alone role c = (d : ℕ) → d ≢ c → (role ≡ Lent d → ⊥) × (role ≡ Promised d → ⊥)

pub alone_lent : {role : Role} {c : ℕ} → role ≡ Lent c → Alone role c
unfolding Alone
alone_lent {role} {c} e = λ d ne. (λ f. ne (same d (sym e ∙ f)), λ f. other d (sym e ∙ f))
  where
    same : (d : ℕ) → Lent c ≡ Lent d → d ≡ c
    same d p = cc

    other : (d : ℕ) → Lent c ≡ Promised d → ⊥
    other d p = cc

pub alone_promised : {role : Role} {c : ℕ} → role ≡ Promised c → Alone role c
unfolding Alone
alone_promised {role} {c} e = λ d ne. (λ f. other d (sym e ∙ f), λ f. ne (same d (sym e ∙ f)))
  where
    same : (d : ℕ) → Promised c ≡ Promised d → d ≡ c
    same d p = cc

    other : (d : ℕ) → Promised c ≡ Lent d → ⊥
    other d p = cc

pub alone_idle : {role : Role} (c : ℕ) → role ≡ Idle → Alone role c
unfolding Alone
alone_idle {role} c e = λ d ne. (λ f. lent d (sym e ∙ f), λ f. promised d (sym e ∙ f))
  where
    lent : (d : ℕ) → Idle ≡ Lent d → ⊥
    lent d p = cc

    promised : (d : ℕ) → Idle ≡ Promised d → ⊥
    promised d p = cc

pub alone_unborn : {role : Role} (c : ℕ) → role ≡ Unborn → Alone role c
unfolding Alone
alone_unborn {role} c e = λ d ne. (λ f. lent d (sym e ∙ f), λ f. promised d (sym e ∙ f))
  where
    lent : (d : ℕ) → Unborn ≡ Lent d → ⊥
    lent d p = cc

    promised : (d : ℕ) → Unborn ≡ Promised d → ⊥
    promised d p = cc

pub clients_pair : (w : World) (c : ℕ) (x : Client) (l : ℕ) (y : Link) → AreRelated w → Alone (w.links l).role c → PhaseFits w.catalogue (put w.links l y) c x.phase x →
    (i : ℕ) → PhaseFits w.catalogue (put w.links l y) i (put w.clients c x i).phase (put w.clients c x i)
unfolding Alone
clients_pair w c x l y r alone h i =
    put_all (λ i z. PhaseFits w.catalogue (put w.links l y) i z.phase z) w.clients c x h
    (λ i ne. after_link w.catalogue w.links l y i (w.clients i).phase (w.clients i) (λ _ e. absurd ((alone i ne).0 e.1)) (λ _ _ e. absurd ((alone i ne).1 e)) (r.clients i)) i

-- the changed client has the number that it had, or none
unfoldable pub SameNumber : Client → Client → Type 0
SameNumber x y = (n : ℕ) → y.number ≡ Some n → x.number ≡ Some n

pub kept_number : (x y : Client) → y.number ≡ x.number → SameNumber x y
unfolding SameNumber
kept_number x y e = λ n h. sym e ∙ h

pub number_was : (clients : ℕ → Client) (c : ℕ) (x : Client) → SameNumber (clients c) x → (d n : ℕ) → (put clients c x d).number ≡ Some n → (clients d).number ≡ Some n
unfolding SameNumber
number_was clients c x same d n =
    put_case (λ z. z.number ≡ Some n → (clients d).number ≡ Some n) clients c x d (λ g m. subst (λ i. (clients i).number ≡ Some n) (sym g) (same n m)) (λ _ m. m)

pub tickets_put : (clients : ℕ → Client) (c : ℕ) (x : Client) (n : ℕ) (own : StartKeyOf) → SameNumber (clients c) x → ((key : StartKeyOf) → TicketFits key (clients c).phase → TicketFits key x.phase) →
    ((d : ℕ) → (clients d).number ≡ Some n → TicketFits own (clients d).phase) → (d : ℕ) → (put clients c x d).number ≡ Some n → TicketFits own (put clients c x d).phase
unfolding SameNumber
tickets_put clients c x n own same step h d =
    put_case (λ z. z.number ≡ Some n → TicketFits own z.phase) clients c x d (λ _ m. step own (h c (same n m))) (λ _ m. h d m)

-- a link that keeps its role and key, or is neither idle before nor started later
pub idle_put : (links : ℕ → Link) (l : ℕ) (y : Link) (n : ℕ) (key : StartKeyOf) → ((links l).role ≡ Idle → (y.role ≡ Idle) × (y.key ≡ (links l).key)) →
    ((links n).role ≡ Idle) × ((links n).key ≡ key) → ((put links l y n).role ≡ Idle) × ((put links l y n).key ≡ key)
idle_put links l y n key step h =
    put_case (λ z. (z.role ≡ Idle) × (z.key ≡ key)) links l y n
    (λ e. let s = step (subst (λ i. (links i).role ≡ Idle) e h.0) in (s.0, s.1 ∙ subst (λ i. (links i).key ≡ key) e h.1)) (λ _. h)

pub unborn_put : (links : ℕ → Link) (l : ℕ) (y : Link) (n : ℕ) → ((links l).role ≡ Unborn → y.role ≡ Unborn) → (links n).role ≡ Unborn → (put links l y n).role ≡ Unborn
unborn_put links l y n step h = put_case (λ z. z.role ≡ Unborn) links l y n (λ e. step (subst (λ i. (links i).role ≡ Unborn) e h)) (λ _. h)

-- one client changes
pub change_client : (w : World) (c : ℕ) (x : Client) → AreRelated w → PhaseFits w.catalogue w.links c x.phase x → SameNumber (w.clients c) x → ((key : StartKeyOf) → TicketFits key (w.clients c).phase → TicketFits key x.phase) → AreRelated (with_client w c x)
change_client w c x r h same step = record {
  lawful = r.lawful;
  clients = put_all (λ i z. PhaseFits w.catalogue w.links i z.phase z) w.clients c x h (λ i _. r.clients i);
  links = r.links;
  idle = r.idle;
  unborn = r.unborn;
  tickets = λ n own k. tickets_put w.clients c x n own same step (r.tickets n own k);
  numbers = λ d e n p q. r.numbers d e n (number_was w.clients c x same d n p) (number_was w.clients c x same e n q);
  counted = λ d n p. r.counted d n (number_was w.clients c x same d n p);
  tickets_counted = r.tickets_counted;
}

-- one link changes
pub change_link : (w : World) (l : ℕ) (y : Link) → AreRelated w → RoleFits w.catalogue y.role y →
    ((c : ℕ) → (w.clients c).phase ≡ Served l → IsServed w.catalogue c (w.clients c) (w.links l) → IsServed w.catalogue c (w.clients c) y) →
    ((c : ℕ) (key : StartKeyOf) → (w.clients c).phase ≡ Starting key l → (w.links l).role ≡ Promised c → y.role ≡ Promised c) →
    ((w.links l).role ≡ Idle → (y.role ≡ Idle) × (y.key ≡ (w.links l).key)) →
    ((w.links l).role ≡ Unborn → y.role ≡ Unborn) →
    AreRelated (with_link w l y)
change_link w l y r h serves starts idle unborn = record {
  lawful = r.lawful;
  clients = λ c. after_link w.catalogue w.links l y c (w.clients c).phase (w.clients c) (serves c) (starts c) (r.clients c);
  links = links_put w.catalogue w.links l y h r.links;
  idle = λ n key i. idle_put w.links l y n key idle (r.idle n key i);
  unborn = λ n le. unborn_put w.links l y n unborn (r.unborn n le);
  tickets = r.tickets;
  numbers = r.numbers;
  counted = r.counted;
  tickets_counted = r.tickets_counted;
}

-- one client and its link change, and the book's lists don't
pub change_pair : (w : World) (c : ℕ) (x : Client) (l : ℕ) (y : Link) → AreRelated w → Alone (w.links l).role c → PhaseFits w.catalogue (put w.links l y) c x.phase x → RoleFits w.catalogue y.role y →
    SameNumber (w.clients c) x → ((key : StartKeyOf) → TicketFits key (w.clients c).phase → TicketFits key x.phase) →
    ((w.links l).role ≡ Idle → (y.role ≡ Idle) × (y.key ≡ (w.links l).key)) →
    ((w.links l).role ≡ Unborn → y.role ≡ Unborn) →
    AreRelated (with_pair w c x l y)
change_pair w c x l y r alone h k same step idle unborn = record {
  lawful = r.lawful;
  clients = clients_pair w c x l y r alone h;
  links = links_put w.catalogue w.links l y k r.links;
  idle = λ n key i. idle_put w.links l y n key idle (r.idle n key i);
  unborn = λ n le. unborn_put w.links l y n unborn (r.unborn n le);
  tickets = λ n own i. tickets_put w.clients c x n own same step (r.tickets n own i);
  numbers = λ d e n p q. r.numbers d e n (number_was w.clients c x same d n p) (number_was w.clients c x same e n q);
  counted = λ d n p. r.counted d n (number_was w.clients c x same d n p);
  tickets_counted = r.tickets_counted;
}
