-- What a change of one client or one link leaves of the facts on the others.
use Rattle.std.proofs.Common.{◌≡◌, ◌≢◌, ℕ, Bool, true, false, refl, sym, ap, ◌∙◌, subst, nat_eq, ◌==◌, if◌then◌else◌, eqb-true, eq-eqb}
use Rattle.std.proofs.lemmas.Bool.{false≢true}
use Rattle.session_values.specs.State.{CatalogueOf, StartKeyOf, Address, address_of}
use Rattle.world_steps.specs.Clients.Phase.{Absent, LoggingIn, Waiting, Starting, Served, Finishing, Refusing, Closed}
use Rattle.world_steps.specs.Links.Role.{Lent, Promised}
use Rattle.world_steps.specs.Clients.{Client, Phase}
use Rattle.world_steps.specs.Links.{Link}
use Rattle.world_steps.specs.Relation.{PhaseFits, InService}
use Rattle.world_steps.specs.Worlds.{put}

nat_eq-same : (i : ℕ) → nat_eq i i ≡ true
nat_eq-same i = eq-eqb i i refl

at_bool : {A : Type 0} (Q : A → Type 0) (x y : A) (b : Bool) → (b ≡ true → Q x) → (b ≡ false → Q y) → Q (if b then x else y)
at_bool Q x y true f g = f refl
at_bool Q x y false f g = g refl

-- at each number: the changed value there, the old value elsewhere
pub put_case : {A : Type 0} (Q : A → Type 0) (f : ℕ → A) (k : ℕ) (x : A) (i : ℕ) → (i ≡ k → Q x) → (i ≢ k → Q (f i)) → Q (put f k x i)
put_case Q f k x i here there =
    at_bool Q x (f i) (i == k) (λ e. here (eqb-true i k e)) (λ e. there (λ h. absurd (false≢true (sym e ∙ subst (λ j. nat_eq i j ≡ true) h (nat_eq-same i)))))

pub put_all : {A : Type 0} (P : ℕ → A → Type 0) (f : ℕ → A) (k : ℕ) (x : A) → P k x → ((i : ℕ) → i ≢ k → P i (f i)) → (i : ℕ) → P i (put f k x i)
put_all {A} P f k x here there i = put_case (P i) f k x i (λ e. subst (λ j. P j x) (sym e) here) (there i)

-- a client served over a link, which is lent to it
abbrev pub IsServed : (Address → CatalogueOf) → ℕ → Client → Link → Type 0
IsServed catalogue c x y = InService (catalogue (address_of y.key)) x y × (y.role ≡ Lent c)

-- a link changes that the client does not have, or in a way that keeps what is known of the two
pub after_link : (catalogue : Address → CatalogueOf) (links : ℕ → Link) (l : ℕ) (y : Link) (c : ℕ) (phase : Phase) (x : Client) →
    (phase ≡ Served l → IsServed catalogue c x (links l) → IsServed catalogue c x y) →
    ((key : StartKeyOf) → phase ≡ Starting key l → (links l).role ≡ Promised c → y.role ≡ Promised c) →
    PhaseFits catalogue links c phase x → PhaseFits catalogue (put links l y) c phase x
after_link catalogue links l y c Absent x serves starts h = h
after_link catalogue links l y c (LoggingIn read) x serves starts h = h
after_link catalogue links l y c (Waiting key) x serves starts h = h
after_link catalogue links l y c (Starting key m) x serves starts h =
    (h.0, put_case (λ z. z.role ≡ Promised c) links l y m (λ e. starts key (ap (Starting key) e) (subst (λ k. (links k).role ≡ Promised c) e h.1)) (λ _. h.1))
after_link catalogue links l y c (Served m) x serves starts h =
    put_case (λ z. IsServed catalogue c x z) links l y m (λ e. serves (ap Served e) (subst (λ k. IsServed catalogue c x (links k)) e h)) (λ _. h)
after_link catalogue links l y c Finishing x serves starts h = h
after_link catalogue links l y c (Refusing left) x serves starts h = h
after_link catalogue links l y c Closed x serves starts h = h
