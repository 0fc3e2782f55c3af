-- Each step of a client, its worker and a server keeps the relation, step by step.
use Rattle.std.proofs.Common.{◌≡◌, ◌⊎◌, inl, inr, ℕ, Bool, List, [], ◌∷◌, ◌++◌, Option, Some, None, refl, sym, ap, ◌∙◌, subst, append_assoc}
use Rattle.std.proofs.lemmas.Option.{none-some}
use Rattle.frame_view.specs.Frames.{FrameOf}
use Rattle.message_view.specs.declared.KeyWord.{KeyWord}
use Rattle.message_view.specs.declared.views.KeyView.{KeyView}
use Rattle.message_view.specs.declared.refusal.Refusal.{Refusal}
use Rattle.message_view.specs.Refusals.{joined_pieces, refusal}
use Rattle.session_values.specs.State.{CatalogueOf, StartKeyOf, Address, address_of}
use Rattle.login_laws.specs.StartKeys.{IsLawfulRow}
use Rattle.login_laws.proofs.ByName.{passed_keys_are_link_keys}
use Rattle.login_core.specs.Talk.End.{Passed}
use Rattle.login_core.specs.Dialogue.{LoginRow, ToLink, login}
use Rattle.world_steps.specs.Clients.Phase.{Absent, LoggingIn, Waiting, Starting, Served, Finishing, Refusing, Closed}
use Rattle.world_steps.specs.Links.Role.{Unborn, Promised, Lent, InReset, Clean, Idle, Gone}
use Rattle.world_steps.specs.Clients.MayWrite.{logging_in}
use Rattle.world_steps.proofs.Fronts.{front_is, joined-append}
use Rattle.world_steps.proofs.Logins.{login_passed, login_empty}
use Rattle.world_steps.proofs.Put.{put_case, IsServed}
use Rattle.world_steps.proofs.Runs.{runs_gets, runs_gives, role_answers, role_dies, role_spared}
use Rattle.world_steps.proofs.Service.{service_takes_in, service_forwards, service_receives, service_gives_out, gives_out}
use Rattle.world_steps.proofs.Clients.{phase_told, phase_over, phase_sends, border_pieces}
use Rattle.world_steps.proofs.Keeps.{SameNumber, kept_number, change_client, change_link, change_pair, alone_lent}
use Rattle.world_steps.proofs.Changes.{sends_bytes, has_read, has_passed, in_phase, took_in, took_out, forwarded, link_gets, link_gives, holds_more, begins_refusal, refused_more, dies, due_for, noted, spared}
use Rattle.world_steps.specs.Clients.{Client, Phase, newcomer, MayWrite, AtBorder}
use Rattle.world_steps.specs.Links.{Link, Role, is_due}
use Rattle.world_steps.specs.Relation.{RoleFits, PhaseFits, TicketFits, AreRelated, InService, IsNamed, IsTold, StrikeFits}
use Rattle.world_steps.specs.Worlds.{Strike, World, put, with_client, with_link, with_pair, with_strikes}
use Rattle.world_steps.specs.Steps.{HasFrame, IsInHand, IsUnserved, answers}
use Rattle.world_steps.specs.Steps.IsInHand.{in_reset, clean}

-- what is known of a client in a known phase
pub fits_at : {w : World} (c : ℕ) (phase : Phase) → AreRelated w → (w.clients c).phase ≡ phase → PhaseFits w.catalogue w.links c phase (w.clients c)
fits_at {w} c phase r e = subst (λ (p : Phase). PhaseFits w.catalogue w.links c p (w.clients c)) e (r.clients c)

pub role_at : {w : World} (l : ℕ) (role : Role) → AreRelated w → (w.links l).role ≡ role → RoleFits w.catalogue role (w.links l)
role_at {w} l role r e = subst (λ (p : Role). RoleFits w.catalogue p (w.links l)) e (r.links l)

no_number : (x : Client) (row : LoginRow) (word : KeyWord) → SameNumber x (newcomer row word)
unfolding SameNumber
no_number x row word = λ n e. absurd (none-some n e)

-- ---- a client
pub step_comes : (w : World) (c : ℕ) (row : LoginRow) (word : KeyWord) → AreRelated w → (w.clients c).phase ≡ Absent → IsLawfulRow row.database → AreRelated (with_client w c (newcomer row word))
step_comes w c row word r e lawful =
    change_client w c (newcomer row word) r
    (record { lawful_row = lawful; sent_is = refl; told = ap joined_pieces (sym (login_empty row word)); quiet = refl; unstruck = refl })
    (no_number (w.clients c) row word) (λ key h. subst (TicketFits key) e h)

pub step_sends : (w : World) (c : ℕ) (bytes : List ℕ) → AreRelated w → AreRelated (with_client w c (sends_bytes (w.clients c) bytes))
step_sends w c bytes r = change_client w c (sends_bytes (w.clients c) bytes) r (phase_sends w.catalogue w.links c (w.clients c).phase (w.clients c) bytes (r.clients c)) (kept_number _ _ refl) (λ key h. h)

-- ---- the login
pub step_reads_login : (w : World) (c : ℕ) (read more rest : List ℕ) (pieces : List (List ℕ)) → AreRelated w →
    (w.clients c).phase ≡ LoggingIn read → (w.clients c).unread ≡ more ++ rest →
    (login (w.clients c).row (w.clients c).word (read ++ more)).pieces ≡ (login (w.clients c).row (w.clients c).word read).pieces ++ pieces →
    AreRelated (with_client w c (has_read (w.clients c) (read ++ more) rest pieces))
step_reads_login w c read more rest pieces r e u p =
    let x = w.clients c in
    let h = fits_at c (LoggingIn read) r e in
    change_client w c (has_read x (read ++ more) rest pieces) r
    (record {
      lawful_row = h.lawful_row;
      sent_is = h.sent_is ∙ ap (λ (l : List ℕ). read ++ l) u ∙ sym (append_assoc read more rest);
      told = sym (append_assoc x.out x.for_client (joined_pieces pieces)) ∙ ap (λ (l : List ℕ). l ++ joined_pieces pieces) h.told ∙ sym (joined-append (login x.row x.word read).pieces pieces) ∙ ap joined_pieces (sym p);
      quiet = h.quiet;
      unstruck = h.unstruck;
    })
    (kept_number _ _ refl)
    (λ key k. subst (TicketFits key) e k)

pub step_passes : (w : World) (c : ℕ) (read left : List ℕ) (key : StartKeyOf) → AreRelated w →
    (w.clients c).phase ≡ LoggingIn read → (login (w.clients c).row (w.clients c).word read).ended ≡ Passed (ToLink key) left →
    AreRelated (with_client w c (has_passed (w.clients c) key left))
step_passes w c read left key r e p =
    let x = w.clients c in
    let h = fits_at c (LoggingIn read) r e in
    let q = login_passed x.row x.word read x.unread (ToLink key) left p in
    change_client w c (has_passed x key left) r
    (record {
      lawful_key = (passed_keys_are_link_keys (λ database user. x.row) x.word read left key (λ database user. h.lawful_row) p).client.lawful;
      passed = ap (λ (b : List ℕ). (login x.row x.word b).ended) h.sent_is ∙ q.1;
      told = h.told ∙ ap joined_pieces (sym q.0) ∙ ap (λ (b : List ℕ). joined_pieces (login x.row x.word b).pieces) (sym h.sent_is);
      quiet = h.quiet;
      unstruck = h.unstruck;
    })
    (kept_number _ _ refl)
    (λ k t. absurd (subst (TicketFits k) e t))

-- ---- moves of bytes
pub step_from_client : (w : World) (c l : ℕ) (bytes rest : List ℕ) → AreRelated w → (w.clients c).phase ≡ Served l → (w.clients c).unread ≡ bytes ++ rest →
    AreRelated (with_client w c (took_in (w.clients c) bytes rest))
step_from_client w c l bytes rest r e u =
    let h = fits_at c (Served l) r e in
    change_client w c (took_in (w.clients c) bytes rest) r
    (subst (λ (p : Phase). PhaseFits w.catalogue w.links c p (took_in (w.clients c) bytes rest)) (sym e) (service_takes_in bytes rest u h.0, h.1))
    (kept_number _ _ refl)
    (λ key k. k)

not_idle : {role : Role} {c : ℕ} {A : Type 0} → role ≡ Lent c → role ≡ Idle → A
not_idle {role} {c} e f = absurd (go (sym e ∙ f))
  where
    go : Lent c ≡ Idle → ⊥
    go p = cc

pub step_to_link : (w : World) (c l : ℕ) (bytes rest : List ℕ) → AreRelated w → (w.clients c).phase ≡ Served l → (w.clients c).for_link ≡ bytes ++ rest →
    AreRelated (with_pair w c (forwarded (w.clients c) rest) l (link_gets (w.links l) bytes))
step_to_link w c l bytes rest r e u =
    let h = fits_at c (Served l) r e in
    let k = role_at l (Lent c) r h.1 in
    let x = forwarded (w.clients c) rest in
    let y = link_gets (w.links l) bytes in
    change_pair w c x l y r (alone_lent h.1)
    (subst (λ (p : Phase). PhaseFits w.catalogue (put w.links l y) c p x) (sym e)
    (put_case (λ z. IsServed w.catalogue c x z) w.links l y l (λ _. (service_forwards bytes rest u h.0, h.1)) (λ ne. absurd (ne refl))))
    (subst (λ (p : Role). RoleFits w.catalogue p y) (sym h.1) (record { base = k.base; is_fresh = k.is_fresh; lawful_key = k.lawful_key; runs = runs_gets bytes k.runs }))
    (kept_number _ _ refl)
    (λ key t. t) (λ i. (i, refl)) (λ i. i)

pub step_from_link : (w : World) (c l : ℕ) (bytes rest : List ℕ) → AreRelated w → (w.clients c).phase ≡ Served l → (w.links l).outbox ≡ bytes ++ rest →
    AreRelated (with_pair w c (holds_more (w.clients c) bytes) l (link_gives (w.links l) bytes rest))
step_from_link w c l bytes rest r e u =
    let h = fits_at c (Served l) r e in
    let k = role_at l (Lent c) r h.1 in
    let x = holds_more (w.clients c) bytes in
    let y = link_gives (w.links l) bytes rest in
    change_pair w c x l y r (alone_lent h.1)
    (subst (λ (p : Phase). PhaseFits w.catalogue (put w.links l y) c p x) (sym e)
    (put_case (λ z. IsServed w.catalogue c x z) w.links l y l (λ _. (service_receives bytes rest h.0, h.1)) (λ ne. absurd (ne refl))))
    (subst (λ (p : Role). RoleFits w.catalogue p y) (sym h.1) (record { base = k.base; is_fresh = k.is_fresh; lawful_key = k.lawful_key; runs = runs_gives bytes rest u k.runs }))
    (kept_number _ _ refl)
    (λ key t. t) (λ i. (i, refl)) (λ i. i)

phase_gives : (catalogue : Address → CatalogueOf) (links : ℕ → Link) (c : ℕ) (phase : Phase) (x : Client) (bytes rest : List ℕ) → MayWrite phase → x.for_client ≡ bytes ++ rest → PhaseFits catalogue links c phase x → PhaseFits catalogue links c phase (took_out x bytes rest)
phase_gives catalogue links c (LoggingIn read) x bytes rest m u h = record { lawful_row = h.lawful_row; sent_is = h.sent_is; told = gives_out x.out x.for_client bytes rest _ u h.told; quiet = h.quiet; unstruck = h.unstruck }
phase_gives catalogue links c (Waiting key) x bytes rest m u h = record { lawful_key = h.lawful_key; passed = h.passed; told = gives_out x.out x.for_client bytes rest _ u h.told; quiet = h.quiet; unstruck = h.unstruck }
phase_gives catalogue links c (Starting key l) x bytes rest m u h = (record { lawful_key = h.0.lawful_key; passed = h.0.passed; told = gives_out x.out x.for_client bytes rest _ u h.0.told; quiet = h.0.quiet; unstruck = h.0.unstruck }, h.1)
phase_gives catalogue links c (Served l) x bytes rest m u h = (service_gives_out bytes rest u h.0, h.1)
phase_gives catalogue links c Finishing x bytes rest m u h = record { frames = h.frames; are_frames = h.are_frames; first = h.first; told = front_is (gives_out x.out x.for_client bytes rest _ u refl) h.told; quiet = h.quiet }
phase_gives catalogue links c Absent x bytes rest m u h = elim m [ ]
phase_gives catalogue links c (Refusing left) x bytes rest m u h = elim m [ ]
phase_gives catalogue links c Closed x bytes rest m u h = elim m [ ]

pub step_to_client : (w : World) (c : ℕ) (bytes rest : List ℕ) → AreRelated w → MayWrite (w.clients c).phase → (w.clients c).for_client ≡ bytes ++ rest →
    AreRelated (with_client w c (took_out (w.clients c) bytes rest))
step_to_client w c bytes rest r m u =
    change_client w c (took_out (w.clients c) bytes rest) r (phase_gives w.catalogue w.links c (w.clients c).phase (w.clients c) bytes rest m u (r.clients c)) (kept_number _ _ refl) (λ key k. k)

-- ---- ends

-- what was given and is held, of a client that may be written to
told_at : (w : World) (c : ℕ) → AreRelated w → MayWrite (w.clients c).phase → IsTold w.catalogue (w.clients c)
told_at w c r m = phase_told w.catalogue w.links r.lawful r.links c (w.clients c).phase (w.clients c) m (r.clients c)

pub step_refuses : (w : World) (c : ℕ) (cause : Refusal) → AreRelated w → MayWrite (w.clients c).phase → AtBorder (w.clients c) → AreRelated (with_client w c (begins_refusal (w.clients c) (refusal cause)))
step_refuses w c cause r m b =
    let t = told_at w c r m in
    let k = border_pieces w.catalogue (w.clients c) t b in
    change_client w c (begins_refusal (w.clients c) (refusal cause)) r
    (record { pieces = k.pieces; first = k.first; out_is = k.out_is; cause = cause; text_is = ap (λ (l : List ℕ). l ++ refusal cause) t.quiet })
    (kept_number _ _ refl)
    (λ key k. tt)

pub step_refusal_to_client : (w : World) (c : ℕ) (bytes rest : List ℕ) → AreRelated w → (w.clients c).phase ≡ Refusing (bytes ++ rest) → AreRelated (with_client w c (refused_more (w.clients c) bytes rest))
step_refusal_to_client w c bytes rest r e =
    let h = fits_at c (Refusing (bytes ++ rest)) r e in
    change_client w c (refused_more (w.clients c) bytes rest) r
    (record { pieces = h.pieces; first = h.first; out_is = h.out_is; cause = h.cause; text_is = append_assoc (w.clients c).refusal bytes rest ∙ h.text_is })
    (kept_number _ _ refl)
    (λ key k. tt)

-- what was said in the login was the last, as of one that failed
pub step_finishes : (w : World) (c : ℕ) (read : List ℕ) → AreRelated w → (w.clients c).phase ≡ LoggingIn read → AreRelated (with_client w c (in_phase (w.clients c) Finishing))
step_finishes w c read r e =
    let t = told_at w c r (subst MayWrite (sym e) logging_in) in
    change_client w c (in_phase (w.clients c) Finishing) r
    (record { frames = t.frames; are_frames = t.are_frames; first = t.first; told = t.told; quiet = t.quiet })
    (kept_number _ _ refl)
    (λ key k. tt)

pub closed_apart : (catalogue : Address → CatalogueOf) (x : Client) → (x.refusal ≡ []) ⊎ IsNamed catalogue x → (x.refusal ≡ []) ⊎ IsNamed catalogue (in_phase x Closed)
closed_apart catalogue x (inl e) = inl e
closed_apart catalogue x (inr n) = inr (record { pieces = n.pieces; first = n.first; out_is = n.out_is; cause = n.cause; text = n.text })

pub step_closes : (w : World) (c : ℕ) → AreRelated w → AreRelated (with_client w c (in_phase (w.clients c) Closed))
step_closes w c r =
    let o = phase_over w.catalogue w.links r.lawful r.links c (w.clients c).phase (w.clients c) (r.clients c) in
    change_client w c (in_phase (w.clients c) Closed) r (record { apart = closed_apart w.catalogue (w.clients c) o.apart; out_front = o.out_front; allowed = o.allowed }) (kept_number _ _ refl) (λ key k. tt)

-- ---- a server

pub step_server_answers : (w : World) (l : ℕ) (f : FrameOf) (rest : List ℕ) → AreRelated w → IsUnserved w l (w.links l).role → HasFrame (w.links l) f rest →
    AreRelated (with_link w l (answers (w.catalogue (address_of (w.links l).key)) (w.links l) f rest))
step_server_answers w l f rest r unserved h =
    change_link w l (answers (w.catalogue (address_of (w.links l).key)) (w.links l) f rest) r (role_answers w.catalogue (w.links l).role (w.links l) f rest h (r.links l))
    (λ c p k. absurd (subst (IsUnserved w l) k.1 unserved p))
    (λ c key p k. k) (λ i. (i, refl)) (λ i. i)

-- the mark is noted at the client, too
service_answers : {cat : CatalogueOf} (own : CatalogueOf) {x : Client} {y : Link} (f : FrameOf) (rest : List ℕ) → InService cat x y → InService cat (noted x (is_due y f)) (answers own y f rest)
service_answers {cat} own {x} {y} f rest h = record { base = h.base; is_fresh = h.is_fresh; passed = h.passed; told = h.told; quiet = h.quiet; struck = ap (λ (marks : List Bool). marks ++ is_due y f ∷ []) h.struck }

pub step_server_answers_client : (w : World) (c l : ℕ) (f : FrameOf) (rest : List ℕ) → AreRelated w → (w.clients c).phase ≡ Served l → HasFrame (w.links l) f rest →
    AreRelated (with_pair w c (noted (w.clients c) (is_due (w.links l) f)) l (answers (w.catalogue (address_of (w.links l).key)) (w.links l) f rest))
step_server_answers_client w c l f rest r e k =
    let h = fits_at c (Served l) r e in
    let x = noted (w.clients c) (is_due (w.links l) f) in
    let y = answers (w.catalogue (address_of (w.links l).key)) (w.links l) f rest in
    change_pair w c x l y r (alone_lent h.1)
    (subst (λ (p : Phase). PhaseFits w.catalogue (put w.links l y) c p x) (sym e)
    (put_case (λ z. IsServed w.catalogue c x z) w.links l y l (λ _. (service_answers (w.catalogue (address_of (w.links l).key)) f rest h.0, h.1)) (λ ne. absurd (ne refl))))
    (role_answers w.catalogue (w.links l).role (w.links l) f rest k (r.links l))
    (kept_number _ _ refl)
    (λ key t. t) (λ i. (i, refl)) (λ i. i)

pub step_server_dies : (w : World) (l : ℕ) (kept lost : List ℕ) → AreRelated w → (w.links l).outbox ≡ kept ++ lost → AreRelated (with_link w l (dies (w.links l) kept))
step_server_dies w l kept lost r e =
    change_link w l (dies (w.links l) kept) r (role_dies w.catalogue (w.links l).role (w.links l) kept lost e (r.links l))
    (λ c p h. (record { base = h.0.base; is_fresh = h.0.is_fresh; passed = h.0.passed; told = h.0.told; quiet = h.0.quiet; struck = h.0.struck }, h.1))
    (λ c key p k. k) (λ i. (i, refl)) (λ i. i)

-- ---- a cancel at a server

-- what is known of a served client with its link says nothing of a cancel
same_service : {cat : CatalogueOf} {x : Client} {y : Link} (due : Option KeyView) → InService cat x y → InService cat x (record y { due = due })
same_service due h = record { base = h.base; is_fresh = h.is_fresh; passed = h.passed; told = h.told; quiet = h.quiet; struck = h.struck }

pub step_strike_passes : (w : World) (l : ℕ) → AreRelated w → AreRelated (with_link w l (spared (w.links l)))
step_strike_passes w l r =
    change_link w l (spared (w.links l)) r (role_spared w.catalogue (w.links l).role (w.links l) (r.links l))
    (λ c p h. (same_service None h.0, h.1))
    (λ c key p k. k) (λ i. (i, refl)) (λ i. i)

-- it comes to a link that is lent or gone
role_due : (w : World) (l : ℕ) (client : KeyView) (role : Role) (y : Link) → StrikeFits w l client role → RoleFits w.catalogue role y → RoleFits w.catalogue role (due_for y client)
role_due w l client (Lent c) y s h =
    let r = h.runs in
    record { base = h.base; is_fresh = h.is_fresh; lawful_key = h.lawful_key; runs = record { taken = r.taken; are_sent = r.are_sent; marked = r.marked; sent_is = r.sent_is; session_is = r.session_is; told = r.told; all_told = r.all_told } }
role_due w l client Gone y s h = tt
role_due w l client Unborn y s h = absurd s
role_due w l client (Promised c) y s h = absurd s
role_due w l client InReset y s h = absurd s
role_due w l client Clean y s h = absurd s
role_due w l client Idle y s h = absurd s

pub step_strike_arrives : (w : World) (l : ℕ) (client : KeyView) → AreRelated w → StrikeFits w l client (w.links l).role → AreRelated (with_link w l (due_for (w.links l) client))
step_strike_arrives w l client r s =
    change_link w l (due_for (w.links l) client) r (role_due w l client (w.links l).role (w.links l) s (r.links l))
    (λ c p h. (same_service (Some client) h.0, h.1))
    (λ c key p k. k) (λ i. (i, refl)) (λ i. i)

-- other cancels are on their way
pub step_strikes : (w : World) (strikes : List Strike) → AreRelated w → AreRelated (with_strikes w strikes)
step_strikes w strikes r = record {
  lawful = r.lawful;
  clients = r.clients;
  links = r.links;
  idle = r.idle;
  unborn = r.unborn;
  tickets = r.tickets;
  numbers = r.numbers;
  counted = r.counted;
  tickets_counted = r.tickets_counted;
}

-- ---- a link in reset

-- a link in its worker's hand has no other role
hand_lent : {role : Role} (d : ℕ) → IsInHand role → role ≡ Lent d → ⊥
hand_lent d in_reset e = cc
hand_lent d clean e = cc

hand_promised : {role : Role} (d : ℕ) → IsInHand role → role ≡ Promised d → ⊥
hand_promised d in_reset e = cc
hand_promised d clean e = cc

hand_idle : {role : Role} → IsInHand role → role ≡ Idle → ⊥
hand_idle in_reset e = cc
hand_idle clean e = cc

hand_unborn : {role : Role} → IsInHand role → role ≡ Unborn → ⊥
hand_unborn in_reset e = cc
hand_unborn clean e = cc

-- a link that serves nobody and isn't idle
pub stays_away : (w : World) (l : ℕ) (y : Link) → AreRelated w → IsInHand (w.links l).role → RoleFits w.catalogue y.role y → AreRelated (with_link w l y)
stays_away w l y r h k =
    change_link w l y r k (λ d _ f. absurd (hand_lent d h f.1)) (λ d _ _ f. absurd (hand_promised d h f)) (λ f. absurd (hand_idle h f)) (λ f. absurd (hand_unborn h f))

pub step_to_reset : (w : World) (l : ℕ) (bytes : List ℕ) → AreRelated w → (w.links l).role ≡ InReset → AreRelated (with_link w l (link_gets (w.links l) bytes))
step_to_reset w l bytes r e =
    let k = role_at l InReset r e in
    stays_away w l (link_gets (w.links l) bytes) r (subst IsInHand (sym e) in_reset)
    (subst (λ (p : Role). RoleFits w.catalogue p (link_gets (w.links l) bytes)) (sym e) (record { base = k.base; reached = k.reached; lawful_key = k.lawful_key; rests = k.rests; runs = runs_gets bytes k.runs; undue = k.undue; unstruck = k.unstruck }))

pub step_from_reset : (w : World) (l : ℕ) (bytes rest : List ℕ) → AreRelated w → (w.links l).role ≡ InReset → (w.links l).outbox ≡ bytes ++ rest → AreRelated (with_link w l (link_gives (w.links l) bytes rest))
step_from_reset w l bytes rest r e o =
    let k = role_at l InReset r e in
    stays_away w l (link_gives (w.links l) bytes rest) r (subst IsInHand (sym e) in_reset)
    (subst (λ (p : Role). RoleFits w.catalogue p (link_gives (w.links l) bytes rest)) (sym e) (record { base = k.base; reached = k.reached; lawful_key = k.lawful_key; rests = k.rests; runs = runs_gives bytes rest o k.runs; undue = k.undue; unstruck = k.unstruck }))
