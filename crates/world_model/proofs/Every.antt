-- The relation holds in every world that is reached; so does the theorem.
use Rattle.std.proofs.Common.{⊎_elim, ◌≡◌, ℕ, Bool, List, [], ◌∷◌, ◌++◌, ◌⊎◌, inl, inr, refl, sym, ap, ap₂, ◌∙◌, subst, append_assoc, append-nil, Option, Some, None, true, Result, Ok, Err}
use Rattle.std.specs.Prelude.{map}
use Rattle.std.specs.List.{flat_map, AllByRecursion}
use Rattle.std.proofs.lemmas.Option.{none-some}
use Rattle.frame_view.specs.declared.Side.TheVariants.{Client as OfClient}
use Rattle.frame_view.specs.Frames.{FrameOf, Cut, spelling}
use Rattle.frame_view.proofs.Splitting.{frames-stopped}
use Rattle.message_view.specs.declared.KeyWord.{KeyWord}
use Rattle.message_view.specs.Refusals.{Allowed, Begins, joined_pieces}
use Rattle.session_values.specs.declared.cause.Cause.{Cause}
use Rattle.session_values.specs.State.{Answer, State, CatalogueOf, StartKeyOf, fresh, Address, address_of}
use Rattle.session_values.specs.Step.{has_mark, run_frames}
use Rattle.session_values.specs.Service.{welcome, client_frames, served}
use Rattle.session_run_laws.specs.Runs.{AreSameMarks}
use Rattle.session_run_laws.proofs.ByName.{runs_by_marks}
use Rattle.login_core.specs.Talk.{End}
use Rattle.login_core.specs.Talk.End.{Unfinished, Passed, Stopped}
use Rattle.login_core.specs.Dialogue.{LoginRow, Way, ToLink, ToConsole, Reason, login}
use Rattle.login_core.specs.Solo.{service_pieces, after_in, solo_in}
use Rattle.world_steps.specs.Clients.Phase.{Starting, Served}
use Rattle.world_steps.specs.Links.Role.{Promised, Lent, Idle}
use Rattle.book_model.specs.Book.{Book, Limits}
use Rattle.book_model.specs.Laws.{HasLease, HasLink, HasTicket}
use Rattle.world_steps.specs.Clients.{Phase}
use Rattle.world_steps.specs.Links.{Role}
use Rattle.world_steps.specs.Relation.{PhaseFits, RoleFits}
use Rattle.world_steps.specs.Steps.{IsEmpty}
use Rattle.world_steps.specs.Steps.Step.{book_step, client_step, byte_step, link_step, end_step}
use Rattle.world_steps.specs.Steps.Reached.{begins, goes_on}
use Rattle.world_steps.proofs.Fronts.{none_left, replies-append, joined-append, joined-frames, spelled-append}
use Rattle.world_steps.proofs.Clients.{phase_over, fresh_one, after_passed}
use Rattle.world_steps.proofs.Sole.{frames_after}
use Rattle.world_steps.proofs.Steps.{fits_at, role_at}
use Rattle.frame_view.specs.declared.frames.TheConstants.{MAX_FRAME}
use Rattle.world_model.specs.Headline.{Agree, HasIt, IsQuiet, IdleLinksAreFresh, LinksServeOne, RefusalsStandApart, future, OutsBegin, TwoWorlds}
use Rattle.world_model.specs.Headline.HasIt.{is_served, awaits}
use Rattle.world_steps.specs.Clients.{Client, given}
use Rattle.world_steps.specs.Laws.{BookStepsKeep, ClientStepsKeep, ByteStepsKeep, LinkStepsKeep, EndStepsKeep}
use Rattle.world_steps.specs.Links.{Link}
use Rattle.world_steps.specs.Relation.{AreRelated, CancelsFit, IsFront, IsOnItsWay, Related, IsOver, IsLent, InService}
use Rattle.world_steps.specs.Steps.{Step, Reached}
use Rattle.world_steps.specs.Worlds.{World, own}

-- the five groups
pub record Keep : Type 0 where
  pub book : BookStepsKeep
  pub client : ClientStepsKeep
  pub bytes : ByteStepsKeep
  pub link : LinkStepsKeep
  pub end : EndStepsKeep

keeps : Keep → {w v : World} → Step w v → Related w → Related v
keeps k {w} {v} (book_step s) = k.book w v s
keeps k {w} {v} (client_step s) = k.client w v s
keeps k {w} {v} (byte_step s) = k.bytes w v s
keeps k {w} {v} (link_step s) = k.link w v s
keeps k {w} {v} (end_step s) = k.end w v s

-- what isn't there isn't this
none_here : {A B : Type 0} {m : Option A} {a : A} → m ≡ None → m ≡ Some a → B
none_here {A} {B} {m} {a} e f = absurd (none-some a (sym e ∙ f))

facts_first : (w : World) (limits : Limits) → IsEmpty w limits → AreRelated w
facts_first w limits h = record {
  lawful = h.lawful;
  clients = λ c. subst (λ (p : Phase). PhaseFits w.catalogue w.links c p (w.clients c)) (sym (h.absent c)) ((h.given_nothing c).0, (h.given_nothing c).1, h.unstruck c);
  links = λ l. subst (λ (r : Role). RoleFits w.catalogue r (w.links l)) (sym (h.unborn l)) tt;
  idle = λ n key k. absurd (subst (λ (b : Book). HasLink n key b.idle) h.book_is k);
  unborn = λ l le. h.unborn l;
  tickets = λ n key k. absurd (subst (λ (b : Book). HasTicket n key b.tickets) h.book_is k);
  numbers = λ c d n e. none_here (h.unnumbered c) e;
  counted = λ c n e. none_here (h.unnumbered c) e;
  tickets_counted = λ n key k. absurd (subst (λ (b : Book). HasTicket n key b.tickets) h.book_is k);
}

cancels_first : (w : World) (limits : Limits) → IsEmpty w limits → CancelsFit w
cancels_first w limits h = record {
  lent_roles = λ n key k. absurd (subst (λ (b : Book). HasLink n key b.lent) h.book_is k);
  lent = λ n c e key k. absurd (subst (λ (b : Book). HasLink n key b.lent) h.book_is k);
  promised = λ n c own key e k. absurd (subst (λ (b : Book). HasLink n key b.lent) h.book_is k);
  server_keys = λ l m own e f t. none_here (h.keyless l) e;
  leases = λ n client server k. absurd (subst (λ (b : Book). HasLease n client server b.keyed) h.book_is k);
  strikes = subst (AllByRecursion (IsOnItsWay w)) (sym h.no_strikes) tt;
  due = λ l client e. none_here (h.undue l) e;
  asked = λ c. inl (ap has_mark (h.unstruck c));
}

pub at_first : (w : World) (limits : Limits) → IsEmpty w limits → Related w
at_first w limits h = record { facts = facts_first w limits h; cancels = cancels_first w limits h }

-- two fronts of one list: one is a front of the other
pub fronts_of_one : (xs ys zs : List ℕ) → IsFront xs zs → IsFront ys zs → IsFront xs ys ⊎ IsFront ys xs
fronts_of_one [] ys zs f g = inl (record { rest = ys; is = refl })
fronts_of_one (x ∷ xs) [] zs f g = inr (record { rest = x ∷ xs; is = refl })
fronts_of_one (x ∷ xs) (y ∷ ys) zs f g =
    more (same f g) (fronts_of_one xs ys (xs ++ f.rest) (record { rest = f.rest; is = refl }) (record { rest = g.rest; is = tails f g }))
  where
    same : IsFront (x ∷ xs) zs → IsFront (y ∷ ys) zs → y ≡ x
    same f g = let e : y ∷ (ys ++ g.rest) ≡ x ∷ (xs ++ f.rest) = g.is ∙ sym f.is in cc

    tails : (f : IsFront (x ∷ xs) zs) → (g : IsFront (y ∷ ys) zs) → ys ++ g.rest ≡ xs ++ f.rest
    tails f g = let e : y ∷ (ys ++ g.rest) ≡ x ∷ (xs ++ f.rest) = g.is ∙ sym f.is in cc

    more : y ≡ x → IsFront xs ys ⊎ IsFront ys xs → IsFront (x ∷ xs) (y ∷ ys) ⊎ IsFront (y ∷ ys) (x ∷ xs)
    more e (inl h) = inl (record { rest = h.rest; is = ap (λ (a : ℕ). a ∷ (xs ++ h.rest)) (sym e) ∙ ap (λ (l : List ℕ). y ∷ l) h.is })
    more e (inr h) = inr (record { rest = h.rest; is = ap (λ (a : ℕ). a ∷ (ys ++ h.rest)) e ∙ ap (λ (l : List ℕ). x ∷ l) h.is })

same_lent : (c d : ℕ) → Lent c ≡ Lent d → c ≡ d
same_lent c d p = cc

same_promised : (c d : ℕ) → Promised c ≡ Promised d → c ≡ d
same_promised c d p = cc

-- a link's role names the client that has it
abbrev Names : Role → ℕ → Type 0
Names role c = (role ≡ Lent c) ⊎ (role ≡ Promised c)

names_one : (role : Role) (c d : ℕ) → Names role c → Names role d → c ≡ d
names_one role c d (inl e) (inl f) = same_lent c d (sym e ∙ f)
names_one role c d (inr e) (inr f) = same_promised c d (sym e ∙ f)
names_one role c d (inl e) (inr f) = absurd (go (sym e ∙ f))
  where
    go : Lent c ≡ Promised d → ⊥
    go p = cc
names_one role c d (inr e) (inl f) = absurd (go (sym e ∙ f))
  where
    go : Promised c ≡ Lent d → ⊥
    go p = cc

named_by : {w : World} (c l : ℕ) → AreRelated w → HasIt (w.clients c).phase l → Names (w.links l).role c
named_by c l r (is_served e) = inl (fits_at c (Served l) r e).1
named_by c l r (awaits key e) = inr (fits_at c (Starting key l) r e).1

also_named : {w : World} (d l : ℕ) → AreRelated w → HasIt (w.clients d).phase l ⊎ Names (w.links l).role d → Names (w.links l).role d
also_named d l r (inl h) = named_by d l r h
also_named d l r (inr n) = n

either : (xs ys : List ℕ) → IsFront xs ys ⊎ IsFront ys xs → Begins xs ys ⊎ Begins ys xs
either xs ys (inl f) = inl (record { more = f.rest; both = f.is })
either xs ys (inr f) = inr (record { more = f.rest; both = f.is })

-- only the catalogue of the row that the login leads to counts
same_after : (c d : Address → CatalogueOf) (word : KeyWord) (marks : List Bool) (o : End Way Reason) → ((key : StartKeyOf) (left : List ℕ) → o ≡ Passed (ToLink key) left → c (address_of key) ≡ d (address_of key)) → after_in c word marks o ≡ after_in d word marks o
same_after c d word marks (Passed (ToLink key) left) h = ap (λ (cat : CatalogueOf). service_pieces cat key word marks left) (h key left refl)
same_after c d word marks (Passed ToConsole left) h = refl
same_after c d word marks Unfinished h = refl
same_after c d word marks (Stopped reason) h = refl

-- and of the marks only what they mark
served_by_marks : (cat : CatalogueOf) (st : Result State Cause) (word : KeyWord) (marks others : List Bool) (fs : List FrameOf) → AreSameMarks marks others →
    served cat st word.pid word.secret marks fs ≡ served cat st word.pid word.secret others fs
served_by_marks cat (Ok s) word marks others fs h = ap (λ (a : Answer). welcome s word.pid word.secret ++ a.replies) (runs_by_marks cat s marks others fs h)
served_by_marks cat (Err cause) word marks others fs h = refl

same_marks : (c : Address → CatalogueOf) (word : KeyWord) (marks others : List Bool) (o : End Way Reason) → AreSameMarks marks others → after_in c word marks o ≡ after_in c word others o
same_marks c word marks others (Passed (ToLink key) left) h = ap (map spelling) (served_by_marks (c (address_of key)) (fresh (c (address_of key)) key) word marks others (client_frames left) h)
same_marks c word marks others (Passed ToConsole left) h = refl
same_marks c word marks others Unfinished h = refl
same_marks c word marks others (Stopped reason) h = refl

same_own : (w v : World) (x y : Client) → Agree w v x y → own w x ≡ own v y
same_own w v x y a =
    ap (λ (ps : List (List ℕ)). (login x.row x.word x.sent).pieces ++ ps) (same_after w.catalogue v.catalogue x.word x.struck (login x.row x.word x.sent).ended a.catalogue)
    ∙ ap (λ (ps : List (List ℕ)). (login x.row x.word x.sent).pieces ++ ps) (same_marks v.catalogue x.word x.struck y.struck (login x.row x.word x.sent).ended a.struck)
    ∙ ap (λ (row : LoginRow). solo_in v.catalogue row x.word y.struck x.sent) a.row
    ∙ ap₂ (λ (word : KeyWord) (bytes : List ℕ). solo_in v.catalogue y.row word y.struck bytes) a.word a.sent

-- a client with its living link: all is told, held, or still to come
exact_service : (catalogue : Address → CatalogueOf) (x : Client) (y : Link) → y.alive ≡ true → InService (catalogue (address_of y.key)) x y → IsLent (catalogue (address_of y.key)) y →
    (x.out ++ x.for_client) ++ future (catalogue (address_of y.key)) y (x.for_link ++ x.unread) ≡ joined_pieces (solo_in catalogue x.row x.word x.struck x.sent)
exact_service catalogue x y live h k =
    let cat : CatalogueOf = catalogue (address_of y.key) in
    let r = k.runs in
    let same : k.base ≡ h.base = fresh_one (sym k.is_fresh ∙ h.is_fresh) in
    let more : List ℕ = x.for_link ++ x.unread in
    let now : State = (run_frames cat k.base y.struck r.taken).next in
    let rest : List FrameOf = client_frames (y.inbox ++ more) in
    let said : List FrameOf = (run_frames cat k.base y.struck r.taken).replies in
    let last : List FrameOf = (run_frames cat now [] rest).replies in
    let pieces : List ℕ = joined_pieces (login x.row x.word x.sent).pieces in
    let hello : List FrameOf = welcome k.base x.word.pid x.word.secret in
    let left : List ℕ = y.sent ++ more in
    let taken_all : client_frames left ≡ r.taken ++ rest =
    ap client_frames (ap (λ (b : List ℕ). b ++ more) r.sent_is ∙ append_assoc (flat_map spelling r.taken) y.inbox more) ∙ frames_after r.taken (y.inbox ++ more) r.are_sent in
    let all_said : (run_frames cat k.base y.struck (r.taken ++ rest)).replies ≡ said ++ last =
    replies-append cat k.base y.struck r.taken rest ∙ ap (λ (marks : List Bool). said ++ (run_frames cat now marks rest).replies) (none_left r.taken y.struck r.marked) in
    let after : after_in catalogue x.word x.struck (login x.row x.word x.sent).ended ≡ map spelling (hello ++ (said ++ last)) =
    ap (λ (marks : List Bool). after_in catalogue x.word marks (login x.row x.word x.sent).ended) h.struck
    ∙ after_passed catalogue x.word y.struck (login x.row x.word x.sent).ended y.key left k.base h.passed k.is_fresh
    ∙ ap (λ (fs : List FrameOf). map spelling (hello ++ (run_frames cat k.base y.struck fs).replies)) taken_all ∙ ap (λ (fs : List FrameOf). map spelling (hello ++ fs)) all_said in
    let told : x.out ++ x.for_client ≡ pieces ++ (flat_map spelling hello ++ y.received) =
    h.told ∙ ap (λ (s : State). pieces ++ (flat_map spelling (welcome s x.word.pid x.word.secret) ++ y.received)) (sym same) in
    let whole : joined_pieces (solo_in catalogue x.row x.word x.struck x.sent) ≡ pieces ++ (flat_map spelling hello ++ (flat_map spelling said ++ flat_map spelling last)) =
    joined-append (login x.row x.word x.sent).pieces (after_in catalogue x.word x.struck (login x.row x.word x.sent).ended)
    ∙ ap (λ (b : List ℕ). pieces ++ b) (ap joined_pieces after ∙ joined-frames (hello ++ (said ++ last)) ∙ spelled-append hello (said ++ last) ∙ ap (λ (b : List ℕ). flat_map spelling hello ++ b) (spelled-append said last)) in
    ap₂ (λ (b : List ℕ) (s : State). b ++ (y.outbox ++ flat_map spelling (run_frames cat s [] rest).replies)) told r.session_is
    ∙ regroup pieces (flat_map spelling hello) y.received y.outbox (flat_map spelling last)
    ∙ ap (λ (b : List ℕ). pieces ++ (flat_map spelling hello ++ (b ++ flat_map spelling last))) (r.all_told live)
    ∙ sym whole
  where
    regroup : (a b c d e : List ℕ) → (a ++ (b ++ c)) ++ (d ++ e) ≡ a ++ (b ++ ((c ++ d) ++ e))
    regroup a b c d e = simp append_assoc

no_frames : client_frames [] ≡ []
no_frames = ap (λ (c : Cut). c.frames) (frames-stopped OfClient MAX_FRAME [] tt)

silent : (cat : CatalogueOf) (s : State) (b : List ℕ) → b ≡ [] → flat_map spelling (run_frames cat s [] (client_frames b)).replies ≡ []
unfolding run_frames
silent cat s b e = ap (λ (l : List ℕ). flat_map spelling (run_frames cat s [] (client_frames l)).replies) e ∙ ap (λ (fs : List FrameOf). flat_map spelling (run_frames cat s [] fs).replies) no_frames

-- where nothing is under way, all was given
quiet_service : (catalogue : Address → CatalogueOf) (x : Client) (y : Link) → IsQuiet x y → InService (catalogue (address_of y.key)) x y → IsLent (catalogue (address_of y.key)) y → given x ≡ joined_pieces (solo_in catalogue x.row x.word x.struck x.sent)
quiet_service catalogue x y q h k =
    let cat : CatalogueOf = catalogue (address_of y.key) in
    let more : List ℕ = x.for_link ++ x.unread in
    let none : y.inbox ++ more ≡ [] = ap₂ (λ (a b : List ℕ). a ++ (b ++ x.unread)) q.inbox q.for_link ∙ q.unread in
    let nothing : future cat y more ≡ [] = ap₂ (λ (a b : List ℕ). a ++ b) q.outbox (silent cat y.session (y.inbox ++ more) none) in
    ap (λ (a : List ℕ). x.out ++ a) (h.quiet ∙ sym q.for_client)
    ∙ sym (append-nil (x.out ++ x.for_client)) ∙ ap (λ (b : List ℕ). (x.out ++ x.for_client) ++ b) (sym nothing)
    ∙ exact_service catalogue x y q.alive h k

module _ (keep : Keep) where
  pub related : {w : World} → Reached w → Related w
  related {w} (begins limits h) = at_first w limits h
  related (goes_on h s) = keeps keep s (related h)

  over : {w : World} → Reached w → (c : ℕ) → IsOver w.catalogue (w.clients c)
  over {w} h c = let r = (related h).facts in phase_over w.catalogue w.links r.lawful r.links c (w.clients c).phase (w.clients c) (r.clients c)

  pub every : (w : World) → Reached w → (c : ℕ) → Allowed (given (w.clients c)) (own w (w.clients c))
  every w h c = (over h c).allowed

  pub outs : OutsBegin
  outs w h c = let f = (over h c).out_front in record { more = f.rest; both = f.is }

  pub apart : RefusalsStandApart
  apart w h c = ⊎_elim (λ q. inl q) (λ k. inr (record { pieces = k.pieces; kept = k.first.rest; pieces_are = k.first.is; out_is = k.out_is; cause = k.cause; begins = record { more = k.text.rest; both = k.text.is } })) (over h c).apart

  pub one_client : LinksServeOne
  one_client w h c d l e f =
      let r = (related h).facts in
      names_one (w.links l).role c d (named_by c l r e) (also_named d l r f)

  pub idle_fresh : IdleLinksAreFresh
  idle_fresh w h l key i =
      let r = (related h).facts in
      let e = r.idle l key i in
      let k = role_at l Idle r e.0 in
      (e.1, λ lives. record { is_fresh = k.is_fresh; inbox = k.inbox; outbox = k.outbox })

  pub all_served : (w : World) → Reached w → (c l : ℕ) → (w.clients c).phase ≡ Served l → IsQuiet (w.clients c) (w.links l) → given (w.clients c) ≡ joined_pieces (own w (w.clients c))
  all_served w h c l e q =
      let r = (related h).facts in
      let f = fits_at c (Served l) r e in
      quiet_service w.catalogue (w.clients c) (w.links l) q f.0 (role_at l (Lent c) r f.1)

  pub leases_exact : (w : World) → Reached w → (c l : ℕ) → (w.clients c).phase ≡ Served l → (w.links l).alive ≡ true
      → ((w.clients c).out ++ (w.clients c).for_client) ++ future (w.catalogue (address_of (w.links l).key)) (w.links l) ((w.clients c).for_link ++ (w.clients c).unread) ≡ joined_pieces (own w (w.clients c))
  leases_exact w h c l e live =
      let r = (related h).facts in
      let f = fits_at c (Served l) r e in
      exact_service w.catalogue (w.clients c) (w.links l) live f.0 (role_at l (Lent c) r f.1)

-- two worlds, by what holds in every one
pub two : OutsBegin → TwoWorlds
two outs w v hw hv c d a =
    let x = w.clients c in
    let y = v.clients d in
    let f = outs w hw c in
    let g = outs v hv d in
    either x.out y.out (fronts_of_one x.out y.out (joined_pieces (own v y)) (subst (λ (ps : List (List ℕ)). IsFront x.out (joined_pieces ps)) (same_own w v x y a) (record { rest = f.more; is = f.both })) (record { rest = g.more; is = g.both }))
