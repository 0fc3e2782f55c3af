-- A client's lease, and what it was given at its end.
use Rattle.std.proofs.Common.{◌≡◌, inl, ℕ, true, List, [], ◌∷◌, ◌++◌, refl, sym, ap, ap₂, ◌∙◌, arith, append_assoc, append-nil, subst, drop, take-append-drop, Result, Ok, Err, Some, length}
use Rattle.std.specs.Prelude.{map}
use Rattle.std.specs.List.{flat_map, AllByRecursion}
use Rattle.std.proofs.lemmas.Grind.{flat_map-append}
use Rattle.frame_view.specs.declared.Side.TheVariants.{Server}
use Rattle.frame_view.specs.declared.frames.TheConstants.{MAX_FRAME}
use Rattle.frame_view.specs.Frames.{AreBytes, FrameOf, IsFrame, spelling}
use Rattle.message_laws.proofs.Trips.{bytes_after}
use Rattle.message_view.specs.declared.KeyWord.{KeyWord}
use Rattle.message_view.specs.Refusals.{Begins, joined_pieces}
use Rattle.session_values.specs.declared.cause.Cause.{Cause}
use Rattle.session_values.specs.State.{State, CatalogueOf, StartKeyOf, fresh}
use Rattle.session_values.specs.Step.{run_frames}
use Rattle.session_values.specs.Service.{client_frames, served, service, welcome}
use Rattle.session_laws.specs.Laws.{Reaches}
use Rattle.session_laws.proofs.ByName.{fresh_is_reached}
use Rattle.session_run_laws.proofs.ByName.{client_frames_are_sent, run_replies_are_frames}
use Rattle.link_model.specs.Standing.{ClientFacts, marks_since}
use Rattle.link_model.specs.Dialogues.{start_error}
use Rattle.link_model.proofs.Splits.{SplitsOff, same_back, split_whole}
use Rattle.link_run.specs.Links.{IsFreshLink, LinkView}
use Rattle.login_core.specs.Talk.End.{Passed}
use Rattle.login_core.specs.Dialogue.{ToLink, login_among}
use Rattle.login_core.specs.Solo.{service_pieces}
use Rattle.login_core.proofs.Telling.{service_is}
use Rattle.memory_ends.proofs.Whose.{Apart, whose}
use Rattle.session_run_laws.proofs.Pieces.{pieces_join, pieces_of_both}
use Rattle.session_run_laws.proofs.Service.{begins_both, service_on}
use Rattle.relay_model.specs.Leases.{IsAllowed, IsLease, Keeps, Place, RelayView, place}
use Rattle.relay_model.proofs.Exact.{lease_allowed, spared_service}
use Rattle.relay_model.specs.Answers.{AtBorder}
use Rattle.act_client.specs.Clients.{ActClientOf, facts_of, given_more}
use Rattle.memory_ends.specs.Clients.{given_with}
use Rattle.memory_pool.specs.MemoryPools.{MemoryPoolOf, IsAtHome, IsServerOf, IsStartError}
use Rattle.play.specs.Players.{IsAtPiece, IsDone, IsServed, StopsAt, Waits, rows_of}
use Rattle.play.proofs.Pieces.{joined_both, joined_one, own_is, service_piece}

-- ---- a lease begins

pub lease_begins : (h : MemoryPoolOf) (word : KeyWord) (c : ActClientOf) (l : LinkView) (limit : ℕ) (v : RelayView) → Waits h word c l.key → IsAtHome h.catalogue l → IsLease (place (facts_of c) l word limit) v → IsServed h word c.input v
lease_begins h word c l limit v x home lease = record {
  at = place (facts_of c) l word limit;
  lease = lease;
  told = refl;
  word_is = refl;
  server = home;
  pieces = x.pieces;
  passed = x.passed;
  given = ap (given_with c.input) x.given;
}

-- and goes on
pub lease_goes : (h : MemoryPoolOf) (word : KeyWord) (bytes : List ℕ) (v w : RelayView) → Keeps v w → IsServed h word bytes v → IsServed h word bytes w
lease_goes h word bytes v w k x = record {
  at = x.at;
  lease = k x.at x.lease;
  told = x.told;
  word_is = x.word_is;
  server = x.server;
  pieces = x.pieces;
  passed = x.passed;
  given = x.given;
}

pub lease_stops : (h : MemoryPoolOf) (word : KeyWord) (bytes : List ℕ) (v w : RelayView) → Keeps v w → ((p : Place) → IsLease p v → AtBorder p w) → IsServed h word bytes v → StopsAt h word bytes w
unfolding lease_goes
lease_stops h word bytes v w k b x = record { served = lease_goes h word bytes v w k x; border = b x.at x.lease }

-- its link is at home
pub lease_home : (h : MemoryPoolOf) (word : KeyWord) (bytes : List ℕ) (v : RelayView) → IsServed h word bytes v → IsServerOf h.catalogue v.link
lease_home h word bytes v x = record {
  follows = x.lease.moves.follows ∙ x.server.follows;
  catalogue = ap (λ s. s.catalogue) x.lease.moves.server ∙ x.server.catalogue;
  spared = ap (λ s. s.strikable) x.lease.moves.server ∙ x.server.spared;
}

-- ---- it ends

-- whose client it was, what it was given, and what it sent behind its login
pub record Ends (h : MemoryPoolOf) (word : KeyWord) (bytes : List ℕ) (c : ActClientOf) (v : RelayView) (x : IsServed h word bytes v) : Type 0 where
  pub input : c.input ≡ bytes
  pub since : List ℕ
  pub given : c.given ≡ joined_pieces x.pieces ++ since
  pub from_link : v.client.given ≡ x.at.given ++ since
  pub left : List ℕ
  pub passed : login_among (rows_of h) word c.input ≡ record { pieces = x.pieces; ended = Passed (ToLink x.at.key) left }
  pub behind : (before : List ℕ) × (before ++ left ≡ c.input)
  pub there : Begins (since ++ (v.greeting ++ (v.to_client.held ++ v.to_client.part))) (service h.catalogue x.at.key word.pid word.secret [] left)

shifted : (bytes first since : List ℕ) → given_with bytes first ++ since ≡ given_with bytes [] ++ (first ++ since)
shifted bytes first since = ap (λ (l : List ℕ). length bytes ∷ l) (append_assoc bytes first since ∙ ap (λ (l : List ℕ). l ++ (first ++ since)) (sym (append-nil bytes)))

front_of : (f t p d : List ℕ) → (f ++ t) ++ (p ++ d) ≡ (f ++ (t ++ p)) ++ d
front_of f t p d = append_assoc f t (p ++ d) ∙ (ap (λ (l : List ℕ). f ++ l) (sym (append_assoc t p d)) ∙ sym (append_assoc f (t ++ p) d))

service_begins : (cat : CatalogueOf) (key : StartKeyOf) (pid secret : ℕ) (a bytes : List ℕ) → Begins a bytes → Begins (service cat key pid secret [] a) (service cat key pid secret [] bytes)
service_begins cat key pid secret a bytes x = subst (λ (l : List ℕ). Begins (service cat key pid secret [] a) (service cat key pid secret [] l)) x.both (service_on cat key pid secret [] a x.more)

pub lease_ends : (h : MemoryPoolOf) (word : KeyWord) (bytes : List ℕ) (c : ActClientOf) (v : RelayView) (x : IsServed h word bytes v) → facts_of c ≡ v.client → Ends h word bytes c v x
lease_ends h word bytes c v x e =
    let tells : v.client.tells ≡ true = x.lease.told ∙ x.told in
    let follows : v.link.follows ≡ true = x.lease.moves.follows ∙ x.server.follows in
    let a : IsAllowed x.at v = lease_allowed x.at v x.lease tells follows in
    let f : List ℕ = flat_map spelling a.forwarded in
    let some : List ℕ = f ++ (a.tail ++ v.to_link.part) in
    let rest : List ℕ = drop c.at c.input in
    let w : Apart c.input bytes c.given (joined_pieces x.pieces ++ a.since) = whose c.input c.given bytes (joined_pieces x.pieces ++ a.since)
    (ap (λ (t : ClientFacts). t.given) e ∙ (a.given ∙ (ap (λ (l : List ℕ). l ++ a.since) x.given ∙ shifted bytes (joined_pieces x.pieces) a.since))) in
    let whole : x.at.taken ++ (some ++ rest) ≡ c.input = sym (append_assoc x.at.taken some rest) ∙ (ap (λ (l : List ℕ). l ++ rest) (sym a.taken ∙ sym (ap (λ (t : ClientFacts). t.taken) e)) ∙ take-append-drop c.at c.input) in
    let own : service x.at.stands.server.catalogue v.key v.word.pid v.word.secret (marks_since x.at.stands v.link) (f ++ a.tail) ≡ service h.catalogue x.at.key word.pid word.secret [] (f ++ a.tail) =
    spared_service x.at v x.lease x.server.follows x.server.spared x.at.stands.server.catalogue v.key v.word.pid v.word.secret (f ++ a.tail)
    ∙ (ap (λ (k : CatalogueOf). service k v.key v.word.pid v.word.secret [] (f ++ a.tail)) x.server.catalogue
    ∙ ap₂ (λ (k : StartKeyOf) (d : KeyWord). service h.catalogue k d.pid d.secret [] (f ++ a.tail)) x.lease.same.0 (x.lease.same.3 ∙ x.word_is)) in
    record {
      input = w.front;
      since = a.since;
      given = w.back;
      from_link = a.given;
      left = some ++ rest;
      passed = ap (login_among (rows_of h) word) (sym whole) ∙ x.passed (some ++ rest);
      behind = (x.at.taken, whole);
      there = begins_both _ _ _ (record { more = a.more; both = a.front ∙ own }) (service_begins h.catalogue x.at.key word.pid word.secret (f ++ a.tail) (some ++ rest) (record { more = v.to_link.part ++ rest; both = front_of f a.tail v.to_link.part rest }));
    }

-- what it was given begins what its own server answers
begun : (h : MemoryPoolOf) (word : KeyWord) (c : ActClientOf) (pieces : List (List ℕ)) (key : StartKeyOf) (left since held : List ℕ) → login_among (rows_of h) word c.input ≡ record { pieces = pieces; ended = Passed (ToLink key) left } → c.given ≡ joined_pieces pieces ++ since
    → Begins (since ++ held) (service h.catalogue key word.pid word.secret [] left) → IsDone h word c
begun h word c pieces key left since held e g b = inl (record {
  more = held ++ b.more;
  both = ap (λ (l : List ℕ). l ++ (held ++ b.more)) g
      ∙ (append_assoc (joined_pieces pieces) since (held ++ b.more)
      ∙ (ap (λ (l : List ℕ). joined_pieces pieces ++ l) (sym (append_assoc since held b.more) ∙ (b.both ∙ sym (service_is h.catalogue key word [] left)))
      ∙ (sym (joined_both pieces (service_pieces h.catalogue key word [] left)) ∙ ap joined_pieces (sym (own_is h word c.input _ e)))));
})

pub lease_done : (h : MemoryPoolOf) (word : KeyWord) (bytes : List ℕ) (c : ActClientOf) (v : RelayView) → IsServed h word bytes v → facts_of c ≡ v.client → IsDone h word c
lease_done h word bytes c v x e =
    let k : Ends h word bytes c v x = lease_ends h word bytes c v x e in
    begun h word c x.pieces x.at.key k.left k.since _ k.passed k.given k.there

pub lease_input : (h : MemoryPoolOf) (word : KeyWord) (bytes : List ℕ) (c : ActClientOf) (v : RelayView) → IsServed h word bytes v → facts_of c ≡ v.client → c.input ≡ bytes
lease_input h word bytes c v x e = (lease_ends h word bytes c v x e).input

-- ---- it is refused at a border

served_fresh : (cat : CatalogueOf) (key : StartKeyOf) (word : KeyWord) (left : List ℕ) (s : State) → fresh cat key ≡ Ok s → service_pieces cat key word [] left ≡ map spelling (welcome s word.pid word.secret ++ (run_frames cat s [] (client_frames left)).replies)
served_fresh cat key word left s e = ap (λ (r : Result State Cause). map spelling (served cat r word.pid word.secret [] (client_frames left))) e

service_fresh : (cat : CatalogueOf) (key : StartKeyOf) (word : KeyWord) (left : List ℕ) (s : State) → fresh cat key ≡ Ok s → service cat key word.pid word.secret [] left ≡ flat_map spelling (welcome s word.pid word.secret) ++ flat_map spelling (run_frames cat s [] (client_frames left)).replies
unfolding service
service_fresh cat key word left s e = ap (λ (r : Result State Cause). flat_map spelling (served cat r word.pid word.secret [] (client_frames left))) e ∙ flat_map-append spelling (welcome s word.pid word.secret) (run_frames cat s [] (client_frames left)).replies

-- whole frames before some bytes are the first of the replies
first_replies : (cat : CatalogueOf) (key : StartKeyOf) (s : State) (ws arrived : List FrameOf) (since held left more : List ℕ) → Reaches cat key s → AreBytes left → AllByRecursion (IsFrame Server MAX_FRAME) arrived
    → since ≡ flat_map spelling ws ++ flat_map spelling arrived → (since ++ held) ++ more ≡ flat_map spelling ws ++ flat_map spelling (run_frames cat s [] (client_frames left)).replies
    → SplitsOff (run_frames cat s [] (client_frames left)).replies arrived [] (held ++ more)
first_replies cat key s ws arrived since held left more r ab came i b =
    split_whole Server MAX_FRAME _ arrived (held ++ more) (omega arith) (run_replies_are_frames cat key s [] (client_frames left) r (client_frames_are_sent left ab)) came
    (same_back (flat_map spelling ws) _ (flat_map spelling arrived ++ (held ++ more))
    (sym b ∙ (append_assoc since held more ∙ (ap (λ (l : List ℕ). l ++ (held ++ more)) i ∙ append_assoc (flat_map spelling ws) (flat_map spelling arrived) (held ++ more)))))

pub lease_piece : (h : MemoryPoolOf) (word : KeyWord) (bytes : List ℕ) (c : ActClientOf) (v : RelayView) → (x : StopsAt h word bytes v) → facts_of c ≡ v.client → AreBytes bytes → IsAtPiece h word c
lease_piece h word bytes c v x e ab =
    let y : IsServed h word bytes v = x.served in
    let k : Ends h word bytes c v y = lease_ends h word bytes c v y e in
    let tells : v.client.tells ≡ true = y.lease.told ∙ y.told in
    let l : IsFreshLink y.at.stands v.key y.at.reports = y.lease.clean.fresh y.server.follows in
    let s : State = l.stands.session in
    let key_is : v.key ≡ y.at.key = y.lease.same.0 in
    let opened : fresh h.catalogue y.at.key ≡ Ok s = sym (ap₂ fresh y.server.catalogue key_is) ∙ l.stands.is_fresh in
    let reached : Reaches h.catalogue y.at.key s = subst (λ (q : StartKeyOf). Reaches h.catalogue q s) key_is (subst (λ (t : CatalogueOf). Reaches t v.key s) y.server.catalogue (fresh_is_reached y.at.stands.server.catalogue v.key s l.stands.lawful l.stands.lawful_key l.stands.is_fresh)) in
    let ws : List FrameOf = welcome s word.pid word.secret in
    let same : x.border.since ≡ k.since = same_back y.at.given x.border.since k.since (sym (x.border.given tells) ∙ k.from_link) in
    let greets : y.at.greeting ≡ flat_map spelling ws = y.lease.greets y.server.follows s l.stands.is_fresh ∙ ap (λ (d : KeyWord). flat_map spelling (welcome s d.pid d.secret)) (y.lease.same.3 ∙ y.word_is) in
    let since_is : k.since ≡ flat_map spelling ws ++ flat_map spelling x.border.arrived = sym same ∙ (x.border.whole ∙ ap (λ (g : List ℕ). g ++ flat_map spelling x.border.arrived) greets) in
    let held : List ℕ = v.greeting ++ (v.to_client.held ++ v.to_client.part) in
    let o : SplitsOff (run_frames h.catalogue s [] (client_frames k.left)).replies x.border.arrived [] (held ++ k.there.more) =
    first_replies h.catalogue y.at.key s ws x.border.arrived k.since held k.left k.there.more reached (bytes_after k.behind.0 k.left (subst AreBytes (sym (k.behind.1 ∙ k.input)) ab)) x.border.came since_is (k.there.both ∙ service_fresh h.catalogue y.at.key word k.left s opened) in
    service_piece h word c y.at.key y.pieces (map spelling (ws ++ x.border.arrived)) (map spelling o.more) k.left k.passed
    (pieces_of_both (ws ++ x.border.arrived) o.more ∙ (ap (map spelling) (append_assoc ws x.border.arrived o.more ∙ ap (λ (fs : List FrameOf). ws ++ fs) (sym o.all)) ∙ sym (served_fresh h.catalogue y.at.key word k.left s opened)))
    (k.given ∙ (ap (λ (b : List ℕ). joined_pieces y.pieces ++ b) (since_is ∙ (sym (flat_map-append spelling ws x.border.arrived) ∙ sym (pieces_join (ws ++ x.border.arrived)))) ∙ sym (joined_both y.pieces (map spelling (ws ++ x.border.arrived)))))

-- ---- a start that the server refuses

error_piece : (cat : CatalogueOf) (r : Result State Cause) (f : FrameOf) (word : KeyWord) (fs : List FrameOf) → start_error r ≡ Some f → map spelling (served cat r word.pid word.secret [] fs) ≡ spelling f ∷ []
error_piece cat (Ok s) f word fs e = absurd cc
error_piece cat (Err c) f word fs e = cc

pub start_fails : (h : MemoryPoolOf) (word : KeyWord) (c : ActClientOf) (key : StartKeyOf) (error : List ℕ) → Waits h word c key → IsStartError h.catalogue key error → IsAtPiece h word (given_more c error)
start_fails h word c key error x r =
    let rest : List ℕ = drop c.at c.input in
    service_piece h word (given_more c error) key x.pieces (error ∷ []) [] rest (ap (login_among (rows_of h) word) (sym (take-append-drop c.at c.input)) ∙ x.passed rest)
    (ap (λ (p : List ℕ). p ∷ []) r.whole ∙ sym (error_piece h.catalogue (fresh h.catalogue key) r.frame word (client_frames rest) r.refused))
    (ap (λ (b : List ℕ). b ++ error) x.given ∙ joined_one x.pieces error)
