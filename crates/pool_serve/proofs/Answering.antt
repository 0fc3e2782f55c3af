-- What a client was given by its lease.
use Rattle.std.proofs.Common.{◌≡◌, ℕ, Bool, true, List, [], ◌∷◌, ◌++◌, refl, sym, ap, ap₂, ◌∙◌, subst, arith, append_assoc, append-nil, Result, Ok, Err, Option, Some}
use Rattle.std.specs.Prelude.{map, None, IfSome}
use Rattle.std.specs.List.{flat_map, AllByRecursion}
use Rattle.std.proofs.lemmas.Grind.{flat_map-append}
use Rattle.frame_view.specs.declared.Side.{Side}
use Rattle.frame_view.specs.declared.Side.TheVariants.{Client, Server}
use Rattle.frame_view.specs.declared.frames.TheConstants.{MAX_FRAME}
use Rattle.frame_view.specs.Frames.{Cut, FrameOf, IsFrame, Stops, frames, front, spelling}
use Rattle.frame_view.proofs.Splitting.{frames-go_on, splits-one_way}
use Rattle.message_view.specs.declared.KeyWord.{KeyWord}
use Rattle.message_view.specs.declared.refusal.Refusal.{Refusal}
use Rattle.message_view.specs.Refusals.{Begins, joined_pieces}
use Rattle.session_values.specs.declared.cause.Cause.{Cause}
use Rattle.session_values.specs.State.{Answer, CatalogueOf, State, StartKeyOf, fresh}
use Rattle.session_values.specs.Step.{marks_after, run_frames}
use Rattle.session_values.specs.Service.{client_frames, served, service, welcome}
use Rattle.session_laws.specs.Laws.{IsSent, Reaches}
use Rattle.session_laws.proofs.ByName.{fresh_is_reached}
use Rattle.session_run_laws.proofs.ByName.{run_replies_are_frames, runs_go_on}
use Rattle.link_model.specs.Standing.{ClientFacts, marks_since}
use Rattle.link_model.proofs.ByName.{spared_are_unstruck}
use Rattle.link_model.proofs.Splits.{SplitsOff, same_back, split_whole}
use Rattle.link_run.specs.Links.{IsFreshLink, LinkView}
use Rattle.login_core.specs.Laws.{ServiceIsItsPieces}
use Rattle.login_core.specs.Solo.{service_pieces}
use Rattle.login_run.specs.Laws.{IsAtPiece}
use Rattle.session_run_laws.proofs.Pieces.{pieces_join, pieces_of_both}
use Rattle.relay_flow.proofs.Parting.{opens_stops}
use Rattle.relay_model.specs.Laws.{LeasesAreAllowed}
use Rattle.relay_model.specs.Leases.{IsAllowed, IsLease, Keeps, Place, RelayView, place}
use Rattle.relay_model.proofs.Exact.{all-sent}
use Rattle.relay_model.specs.Answers.{AtBorder, RefusedBy}
use Rattle.pool_serve.specs.FinalMessages.{or_nothing}
use Rattle.pool_serve.specs.Serving.{AreMarksOf, Serves}
use Rattle.pool_serve.proofs.Causing.{relay_fault}
use Rattle.pool_serve.specs.declared.final_message.FinalMessage.TheVariants as last

-- ---- the service of more bytes

more_frames : (a b : List ℕ) → client_frames (a ++ b) ≡ client_frames a ++ client_frames ((frames Client MAX_FRAME a).rest ++ b)
more_frames a b = ap (λ (c : Cut). c.frames) (frames-go_on Client MAX_FRAME a b)

-- the pieces go on
record GoesOn (part whole : List (List ℕ)) : Type 0 where
  more : List (List ℕ)
  both : part ++ more ≡ whole

served_on : (cat : CatalogueOf) (r : Result State Cause) (pid secret : ℕ) (marks : List Bool) (fs gs : List FrameOf) → GoesOn (map spelling (served cat r pid secret marks fs)) (map spelling (served cat r pid secret marks (fs ++ gs)))
served_on cat (Err c) pid secret marks fs gs = record { more = []; both = append-nil _ }
served_on cat (Ok s) pid secret marks fs gs =
    let rs : List FrameOf = (run_frames cat s marks fs).replies in
    let qs : List FrameOf = (run_frames cat (run_frames cat s marks fs).next (marks_after fs marks) gs).replies in
    record {
      more = map spelling qs;
      both = pieces_of_both (welcome s pid secret ++ rs) qs
          ∙ (ap (map spelling) (append_assoc (welcome s pid secret) rs qs) ∙ ap (λ (a : Answer). map spelling (welcome s pid secret ++ a.replies)) (sym (runs_go_on cat s marks fs gs)));
    }

pieces_on : (cat : CatalogueOf) (key : StartKeyOf) (word : KeyWord) (marks : List Bool) (a b : List ℕ) → GoesOn (service_pieces cat key word marks a) (service_pieces cat key word marks (a ++ b))
pieces_on cat key word marks a b =
    let x = served_on cat (fresh cat key) word.pid word.secret marks (client_frames a) (client_frames ((frames Client MAX_FRAME a).rest ++ b)) in
    record { more = x.more; both = x.both ∙ ap (λ (fs : List FrameOf). map spelling (served cat (fresh cat key) word.pid word.secret marks fs)) (sym (more_frames a b)) }

at_piece_on : (out : List ℕ) (part whole : List (List ℕ)) → GoesOn part whole → IsAtPiece out part → IsAtPiece out whole
at_piece_on out part whole g x = record {
  given = x.given;
  kept = x.kept ++ g.more;
  pieces_are = sym (append_assoc x.given x.kept g.more) ∙ (ap (λ (l : List (List ℕ)). l ++ g.more) x.pieces_are ∙ g.both);
  out_is = x.out_is;
}

begins_on : (out : List ℕ) (part whole : List (List ℕ)) → GoesOn part whole → Begins out (joined_pieces part) → Begins out (joined_pieces whole)
begins_on out part whole g x = record {
  more = x.more ++ joined_pieces g.more;
  both = sym (append_assoc out x.more (joined_pieces g.more)) ∙ (ap (λ (l : List ℕ). l ++ joined_pieces g.more) x.both ∙ (sym (flat_map-append (λ (p : List ℕ). p) part g.more) ∙ ap joined_pieces g.both));
}

-- ---- a lease under way since this place

-- what is owed since then
abbrev owed_at : Place → List Bool → List ℕ → List (List ℕ)
owed_at p marks bytes = service_pieces p.stands.server.catalogue p.key p.word marks bytes

same_service : (p : Place) (v : RelayView) (marks : List Bool) (bytes : List ℕ) → v.key ≡ p.key → v.word ≡ p.word → service p.stands.server.catalogue v.key v.word.pid v.word.secret marks bytes ≡ service p.stands.server.catalogue p.key p.word.pid p.word.secret marks bytes
same_service p v marks bytes k w = ap₂ (λ (a : StartKeyOf) (b : KeyWord). service p.stands.server.catalogue a b.pid b.secret marks bytes) k w

-- what was given begins what is owed for the bytes that went on
front_given : ServiceIsItsPieces → (p : Place) (v : RelayView) (x : IsLease p v) (a : IsAllowed p v) → Begins a.since (joined_pieces (owed_at p (marks_since p.stands v.link) (flat_map spelling a.forwarded ++ a.tail)))
front_given own p v x a =
    let held : List ℕ = v.greeting ++ (v.to_client.held ++ v.to_client.part) in
    record {
      more = held ++ a.more;
      both = sym (append_assoc a.since held a.more) ∙ (a.front ∙ (same_service p v (marks_since p.stands v.link) (flat_map spelling a.forwarded ++ a.tail) x.same.0 x.same.3 ∙ sym (own p.stands.server.catalogue p.key p.word (marks_since p.stands v.link) (flat_map spelling a.forwarded ++ a.tail))));
    }

-- no statement is struck at a server that no cancel reaches
unmarked : (p : Place) (v : RelayView) → IsLease p v → p.stands.follows ≡ true → AreMarksOf p.stands.server.strikable (marks_since p.stands v.link)
unmarked p v x f e = spared_are_unstruck p.stands v.link x.sent x.received x.moves f e

unrefused : LeasesAreAllowed → ServiceIsItsPieces → (p : Place) (v : RelayView) → IsLease p v → v.client.tells ≡ true → p.stands.follows ≡ true → (c : ClientFacts) → c.taken ≡ p.taken → c.given ≡ p.given → Serves p.limit p.stands.server.strikable c v.client (owed_at p) last.Nothing
unrefused law own p v x t f c ct cg =
    let a : IsAllowed p v = law p v x t (x.moves.follows ∙ f) in
    let went : List ℕ = flat_map spelling a.forwarded ++ a.tail in
    let marks : List Bool = marks_since p.stands v.link in
    record {
      marks = marks;
      are_marks = unmarked p v x f;
      took = went ++ v.to_link.part;
      gave = a.since;
      taken = a.taken ∙ ap₂ (λ (b d : List ℕ). b ++ d) (sym ct) (sym (append_assoc (flat_map spelling a.forwarded) a.tail v.to_link.part));
      given = a.given ∙ ap (λ (b : List ℕ). b ++ a.since) (sym cg);
      ends = begins_on a.since (owed_at p marks went) (owed_at p marks (went ++ v.to_link.part)) (pieces_on p.stands.server.catalogue p.key p.word marks went v.to_link.part) (front_given own p v x a);
      fault = tt;
    }

-- ---- at a border of the server's frames

all_client : (fs : List FrameOf) → AllByRecursion IsSent fs → AllByRecursion (IsFrame Client MAX_FRAME) fs
all_client [] h = tt
all_client (f ∷ fs) h = (h.0.whole, all_client fs h.1)

-- the frames of bytes that are these, with the beginning of one more
frames_of : (fs : List FrameOf) (tail : List ℕ) → AllByRecursion IsSent fs → Stops (front Client MAX_FRAME tail) → client_frames (flat_map spelling fs ++ tail) ≡ fs
frames_of fs tail h stops = ap (λ (c : Cut). c.frames) (splits-one_way Client MAX_FRAME (flat_map spelling fs ++ tail) fs tail (omega arith) (record { whole = refl; each = all_client fs h; stops = stops }))

pieces_fresh : (cat : CatalogueOf) (key : StartKeyOf) (word : KeyWord) (marks : List Bool) (bytes : List ℕ) (fs : List FrameOf) (s : State) → fresh cat key ≡ Ok s → client_frames bytes ≡ fs → service_pieces cat key word marks bytes ≡ map spelling (welcome s word.pid word.secret ++ (run_frames cat s marks fs).replies)
pieces_fresh cat key word marks bytes fs s e f = ap₂ (λ (r : Result State Cause) (gs : List FrameOf). map spelling (served cat r word.pid word.secret marks gs)) e f

-- the welcome and whole frames, which begin what is owed, are first pieces
whole_pieces : (ws gs rs : List FrameOf) (out more : List ℕ) (pieces : List (List ℕ)) → AllByRecursion (IsFrame Server MAX_FRAME) rs → AllByRecursion (IsFrame Server MAX_FRAME) gs → out ≡ flat_map spelling ws ++ flat_map spelling gs
    → out ++ more ≡ flat_map spelling ws ++ flat_map spelling rs → pieces ≡ map spelling (ws ++ rs) → IsAtPiece out pieces
whole_pieces ws gs rs out more pieces ar ag e b p =
    let all : flat_map spelling ws ++ flat_map spelling rs ≡ flat_map spelling ws ++ (flat_map spelling gs ++ more) = sym b ∙ (ap (λ (l : List ℕ). l ++ more) e ∙ append_assoc (flat_map spelling ws) (flat_map spelling gs) more) in
    let o : SplitsOff rs gs [] more = split_whole Server MAX_FRAME rs gs more (omega arith) ar ag (same_back (flat_map spelling ws) (flat_map spelling rs) (flat_map spelling gs ++ more) all) in
    record {
      given = map spelling (ws ++ gs);
      kept = map spelling o.more;
      pieces_are = pieces_of_both (ws ++ gs) o.more ∙ (ap (map spelling) (append_assoc ws gs o.more ∙ ap (λ (fs : List FrameOf). ws ++ fs) (sym o.all)) ∙ sym p);
      out_is = e ∙ (sym (flat_map-append spelling ws gs) ∙ sym (pieces_join (ws ++ gs)));
    }

same_since : (given : List ℕ) (a b c : List ℕ) → c ≡ given ++ a → c ≡ given ++ b → b ≡ a
same_since given a b c e f = same_back given b a (sym f ∙ e)

at_border : LeasesAreAllowed → ServiceIsItsPieces → (p : Place) (v : RelayView) → IsLease p v → v.client.tells ≡ true → p.stands.follows ≡ true → (b : AtBorder p v) → (bytes : List ℕ) × ((v.client.taken ≡ p.taken ++ (bytes ++ v.to_link.part)) × IsAtPiece b.since (owed_at p (marks_since p.stands v.link) bytes))
at_border law own p v x t f b =
    let a : IsAllowed p v = law p v x t (x.moves.follows ∙ f) in
    let went : List ℕ = flat_map spelling a.forwarded ++ a.tail in
    let marks : List Bool = marks_since p.stands v.link in
    let cat : CatalogueOf = p.stands.server.catalogue in
    let c : IsFreshLink p.stands v.key p.reports = x.clean.fresh f in
    let s : State = c.stands.session in
    let opened : fresh cat p.key ≡ Ok s = ap (fresh cat) (sym x.same.0) ∙ c.stands.is_fresh in
    let ws : List FrameOf = welcome s p.word.pid p.word.secret in
    let sent : AllByRecursion IsSent a.forwarded = all-sent v.to_link.limit a.forwarded a.went in
    let stops : Stops (front Client MAX_FRAME a.tail) = subst (λ (d : Side). Stops (front d MAX_FRAME a.tail)) x.goes.flow.side_is (opens_stops v.to_link.side v.to_link.limit MAX_FRAME a.tail v.to_link.kind v.to_link.rest x.goes.flow.high (omega arith) a.opens) in
    let fs_are : client_frames went ≡ a.forwarded = frames_of a.forwarded a.tail sent stops in
    let rs : List FrameOf = (run_frames cat s marks a.forwarded).replies in
    let pieces : owed_at p marks went ≡ map spelling (ws ++ rs) = pieces_fresh cat p.key p.word marks went a.forwarded s opened fs_are in
    let reached : Reaches cat v.key s = fresh_is_reached cat v.key s c.stands.lawful c.stands.lawful_key c.stands.is_fresh in
    let whole : AllByRecursion (IsFrame Server MAX_FRAME) rs = run_replies_are_frames cat v.key s marks a.forwarded reached sent in
    let out_is : b.since ≡ flat_map spelling ws ++ flat_map spelling b.arrived =
    b.whole ∙ ap (λ (g : List ℕ). g ++ flat_map spelling b.arrived) (x.greets f s c.stands.is_fresh ∙ ap (λ (w : KeyWord). flat_map spelling (welcome s w.pid w.secret)) x.same.3) in
    let g : Begins b.since (joined_pieces (owed_at p marks went)) = subst (λ (l : List ℕ). Begins l (joined_pieces (owed_at p marks went))) (same_since p.given b.since a.since v.client.given (b.given t) a.given) (front_given own p v x a) in
    let all : b.since ++ g.more ≡ flat_map spelling ws ++ flat_map spelling rs = g.both ∙ (ap joined_pieces pieces ∙ (pieces_join (ws ++ rs) ∙ flat_map-append spelling ws rs)) in (
      went,
      (a.taken ∙ ap (λ (d : List ℕ). p.taken ++ d) (sym (append_assoc (flat_map spelling a.forwarded) a.tail v.to_link.part)), whole_pieces ws b.arrived rs b.since g.more (owed_at p marks went) whole b.came out_is all pieces),
    )

refused : LeasesAreAllowed → ServiceIsItsPieces → (p : Place) (v : RelayView) (r : Refusal) → IsLease p v → v.client.tells ≡ true → p.stands.follows ≡ true → AtBorder p v → RefusedBy p v r → (c : ClientFacts) → c.taken ≡ p.taken → c.given ≡ p.given → Serves p.limit p.stands.server.strikable c v.client (owed_at p) (last.Refusal r)
refused law own p v r x t f b w c ct cg =
    let k = at_border law own p v x t f b in
    let marks : List Bool = marks_since p.stands v.link in
    record {
      marks = marks;
      are_marks = unmarked p v x f;
      took = k.0 ++ v.to_link.part;
      gave = b.since;
      taken = k.1.0 ∙ ap (λ (d : List ℕ). d ++ (k.0 ++ v.to_link.part)) (sym ct);
      given = b.given t ∙ ap (λ (d : List ℕ). d ++ b.since) (sym cg);
      ends = at_piece_on b.since (owed_at p marks k.0) (owed_at p marks (k.0 ++ v.to_link.part)) (pieces_on p.stands.server.catalogue p.key p.word marks k.0 v.to_link.part) k.1.1;
      fault = relay_fault p v (k.0 ++ v.to_link.part) r x t k.1.0 w;
    }

answered : LeasesAreAllowed → ServiceIsItsPieces → (p : Place) (old v : RelayView) (r : Option Refusal) → IsLease p old → Keeps old v → v.client.tells ≡ true → p.stands.follows ≡ true → IfSome r (λ s. (q : Place) → IsLease q old → AtBorder q v × RefusedBy q v s) → (c : ClientFacts) → c.taken ≡ p.taken → c.given ≡ p.given
    → Serves p.limit p.stands.server.strikable c v.client (owed_at p) (or_nothing r)
answered law own p old v None i k t f b c ct cg = unrefused law own p v (k p i) t f c ct cg
answered law own p old v (Some r) i k t f b c ct cg = refused law own p v r (k p i) t f (b p i).0 (b p i).1 c ct cg

-- a client whose lease began here and has ended
pub relay_serves : LeasesAreAllowed → ServiceIsItsPieces → (client after : ClientFacts) (link : LinkView) (word : KeyWord) (limit : ℕ) (old v : RelayView) (r : Option Refusal) → IsLease (place client link word limit) old → Keeps old v → after ≡ v.client
    → IfSome r (λ s. (q : Place) → IsLease q old → AtBorder q v × RefusedBy q v s) → client.tells ≡ true → link.stands.follows ≡ true → Serves limit link.stands.server.strikable client after (service_pieces link.stands.server.catalogue link.key word) (or_nothing r)
relay_serves law own client after link word limit old v r i k e b t f =
    let p : Place = place client link word limit in
    subst (λ (d : ClientFacts). Serves limit link.stands.server.strikable client d (service_pieces link.stands.server.catalogue link.key word) (or_nothing r)) (sym e) (answered law own p old v r i k ((k p i).told ∙ t) f b client refl refl)
