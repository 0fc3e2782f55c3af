-- What is known of a client says that what it was given is allowed, also where a refusal follows; and its sends keep it.
use Rattle.std.proofs.Common.{◌≡◌, ◌⊎◌, ℕ, Bool, List, [], ◌∷◌, ◌++◌, inl, inr, refl, sym, ap, ◌∙◌, subst, append_assoc, append-nil, arith, Result, Ok}
use Rattle.std.specs.Prelude.{map}
use Rattle.std.specs.List.{flat_map, AllByRecursion}
use Rattle.std.proofs.lemmas.List.{append_cancel_left}
use Rattle.frame_view.specs.declared.Side.TheVariants.{Server}
use Rattle.frame_view.specs.Frames.{FrameOf, IsFrame, spelling}
use Rattle.message_view.specs.declared.KeyWord.{KeyWord}
use Rattle.message_view.specs.Refusals.{joined_pieces}
use Rattle.session_values.specs.declared.cause.Cause.{Cause}
use Rattle.session_values.specs.State.{State, CatalogueOf, StartKeyOf, fresh, Address, address_of}
use Rattle.session_values.specs.Lawful.{IsLawfulCatalogue}
use Rattle.session_values.specs.Step.{run_frames}
use Rattle.session_values.specs.Service.{welcome, client_frames, served}
use Rattle.session_laws.specs.Laws.{Reaches}
use Rattle.session_laws.proofs.ByName.{fresh_is_reached, welcome_is_frames}
use Rattle.session_values.proofs.Alls.{all-append}
use Rattle.session_run_laws.proofs.ByName.{run_replies_are_frames}
use Rattle.link_model.proofs.Splits.{SplitsOff, split_whole}
use Rattle.login_core.specs.Talk.{End}
use Rattle.login_core.specs.Talk.End.{Passed}
use Rattle.login_core.specs.Dialogue.{Way, Reason, ToLink, login}
use Rattle.login_core.specs.Solo.{solo_in, after_in}
use Rattle.world_steps.specs.Clients.MayWrite.{logging_in, waiting, starting, served as may_served}
use Rattle.world_steps.specs.Clients.AtBorder.{in_login, past_login}
use Rattle.world_steps.specs.Clients.Phase.{Absent, LoggingIn, Waiting, Starting, Served, Finishing, Refusing, Closed}
use Rattle.world_steps.proofs.Fronts.{front_nil, front_append, front_trans, front_cut, front_under, front_of, front_is, joined-append, joined-frames, front_joined, front_frames, spelled-append}
use Rattle.world_steps.proofs.Logins.{login_front, login_passed}
use Rattle.world_steps.proofs.Sole.{frames_after, replies_front, Grows, not_done, is_done, grows, solo_front, allowed_more}
use Rattle.world_steps.proofs.Service.{service_sends}
use Rattle.frame_view.specs.declared.frames.TheConstants.{MAX_FRAME}
use Rattle.world_steps.proofs.Changes.{sends_bytes}
use Rattle.world_steps.specs.Clients.{Client, Phase, MayWrite, AtBorder}
use Rattle.world_steps.specs.Links.{Link, Role}
use Rattle.world_steps.specs.Relation.{IsFront, IsLent, RoleFits, InLogin, InQueue, InService, IsTold, IsNamed, IsOver, PhaseFits}

pub fresh_one : {a b : State} → ◌≡◌ {A = Result State Cause} (Ok a) (Ok b) → a ≡ b
fresh_one e = cc

module _ (catalogue : Address → CatalogueOf) where
  -- the service of a client that has passed
  pub after_passed : (word : KeyWord) (marks : List Bool) (o : End Way Reason) (key : StartKeyOf) (left : List ℕ) (s : State) → o ≡ Passed (ToLink key) left → fresh (catalogue (address_of key)) key ≡ Ok s →
      after_in catalogue word marks o ≡ map spelling (welcome s word.pid word.secret ++ (run_frames (catalogue (address_of key)) s marks (client_frames left)).replies)
  after_passed word marks o key left s e f =
      ap (after_in catalogue word marks) e ∙ ap (λ (r : Result State Cause). map spelling (served (catalogue (address_of key)) r word.pid word.secret marks (client_frames left))) f

  -- what it was given is told by the login alone
  pub told_login : (x : Client) → IsFront (x.out ++ x.for_client) (joined_pieces (login x.row x.word x.sent).pieces) → x.refusal ≡ [] → IsTold catalogue x
  told_login x f q = record { frames = []; are_frames = tt; first = front_nil _; told = front_trans f (front_of (sym (append-nil (joined_pieces (login x.row x.word x.sent).pieces)))); quiet = q }

  -- a client with its link: the frames of its service so far are the welcome and the replies to what its server took
  pub told_service : (lawful : (address : Address) → IsLawfulCatalogue (catalogue address)) (x : Client) (y : Link) → InService (catalogue (address_of y.key)) x y → IsLent (catalogue (address_of y.key)) y → IsTold catalogue x
  told_service lawful x y h k =
      let cat : CatalogueOf = catalogue (address_of y.key) in
      let same : k.base ≡ h.base = fresh_one (sym k.is_fresh ∙ h.is_fresh) in
      let r = k.runs in
      let more : List ℕ = x.for_link ++ x.unread in
      let hello : List FrameOf = welcome k.base x.word.pid x.word.secret in
      let said : List FrameOf = (run_frames cat k.base y.struck r.taken).replies in
      let left : y.sent ++ more ≡ flat_map spelling r.taken ++ (y.inbox ++ more) = ap (λ (l : List ℕ). l ++ more) r.sent_is ∙ append_assoc (flat_map spelling r.taken) y.inbox more in
      let fronts : IsFront r.taken (client_frames (y.sent ++ more)) =
      record { rest = client_frames (y.inbox ++ more); is = sym (frames_after r.taken (y.inbox ++ more) r.are_sent) ∙ ap client_frames (sym left) } in
      let reached : Reaches cat y.key k.base = fresh_is_reached cat y.key k.base (lawful (address_of y.key)) k.lawful_key k.is_fresh in
      record {
        frames = hello ++ said;
        are_frames = all-append (IsFrame Server MAX_FRAME) hello said (welcome_is_frames cat y.key k.base x.word.pid x.word.secret reached) (run_replies_are_frames cat y.key k.base y.struck r.taken reached r.are_sent);
        first = front_trans (front_frames (front_under hello (replies_front cat k.base y.struck fronts)))
            (front_of (sym (ap (λ (marks : List Bool). after_in catalogue x.word marks (login x.row x.word x.sent).ended) h.struck ∙ after_passed x.word y.struck (login x.row x.word x.sent).ended y.key (y.sent ++ more) k.base h.passed k.is_fresh)));
        told = front_is (h.told ∙ ap (λ (s : State). joined_pieces (login x.row x.word x.sent).pieces ++ (flat_map spelling (welcome s x.word.pid x.word.secret) ++ y.received)) (sym same))
            (front_under (joined_pieces (login x.row x.word x.sent).pieces) (front_trans (front_under (flat_map spelling hello) (front_cut y.received y.outbox r.told)) (front_of (sym (spelled-append hello said)))));
        quiet = h.quiet;
      }

  -- all that is told is a front of the whole
  told_front : (x : Client) → IsTold catalogue x → IsFront x.out (joined_pieces (solo_in catalogue x.row x.word x.struck x.sent))
  told_front x h =
      let said : List (List ℕ) = (login x.row x.word x.sent).pieces in
      front_cut x.out x.for_client (front_trans h.told (front_trans (front_under (joined_pieces said) (front_is (sym (joined-frames h.frames)) (front_joined h.first))) (front_of (sym (joined-append said (after_in catalogue x.word x.struck (login x.row x.word x.sent).ended))))))

  told_over : (x : Client) → IsTold catalogue x → IsOver catalogue x
  told_over x h =
      let f = told_front x h in
      let g : IsFront (x.out ++ x.refusal) (joined_pieces (solo_in catalogue x.row x.word x.struck x.sent)) = front_is (ap (λ (l : List ℕ). x.out ++ l) h.quiet ∙ append-nil x.out) f in
      record { apart = inl h.quiet; out_front = f; allowed = inl (record { more = g.rest; both = g.is }) }

  login_told : (read : List ℕ) (x : Client) → InLogin read x → IsTold catalogue x
  login_told read x h =
      told_login x (front_is h.told (front_joined (subst (λ (l : List ℕ). IsFront (login x.row x.word read).pieces (login x.row x.word l).pieces) (sym h.sent_is) (login_front x.row x.word read x.unread)))) h.quiet

  queue_told : (key : StartKeyOf) (x : Client) → InQueue key x → IsTold catalogue x
  queue_told key x h = told_login x (front_of h.told) h.quiet

  module _ (links : ℕ → Link) (lawful : (address : Address) → IsLawfulCatalogue (catalogue address)) (all : (l : ℕ) → RoleFits catalogue (links l).role (links l)) (c : ℕ) where
    pub phase_told : (phase : Phase) (x : Client) → MayWrite phase → PhaseFits catalogue links c phase x → IsTold catalogue x
    phase_told (LoggingIn read) x m h = login_told read x h
    phase_told (Waiting key) x m h = queue_told key x h
    phase_told (Starting key l) x m h = queue_told key x h.0
    phase_told (Served l) x m h = told_service lawful x (links l) h.0 (subst (λ (r : Role). RoleFits catalogue r (links l)) h.1 (all l))
    phase_told Finishing x m h = h
    phase_told Absent x m h = elim m [ ]
    phase_told (Refusing left) x m h = elim m [ ]
    phase_told Closed x m h = elim m [ ]

    pub phase_over : (phase : Phase) (x : Client) → PhaseFits catalogue links c phase x → IsOver catalogue x
    phase_over Absent x h =
        let f : IsFront (x.out ++ x.refusal) (joined_pieces (solo_in catalogue x.row x.word x.struck x.sent)) = front_is (ap (λ (l : List ℕ). l ++ x.refusal) h.0 ∙ h.1) (front_nil _) in
        record { apart = inl h.1; out_front = front_is h.0 (front_nil _); allowed = inl (record { more = f.rest; both = f.is }) }
    phase_over (LoggingIn read) x h = told_over x (phase_told (LoggingIn read) x logging_in h)
    phase_over (Waiting key) x h = told_over x (phase_told (Waiting key) x waiting h)
    phase_over (Starting key l) x h = told_over x (phase_told (Starting key l) x starting h)
    phase_over (Served l) x h = told_over x (phase_told (Served l) x may_served h)
    phase_over Finishing x h = told_over x h
    phase_over (Refusing left) x h = record {
      apart = inr (record { pieces = h.pieces; first = h.first; out_is = h.out_is; cause = h.cause; text = record { rest = left; is = h.text_is } });
      out_front = front_is h.out_is (front_joined h.first);
      allowed = inr (record { given = h.pieces; kept = h.first.rest; pieces_are = h.first.is; cause = h.cause; last = x.refusal; begins = record { more = left; both = h.text_is }; out_is = ap (λ (l : List ℕ). l ++ x.refusal) h.out_is });
    }
    phase_over Closed x h = h

  -- ---- borders

  -- whole frames whose bytes are a front of those of frames are the first of them
  frames_front_of : (fs gs : List FrameOf) (rest : List ℕ) → AllByRecursion (IsFrame Server MAX_FRAME) fs → AllByRecursion (IsFrame Server MAX_FRAME) gs → flat_map spelling fs ++ rest ≡ flat_map spelling gs → IsFront fs gs
  frames_front_of fs gs rest h k e =
      let s : SplitsOff gs fs [] rest = split_whole Server MAX_FRAME gs fs rest (omega arith) k h (sym e) in
      record { rest = s.more; is = sym s.all }

  pub record Pieces (x : Client) : Type 0 where
    pub pieces : List (List ℕ)
    pub first : IsFront pieces (solo_in catalogue x.row x.word x.struck x.sent)
    pub out_is : x.out ≡ joined_pieces pieces

  pub border_pieces : (x : Client) → IsTold catalogue x → AtBorder x → Pieces x
  border_pieces x t (in_login told kept h e) = record { pieces = told; first = front_trans (record { rest = kept; is = h }) (front_append _ _); out_is = e }
  border_pieces x t (past_login told h e) =
      let said : List (List ℕ) = (login x.row x.word x.sent).pieces in
      let f : IsFront (joined_pieces said ++ flat_map spelling told) (joined_pieces said ++ flat_map spelling t.frames) = front_is (sym e) (front_cut x.out x.for_client t.told) in
      let rest_is : joined_pieces said ++ (flat_map spelling told ++ f.rest) ≡ joined_pieces said ++ flat_map spelling t.frames = sym (append_assoc (joined_pieces said) (flat_map spelling told) f.rest) ∙ f.is in
      let part : IsFront told t.frames = frames_front_of told t.frames f.rest h t.are_frames (append_cancel_left (joined_pieces said) (flat_map spelling told ++ f.rest) (flat_map spelling t.frames) rest_is) in
      record {
        pieces = said ++ map spelling told;
        first = front_under said (front_trans (front_frames part) t.first);
        out_is = e ∙ ap (λ (l : List ℕ). joined_pieces said ++ l) (sym (joined-frames told)) ∙ sym (joined-append said (map spelling told));
      }

  -- ---- sends

  queue_sends : {key : StartKeyOf} {x : Client} (bytes : List ℕ) → InQueue key x → InQueue key (sends_bytes x bytes)
  queue_sends {key} {x} bytes h =
      let p = login_passed x.row x.word x.sent bytes (ToLink key) (x.for_link ++ x.unread) h.passed in
      record { lawful_key = h.lawful_key; passed = p.1 ∙ ap (Passed (ToLink key)) (append_assoc x.for_link x.unread bytes); told = h.told ∙ ap joined_pieces (sym p.0); quiet = h.quiet; unstruck = h.unstruck }

  no_pieces : (fs : List FrameOf) {ps : List (List ℕ)} → IsFront (map spelling fs) ps → ps ≡ [] → flat_map spelling fs ≡ []
  no_pieces [] f e = refl
  no_pieces (g ∷ fs) f e = absurd (go (spelling g) _ (f.is ∙ e))
    where
      go : (p : List ℕ) (ps : List (List ℕ)) → p ∷ ps ≡ [] → ⊥
      go p ps q = cc

  told_grows : (x : Client) (bytes : List ℕ) → IsTold catalogue x → Grows catalogue x.row x.word x.struck x.sent bytes → IsTold catalogue (sends_bytes x bytes)
  told_grows x bytes h (not_done none f) =
      told_login (sends_bytes x bytes) (front_trans h.told (front_is (ap (λ (l : List ℕ). joined_pieces (login x.row x.word x.sent).pieces ++ l) (no_pieces h.frames h.first none) ∙ append-nil (joined_pieces (login x.row x.word x.sent).pieces)) (front_joined f))) h.quiet
  told_grows x bytes h (is_done same f) = record {
    frames = h.frames;
    are_frames = h.are_frames;
    first = front_trans h.first f;
    told = front_trans h.told (front_of (ap (λ (l : List (List ℕ)). joined_pieces l ++ flat_map spelling h.frames) (sym same)));
    quiet = h.quiet;
  }

  apart_sends : (x : Client) (bytes : List ℕ) → (x.refusal ≡ []) ⊎ IsNamed catalogue x → ((sends_bytes x bytes).refusal ≡ []) ⊎ IsNamed catalogue (sends_bytes x bytes)
  apart_sends x bytes (inl q) = inl q
  apart_sends x bytes (inr k) = inr (record { pieces = k.pieces; first = front_trans k.first (solo_front catalogue x.row x.word x.struck x.sent bytes); out_is = k.out_is; cause = k.cause; text = k.text })

  pub phase_sends : (links : ℕ → Link) (c : ℕ) (phase : Phase) (x : Client) (bytes : List ℕ) → PhaseFits catalogue links c phase x → PhaseFits catalogue links c phase (sends_bytes x bytes)
  phase_sends links c Absent x bytes h = h
  phase_sends links c (LoggingIn read) x bytes h = record { lawful_row = h.lawful_row; sent_is = ap (λ (l : List ℕ). l ++ bytes) h.sent_is ∙ append_assoc read x.unread bytes; told = h.told; quiet = h.quiet; unstruck = h.unstruck }
  phase_sends links c (Waiting key) x bytes h = queue_sends bytes h
  phase_sends links c (Starting key l) x bytes h = (queue_sends bytes h.0, h.1)
  phase_sends links c (Served l) x bytes h = (service_sends bytes h.0, h.1)
  phase_sends links c Finishing x bytes h = told_grows x bytes h (grows catalogue x.row x.word x.struck x.sent bytes)
  phase_sends links c (Refusing left) x bytes h = record { pieces = h.pieces; first = front_trans h.first (solo_front catalogue x.row x.word x.struck x.sent bytes); out_is = h.out_is; cause = h.cause; text_is = h.text_is }
  phase_sends links c Closed x bytes h = record { apart = apart_sends x bytes h.apart; out_front = front_trans h.out_front (front_joined (solo_front catalogue x.row x.word x.struck x.sent bytes)); allowed = allowed_more (solo_front catalogue x.row x.word x.struck x.sent bytes) h.allowed }
