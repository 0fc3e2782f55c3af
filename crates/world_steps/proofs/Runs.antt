-- A link under moves of bytes, a server's step and its death, and a cancel that passes.
use Rattle.std.proofs.Common.{◌≡◌, ℕ, Bool, true, false, List, [], ◌∷◌, ◌++◌, Option, None, length, refl, sym, ap, ◌∙◌, append_assoc, append-nil, arith}
use Rattle.std.specs.Prelude.{◌&&◌, ◌||◌}
use Rattle.std.specs.List.{flat_map}
use Rattle.std.proofs.lemmas.Bool.{false≢true, true≢false}
use Rattle.frame_view.specs.Frames.{FrameOf, spelling}
use Rattle.message_view.specs.declared.views.KeyView.{KeyView}
use Rattle.session_values.specs.State.{Answer, State, CatalogueOf, Address, address_of}
use Rattle.session_values.specs.Step.{may_be_struck, step, run_frames}
use Rattle.session_laws.specs.Laws.{IsSent}
use Rattle.session_run_laws.proofs.ByName.{runs_end}
use Rattle.session_values.proofs.Alls.{all-append}
use Rattle.world_steps.specs.Links.Role.{Unborn, Promised, Lent, InReset, Clean, Idle, Gone}
use Rattle.world_steps.proofs.Fronts.{front_is, front_of, front_under, front_trans, spelled-append}
use Rattle.world_steps.proofs.Changes.{link_gets, link_gives, dies, spared}
use Rattle.world_steps.specs.Clients.{IsUnstruck}
use Rattle.world_steps.specs.Links.{Link, Role, is_due, is_some, left_due}
use Rattle.world_steps.specs.Relation.{Runs, IsClean, RoleFits}
use Rattle.world_steps.specs.Steps.{HasFrame, answers}

-- what came over the link and what is in the outbox are together what they were
moved : (received outbox bytes rest : List ℕ) → outbox ≡ bytes ++ rest → (received ++ bytes) ++ rest ≡ received ++ outbox
moved received outbox bytes rest e = append_assoc received bytes rest ∙ ap (λ (l : List ℕ). received ++ l) (sym e)

module _ {cat : CatalogueOf} {base : State} {y : Link} where
  pub runs_gets : (bytes : List ℕ) → Runs cat base y → Runs cat base (link_gets y bytes)
  runs_gets bytes r = record {
    taken = r.taken;
    are_sent = r.are_sent;
    marked = r.marked;
    sent_is = ap (λ (l : List ℕ). l ++ bytes) r.sent_is ∙ append_assoc (flat_map spelling r.taken) y.inbox bytes;
    session_is = r.session_is;
    told = r.told;
    all_told = r.all_told;
  }

  pub runs_gives : (bytes rest : List ℕ) → y.outbox ≡ bytes ++ rest → Runs cat base y → Runs cat base (link_gives y bytes rest)
  runs_gives bytes rest e r = record {
    taken = r.taken;
    are_sent = r.are_sent;
    marked = r.marked;
    sent_is = r.sent_is;
    session_is = r.session_is;
    told = front_is (moved y.received y.outbox bytes rest e) r.told;
    all_told = λ live. moved y.received y.outbox bytes rest e ∙ r.all_told live;
  }

  pub runs_dies : (kept lost : List ℕ) → y.outbox ≡ kept ++ lost → Runs cat base y → Runs cat base (dies y kept)
  runs_dies kept lost e r = record {
    taken = r.taken;
    are_sent = r.are_sent;
    marked = r.marked;
    sent_is = r.sent_is;
    session_is = r.session_is;
    told = front_trans (front_under y.received (record { rest = lost; is = sym e })) r.told;
    all_told = λ live. absurd (false≢true live);
  }

  pub runs_spared : Runs cat base y → Runs cat base (spared y)
  runs_spared r = record { taken = r.taken; are_sent = r.are_sent; marked = r.marked; sent_is = r.sent_is; session_is = r.session_is; told = r.told; all_told = r.all_told }

-- one frame more
one_longer : (marks : List Bool) (mark : Bool) (fs : List FrameOf) (f : FrameOf) → length marks ≡ length fs → length (marks ++ mark ∷ []) ≡ length (fs ++ f ∷ [])
one_longer [] mark [] f e = refl
one_longer [] mark (g ∷ fs) f e = absurd (omega (arith, e))
one_longer (m ∷ marks) mark [] f e = absurd (omega (arith, e))
one_longer (m ∷ marks) mark (g ∷ fs) f e = let h = one_longer marks mark fs f (omega (arith, e)) in omega (arith, h)

next_last : (cat : CatalogueOf) (s : State) (marks : List Bool) (mark : Bool) (fs : List FrameOf) (f : FrameOf) → length marks ≡ length fs →
    (run_frames cat s (marks ++ mark ∷ []) (fs ++ f ∷ [])).next ≡ (step cat (run_frames cat s marks fs).next mark f).next
next_last cat s marks mark fs f e = ap (λ (a : Answer). a.next) (runs_end cat s marks mark fs f e)

replies_last : (cat : CatalogueOf) (s : State) (marks : List Bool) (mark : Bool) (fs : List FrameOf) (f : FrameOf) → length marks ≡ length fs →
    flat_map spelling (run_frames cat s (marks ++ mark ∷ []) (fs ++ f ∷ [])).replies ≡ flat_map spelling (run_frames cat s marks fs).replies ++ flat_map spelling (step cat (run_frames cat s marks fs).next mark f).replies
replies_last cat s marks mark fs f e =
    ap (λ (a : Answer). flat_map spelling a.replies) (runs_end cat s marks mark fs f e) ∙ spelled-append (run_frames cat s marks fs).replies (step cat (run_frames cat s marks fs).next mark f).replies

spelled_last : (fs : List FrameOf) (f : FrameOf) → flat_map spelling (fs ++ f ∷ []) ≡ flat_map spelling fs ++ spelling f
spelled_last fs f = spelled-append fs (f ∷ []) ∙ ap (λ (l : List ℕ). flat_map spelling fs ++ l) (append-nil (spelling f))

pub runs_answers : {cat : CatalogueOf} {base : State} {y : Link} (f : FrameOf) (rest : List ℕ) → HasFrame y f rest → Runs cat base y → Runs cat base (answers cat y f rest)
runs_answers {cat} {base} {y} f rest h r =
    let mark : Bool = is_due y f in
    let said : y.received ++ (y.outbox ++ flat_map spelling (step cat y.session mark f).replies) ≡ flat_map spelling (run_frames cat base (y.struck ++ mark ∷ []) (r.taken ++ f ∷ [])).replies =
    sym (append_assoc y.received y.outbox (flat_map spelling (step cat y.session mark f).replies))
    ∙ ap (λ (l : List ℕ). l ++ flat_map spelling (step cat y.session mark f).replies) (r.all_told h.alive)
    ∙ ap (λ (s : State). flat_map spelling (run_frames cat base y.struck r.taken).replies ++ flat_map spelling (step cat s mark f).replies) r.session_is
    ∙ sym (replies_last cat base y.struck mark r.taken f r.marked) in
    record {
      taken = r.taken ++ f ∷ [];
      are_sent = all-append IsSent r.taken (f ∷ []) r.are_sent (h.is_sent, tt);
      marked = one_longer y.struck mark r.taken f r.marked;
      sent_is = r.sent_is ∙ ap (λ (l : List ℕ). flat_map spelling r.taken ++ l) h.inbox ∙ sym (append_assoc (flat_map spelling r.taken) (spelling f) rest) ∙ ap (λ (l : List ℕ). l ++ rest) (sym (spelled_last r.taken f));
      session_is = ap (λ (s : State). (step cat s mark f).next) r.session_is ∙ sym (next_last cat base y.struck mark r.taken f r.marked);
      told = front_of said;
      all_told = λ _. said;
    }

-- where no cancel came, none strikes
left_none : (struck : Bool) (due : Option KeyView) → due ≡ None → left_due struck due ≡ None
left_none true due e = refl
left_none false due e = e

undue_frame : (y : Link) (f : FrameOf) → y.due ≡ None → is_due y f ≡ false
undue_frame y f e = ap (λ (due : Option KeyView). is_some due && may_be_struck y.session f) e

pub still_unstruck : (marks : List Bool) (mark : Bool) → IsUnstruck marks → mark ≡ false → IsUnstruck (marks ++ mark ∷ [])
still_unstruck [] mark h e = ap (λ (m : Bool). m || false) e
still_unstruck (true ∷ marks) mark h e = absurd (true≢false h)
still_unstruck (false ∷ marks) mark h e = still_unstruck marks mark h e

nil_is_spelled : {A : Type 0} (f : FrameOf) (rest : List ℕ) → [] ≡ spelling f ++ rest → A
nil_is_spelled {A} f rest e = absurd (go f.kind _ e)
  where
    go : (a : ℕ) (xs : List ℕ) → [] ≡ a ∷ xs → ⊥
    go a xs p = cc

front_of_nil : (xs ys : List ℕ) → [] ≡ xs ++ ys → xs ≡ []
front_of_nil [] ys e = refl
front_of_nil (x ∷ xs) ys e = cc

module _ (catalogue : Address → CatalogueOf) where
  -- a link in any role keeps what is known of it when its server answers or dies, or a cancel passes
  pub role_answers : (role : Role) (y : Link) (f : FrameOf) (rest : List ℕ) → HasFrame y f rest → RoleFits catalogue role y → RoleFits catalogue role (answers (catalogue (address_of y.key)) y f rest)
  role_answers Unborn y f rest e h = tt
  role_answers (Promised c) y f rest e h = tt
  role_answers (Lent c) y f rest e h = record { base = h.base; is_fresh = h.is_fresh; lawful_key = h.lawful_key; runs = runs_answers f rest e h.runs }
  role_answers InReset y f rest e h = record {
    base = h.base;
    reached = h.reached;
    lawful_key = h.lawful_key;
    rests = h.rests;
    runs = runs_answers f rest e h.runs;
    undue = left_none (is_due y f) y.due h.undue;
    unstruck = still_unstruck y.struck (is_due y f) h.unstruck (undue_frame y f h.undue);
  }
  role_answers Clean y f rest e h = nil_is_spelled f rest (sym h.inbox ∙ e.inbox)
  role_answers Idle y f rest e h = nil_is_spelled f rest (sym h.inbox ∙ e.inbox)
  role_answers Gone y f rest e h = tt

  clean_dies : {y : Link} {cat : CatalogueOf} (kept lost : List ℕ) → y.outbox ≡ kept ++ lost → IsClean cat y → IsClean cat (dies y kept)
  clean_dies kept lost e h = record { is_fresh = h.is_fresh; lawful_key = h.lawful_key; inbox = h.inbox; outbox = front_of_nil kept lost (sym h.outbox ∙ e); sent = h.sent; received = h.received; undue = h.undue; struck = h.struck }

  pub role_dies : (role : Role) (y : Link) (kept lost : List ℕ) → y.outbox ≡ kept ++ lost → RoleFits catalogue role y → RoleFits catalogue role (dies y kept)
  role_dies Unborn y kept lost e h = tt
  role_dies (Promised c) y kept lost e h = tt
  role_dies (Lent c) y kept lost e h = record { base = h.base; is_fresh = h.is_fresh; lawful_key = h.lawful_key; runs = runs_dies kept lost e h.runs }
  role_dies InReset y kept lost e h = record { base = h.base; reached = h.reached; lawful_key = h.lawful_key; rests = h.rests; runs = runs_dies kept lost e h.runs; undue = h.undue; unstruck = h.unstruck }
  role_dies Clean y kept lost e h = clean_dies kept lost e h
  role_dies Idle y kept lost e h = clean_dies kept lost e h
  role_dies Gone y kept lost e h = tt

  clean_spared : {y : Link} {cat : CatalogueOf} → IsClean cat y → IsClean cat (spared y)
  clean_spared h = record { is_fresh = h.is_fresh; lawful_key = h.lawful_key; inbox = h.inbox; outbox = h.outbox; sent = h.sent; received = h.received; undue = refl; struck = h.struck }

  pub role_spared : (role : Role) (y : Link) → RoleFits catalogue role y → RoleFits catalogue role (spared y)
  role_spared Unborn y h = tt
  role_spared (Promised c) y h = tt
  role_spared (Lent c) y h = record { base = h.base; is_fresh = h.is_fresh; lawful_key = h.lawful_key; runs = runs_spared h.runs }
  role_spared InReset y h = record { base = h.base; reached = h.reached; lawful_key = h.lawful_key; rests = h.rests; runs = runs_spared h.runs; undue = refl; unstruck = h.unstruck }
  role_spared Clean y h = clean_spared h
  role_spared Idle y h = clean_spared h
  role_spared Gone y h = tt
