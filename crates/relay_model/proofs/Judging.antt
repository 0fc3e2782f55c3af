-- What a pump's answer means.
use Rattle.std.proofs.Common.{◌≡◌, ◌⊎◌, inl, inr, ⊎_elim, ℕ, zero, suc, ◌<◌, Bool, true, false, cond, List, [], ◌++◌, Option, Some, None, refl, sym, ap, ap₂, ◌∙◌, arith, append_assoc, subst, eqb-true}
use Rattle.std.specs.Prelude.{◌==◌, ◌&&◌, ◌||◌}
use Rattle.std.proofs.lemmas.Bool.{true≢false, false≢true, and_parts}
use Rattle.std.specs.List.{flat_map}
use Rattle.std.proofs.lemmas.List.{append_cancel_right}
use Rattle.frame_view.specs.Frames.{spelling}
use Rattle.message_view.specs.declared.refusal.Refusal.{Refusal}
use Rattle.message_view.specs.declared.refusal.Refusal.TheVariants.{MalformedServerMessage, ServerFailed}
use Rattle.relay_flow.specs.declared.flow.Ends.{Ends}
use Rattle.relay_flow.specs.declared.flow.Ends.TheVariants.{Open, Last, Faulty}
use Rattle.relay_model.specs.declared.Next.{Next}
use Rattle.relay_model.specs.declared.Next.TheVariants.{Again, Wait, ClientDone, Refuse, Closed}
use Rattle.relay_flow.specs.Flows.{is_empty, is_faulty, is_last_end}
use Rattle.relay_model.specs.Leases.{RelayView, Place, IsLease}
use Rattle.relay_model.specs.Answers.{refusal_of, is_done, is_quiet, moved_or, refused, border_next, quiet_next, judged, EndsByClient, RefusedBy, AtBorder, IsCut}
use Rattle.relay_model.proofs.Flowing.{empty_is}

abbrev Why : RelayView → Refusal → Type 0
Why v r = (refusal_of v.to_link.ends ≡ Some r) ⊎ (((r ≡ MalformedServerMessage) × (is_faulty v.to_client.ends ≡ true)) ⊎ ((r ≡ ServerFailed) × (v.flags.link_over ≡ true)))

abbrev pub Means : Bool → RelayView → Next → Type 0
Means none v Again = none ≡ false
Means none v Wait = (none ≡ true) × (is_done v ≡ false)
Means none v ClientDone = is_done v ≡ true
Means none v (Refuse r) = (is_quiet v ≡ true) × ((v.to_client.rest == 0) ≡ true) × Why v r
Means none v Closed = (is_quiet v ≡ true) × ((v.to_client.rest == 0) ≡ false) × (v.flags.link_over ≡ true)

module _ (none : Bool) (v : RelayView) where
  moves_by : (b : Bool) → none ≡ b → is_done v ≡ false → Means none v (moved_or b)
  moves_by true e d = (e, d)
  moves_by false e d = e

  moves : is_done v ≡ false → Means none v (moved_or none)
  moves d = moves_by none refl d

  by_over : (b : Bool) → v.flags.link_over ≡ b → is_done v ≡ false → is_quiet v ≡ true → (v.to_client.rest == 0) ≡ true → Means none v (cond b (Refuse ServerFailed) (moved_or none))
  by_over true e d q z = (q, z, inr (inr (refl, e)))
  by_over false e d q z = moves d

  by_faulty : (b : Bool) → is_faulty v.to_client.ends ≡ b → is_done v ≡ false → is_quiet v ≡ true → (v.to_client.rest == 0) ≡ true → Means none v (cond b (Refuse MalformedServerMessage) (cond v.flags.link_over (Refuse ServerFailed) (moved_or none)))
  by_faulty true e d q z = (q, z, inr (inl (refl, e)))
  by_faulty false e d q z = by_over v.flags.link_over refl d q z

  by_refusal : (o : Option Refusal) → refusal_of v.to_link.ends ≡ o → is_done v ≡ false → is_quiet v ≡ true → (v.to_client.rest == 0) ≡ true
      → Means none v (refused o (cond (is_faulty v.to_client.ends) (Refuse MalformedServerMessage) (cond v.flags.link_over (Refuse ServerFailed) (moved_or none))))
  by_refusal (Some r) e d q z = (q, z, inl e)
  by_refusal None e d q z = by_faulty (is_faulty v.to_client.ends) refl d q z

  by_cut : (b : Bool) → v.flags.link_over ≡ b → is_done v ≡ false → is_quiet v ≡ true → (v.to_client.rest == 0) ≡ false → Means none v (cond b Closed (moved_or none))
  by_cut true e d q z = (q, z, e)
  by_cut false e d q z = moves d

  by_rest : (b : Bool) → (v.to_client.rest == 0) ≡ b → is_done v ≡ false → is_quiet v ≡ true → Means none v (cond b (border_next none v) (cond v.flags.link_over Closed (moved_or none)))
  by_rest true e d q = by_refusal (refusal_of v.to_link.ends) refl d q e
  by_rest false e d q = by_cut v.flags.link_over refl d q e

  by_quiet : (b : Bool) → is_quiet v ≡ b → is_done v ≡ false → Means none v (cond b (quiet_next none v) (moved_or none))
  by_quiet true e d = by_rest (v.to_client.rest == 0) refl d e
  by_quiet false e d = moves d

  by_done : (b : Bool) → is_done v ≡ b → Means none v (cond b ClientDone (cond (is_quiet v) (quiet_next none v) (moved_or none)))
  by_done true e = e
  by_done false e = by_quiet (is_quiet v) refl e

  pub means : (n : Next) → n ≡ judged none v → Means none v n
  means n e = subst (Means none v) (sym e) (by_done (is_done v) refl)

-- ---- and what that says of a lease

last_is : (e : Ends) → is_last_end e ≡ true → e ≡ Last
last_is Open h = absurd (false≢true h)
last_is Last h = refl
last_is (Faulty f) h = absurd (false≢true h)

or_of : (a b : Bool) → (a || b) ≡ true → (a ≡ true) ⊎ (b ≡ true)
or_of true b e = inl refl
or_of false b e = inr e

pub done_of : (p : Place) (v : RelayView) → IsLease p v → is_done v ≡ true → EndsByClient p v
done_of p v x d = ⊎_elim
    (λ a. inl (x.says.client_over a))
    (λ b. let y = and_parts (is_empty v.to_link.held) (v.flags.input_over || is_last_end v.to_link.ends) b in
    ⊎_elim (λ c. inl (x.says.input_over c)) (λ c. inr (last_is v.to_link.ends c, empty_is v.to_link.held y.0)) (or_of v.flags.input_over (is_last_end v.to_link.ends) y.1))
    (or_of v.flags.client_over (is_empty v.to_link.held && (v.flags.input_over || is_last_end v.to_link.ends)) d)

why_of : (p : Place) (v : RelayView) (r : Refusal) → IsLease p v → Why v r → RefusedBy p v r
why_of p v r x w = ⊎_elim (λ a. inl a) (λ b. ⊎_elim (λ c. inr (inl c)) (λ c. inr (inr (c.0, x.says.link_over c.1))) b) w

same_back : (s a part : List ℕ) → s ++ part ≡ a ++ part → s ≡ a
same_back s a part e = append_cancel_right s a part e

pub refused_of : (p : Place) (v : RelayView) (r : Refusal) → IsLease p v → (is_quiet v ≡ true) × ((v.to_client.rest == 0) ≡ true) × Why v r → AtBorder p v × RefusedBy p v r
refused_of p v r x m =
    let y = and_parts (is_empty v.greeting) (is_empty v.to_client.held) m.0 in
    let g : v.greeting ≡ [] = empty_is v.greeting y.0 in
    let h : v.to_client.held ≡ [] = empty_is v.to_client.held y.1 in
    let f : x.front ≡ [] = x.comes.opens.border (eqb-true v.to_client.rest 0 m.1) in
    let o : x.since ++ v.to_client.part ≡ p.greeting ++ x.received = ap₂ (λ (a b : List ℕ). x.since ++ (a ++ (b ++ v.to_client.part))) (sym g) (sym h) ∙ x.comes.out in
    let w : x.received ≡ flat_map spelling x.arrived ++ v.to_client.part = x.comes.whole ∙ ap (λ (a : List ℕ). flat_map spelling x.arrived ++ (a ++ v.to_client.part)) f in (
      record {
        greeting = g;
        held = h;
        arrived = x.arrived;
        since = x.since;
        came = x.comes.came;
        given = x.comes.given;
        whole = same_back x.since (p.greeting ++ flat_map spelling x.arrived) v.to_client.part (o ∙ ap (λ (a : List ℕ). p.greeting ++ a) w ∙ sym (append_assoc p.greeting (flat_map spelling x.arrived) v.to_client.part));
      },
      why_of p v r x m.2,
    )

not_none : (n : ℕ) → (n == 0) ≡ false → 0 < n
not_none zero e = absurd (true≢false e)
not_none (suc n) e = omega arith

pub cut_of : (p : Place) (v : RelayView) → IsLease p v → (is_quiet v ≡ true) × ((v.to_client.rest == 0) ≡ false) × (v.flags.link_over ≡ true) → IsCut p v
cut_of p v x m =
    let y = and_parts (is_empty v.greeting) (is_empty v.to_client.held) m.0 in
    record { greeting = empty_is v.greeting y.0; held = empty_is v.to_client.held y.1; inside = not_none v.to_client.rest m.1; over = x.says.link_over m.2 }

-- ---- for a pump that answers so

pub done_by : (p : Place) (v : RelayView) (none : Bool) (n : Next) → IsLease p v → n ≡ judged none v → n ≡ ClientDone → EndsByClient p v
done_by p v none n x e h = done_of p v x (means none v ClientDone (sym h ∙ e))

pub refused_by : (p : Place) (v : RelayView) (none : Bool) (n : Next) (r : Refusal) → IsLease p v → n ≡ judged none v → n ≡ Refuse r → AtBorder p v × RefusedBy p v r
refused_by p v none n r x e h = refused_of p v r x (means none v (Refuse r) (sym h ∙ e))

pub cut_by : (p : Place) (v : RelayView) (none : Bool) (n : Next) → IsLease p v → n ≡ judged none v → n ≡ Closed → IsCut p v
cut_by p v none n x e h = cut_of p v x (means none v Closed (sym h ∙ e))
