-- A refusal inside AuthenticationOk, and what it leads to.
use Rattle.std.proofs.Common.{◌≡◌, ℕ, List, [], ◌∷◌, ◌++◌, inl, inr, refl, sym, ap, ◌∙◌, append_assoc, append-nil, arith}
use Rattle.std.specs.Prelude.{slice_index}
use Rattle.frame_view.specs.Frames.{cut_after}
use Rattle.message_view.specs.declared.refusal.Refusal.{Refusal}
use Rattle.message_view.specs.declared.refusal.Refusal.TheVariants.{ServerFailed}
use Rattle.message_view.specs.Refusals.{Allowed, joined_pieces, refusal}
use Rattle.message_view.specs.Reading.{text_at, startup_of, pair_at, ended_at, list_until}
use Rattle.session_values.specs.Parameters.{accepted_of, date_styles}
use Rattle.session_values.specs.State.{started_over, fresh}
use Rattle.session_values.specs.Step.{run_frames}
use Rattle.login_core.specs.Dialogue.{ok}
use Rattle.login_core.specs.Solo.{solo_in}
use Rattle.world_steps.specs.Clients.Phase.{Refusing}
use Rattle.world_steps.specs.Clients.MayWrite.{logging_in}
use Rattle.world_steps.specs.Steps.Step.{client_step, byte_step, end_step}
use Rattle.world_steps.specs.Steps.ClientStep.{of_client}
use Rattle.world_steps.specs.Steps.ClientMove.{comes, sends, reads}
use Rattle.world_steps.specs.Steps.ByteStep.{by_client}
use Rattle.world_steps.specs.Steps.ClientBytes.{to_client}
use Rattle.world_steps.specs.Steps.EndStep.{of_end}
use Rattle.world_steps.specs.Steps.EndMove.{refusal_to_client}
use Rattle.world_story.specs.Slips.{SpoilsRefusal}
use Rattle.world_story.specs.Slips.IsReachedBy.{so_far, slips}
use Rattle.world_story.specs.Slips.BreaksOff.{breaks_off}
use Rattle.world_story.proofs.Slipping.{next_do}
use Rattle.world_story.proofs.Told.{the_catalogue, row, lawful_row, word, limits, hello, bytes, at_first, is_empty}
use Rattle.world_story.proofs.Keys.{at_begin, then_do}

-- the first byte of AuthenticationOk, and then the refusal
abbrev broken : List ℕ
broken = 82 ∷ refusal ServerFailed

abbrev own_pieces : List (List ℕ)
own_pieces = solo_in (λ _. the_catalogue) row (word 1) [] hello

second_byte : (a b : List ℕ) → a ≡ b → slice_index a 1 ≡ slice_index b 1
second_byte a b e = ap (λ (l : List ℕ). slice_index l 1) e

first_byte : (a b : List ℕ) → a ≡ b → slice_index a 0 ≡ slice_index b 0
first_byte a b e = ap (λ (l : List ℕ). slice_index l 0) e

differs : ◌≡◌ {A = ℕ} 69 0 → ⊥
differs e = omega arith

other_first : ◌≡◌ {A = ℕ} 82 69 → ⊥
other_first e = omega arith

head_is : (p q : List ℕ) (ps qs : List (List ℕ)) → p ∷ ps ≡ q ∷ qs → p ≡ q
head_is p q ps qs e = cc

no_beginning : (more : List ℕ) → broken ++ more ≡ joined_pieces own_pieces → ⊥
unfolding refusal cut_after text_at startup_of pair_at ended_at list_until accepted_of date_styles started_over fresh run_frames
no_beginning more e = differs (second_byte (broken ++ more) (joined_pieces own_pieces) e)

-- each refusal begins with the same byte
no_refusal : (cause : Refusal) (more : List ℕ) → broken ++ more ≡ refusal cause → ⊥
unfolding refusal
no_refusal cause more e = other_first (first_byte (broken ++ more) (refusal cause) e)

no_piece : (p more : List ℕ) → p ≡ ok → broken ≡ p ++ more → ⊥
unfolding refusal
no_piece p more e o = differs (second_byte broken (ok ++ more) (o ∙ ap (λ (l : List ℕ). l ++ more) e))

tail_of : List (List ℕ) → List (List ℕ)
tail_of [] = []
tail_of (p ∷ ps) = ps

begins_so : own_pieces ≡ ok ∷ tail_of own_pieces
unfolding refusal cut_after text_at startup_of pair_at ended_at list_until accepted_of date_styles started_over fresh run_frames tail_of
begins_so = refl

refused : (given kept : List (List ℕ)) → given ++ kept ≡ own_pieces → (last more : List ℕ) (cause : Refusal) → last ++ more ≡ refusal cause → broken ≡ joined_pieces given ++ last → ⊥
refused [] kept e last more cause b o = no_refusal cause more (ap (λ (l : List ℕ). l ++ more) o ∙ b)
refused (p ∷ ps) kept e last more cause b o = no_piece p (joined_pieces ps ++ last) (head_is p ok (ps ++ kept) (tail_of own_pieces) (e ∙ begins_so)) (o ∙ append_assoc p (joined_pieces ps) last)

not_allowed : Allowed broken own_pieces → ⊥
not_allowed (inl b) = no_beginning b.more b.both
not_allowed (inr r) = refused r.given r.kept r.pieces_are r.last r.begins.more r.cause r.begins.both r.out_is

pub abruptness : SpoilsRefusal
unfolding then_do next_do refusal cut_after text_at startup_of pair_at ended_at list_until
abruptness =
    let h0 = at_begin at_first limits (is_empty limits) in
    let h1 = then_do (client_step (of_client 1 (comes row (word 1) refl lawful_row))) h0 in
    let h2 = then_do (client_step (of_client 1 (sends hello (bytes hello refl)))) h1 in
    let h3 = then_do (client_step (of_client 1 (reads [] hello [] (ok ∷ []) refl refl refl))) h2 in
    let h4 = then_do (byte_step (by_client 1 (to_client (82 ∷ []) (0 ∷ 0 ∷ 0 ∷ 8 ∷ 0 ∷ 0 ∷ 0 ∷ 0 ∷ []) logging_in refl))) h3 in
    let c4 = so_far h4.reached in
    let c5 = slips c4 (breaks_off 1 ServerFailed logging_in) in
    let c6 = next_do (end_step (of_end 1 (refusal_to_client (refusal ServerFailed) [] (ap Refusing (sym (append-nil (refusal ServerFailed))))))) c5 in
    record { world = _; reached = c6; wrong = not_allowed }
