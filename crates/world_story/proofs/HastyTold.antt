-- A return of a link that isn't settled, and what it leads to, step by step.
use Rattle.std.proofs.Common.{◌≡◌, ℕ, false, List, [], ◌∷◌, ◌++◌, refl, sym, append-nil, ◌∙◌, append_assoc}
use Rattle.std.specs.List.{flat_map}
use Rattle.frame_view.specs.Frames.{cut_after, spelling}
use Rattle.message_view.specs.Reading.{text_at, int16_at, int32_at, value_at, list_at, query_of, parse_of, bind_of, target_of, execute_of, startup_of, pair_at, ended_at, list_until}
use Rattle.mini_sql.specs.Tokens.{literal_length, unquoted, tokens_after}
use Rattle.mini_sql.specs.Statements.{read, ends, pass, take_value, either, with_item, items, definitions, columns_at, at_most_64, take_columns, take_operands, block, assignment, set_name, set, reset, show, discard, definition_list, create, drop_table, value_list, insert, where_of, end_of, from_of, select, of_tokens, less_semicolon, phrase, statement}
use Rattle.session_values.specs.Parameters.{accepted_of, date_styles}
use Rattle.session_values.specs.Service.{welcome}
use Rattle.session_values.specs.State.{State, started_over, fresh}
use Rattle.session_values.specs.Step.{step, run_frames}
use Rattle.session_laws.specs.Laws.{discard_all}
use Rattle.login_core.specs.Dialogue.{ok}
use Rattle.book_model.specs.Outcomes.{apply, apply_return}
use Rattle.book_model.specs.declared.events.Beyond.TheVariants.{Nothing}
use Rattle.book_model.specs.Outcomes.Event.{EndLease}
use Rattle.book_model.specs.declared.events.Reply.TheVariants.{Reset}
use Rattle.world_steps.specs.Clients.MayWrite.{served}
use Rattle.world_steps.specs.Clients.HasEnded.{closed}
use Rattle.world_steps.specs.Worlds.{World}
use Rattle.world_steps.specs.Steps.Step.{book_step, client_step, byte_step, link_step, end_step}
use Rattle.world_steps.specs.Steps.BookStep.{arrives, asks, is_lent, is_promised, gives_back}
use Rattle.world_steps.specs.Steps.ClientStep.{of_client}
use Rattle.world_steps.specs.Steps.ClientMove.{comes, sends, reads, passes}
use Rattle.world_steps.specs.Steps.ByteStep.{by_client, by_lease, by_link, server_answers, server_answers_client}
use Rattle.world_steps.specs.Steps.ClientBytes.{from_client}
use Rattle.world_steps.specs.Steps.LeaseBytes.{to_link}
use Rattle.world_steps.specs.Steps.LinkBytes.{to_reset, from_reset}
use Rattle.world_steps.specs.Steps.LinkStep.{starts, ends_reset}
use Rattle.world_steps.specs.Steps.EndStep.{of_end}
use Rattle.world_steps.specs.Steps.EndMove.{closes}
use Rattle.world_steps.specs.Clients.{HasEnded}
use Rattle.world_steps.specs.Links.Role.{Lent, InReset}
use Rattle.world_steps.specs.Worlds.{World, with_book, with_link}
use Rattle.world_story.specs.Story.{changed}
use Rattle.std.proofs.lemmas.List.{append_cancel_left}
use Rattle.world_story.specs.Slips.{IsReachedBy, Spoils, Hurries}
use Rattle.world_story.specs.Slips.IsReachedBy.{so_far, slips}
use Rattle.world_story.specs.Slips.Hurries.{hurries}
use Rattle.world_story.proofs.Slipping.{next_do, takes_all, gives_rest}
use Rattle.world_story.proofs.Told.{state_of, the_catalogue, row, lawful_row, key, word, limits, hello, change, bytes, at_first, is_empty, change-sent, changed-are, discard-sent}
use Rattle.world_story.proofs.Keys.{at_begin, new_key, server, then_do}

-- the same, with the world before it to be found from what is reached
hurry : {w : World} (c l : ℕ) → IsReachedBy Hurries w → (w.links l).role ≡ Lent c → HasEnded (w.clients c).phase → (apply w.book (EndLease l)).reply ≡ Reset →
    IsReachedBy Hurries (with_book (with_link w l (record (w.links l) { role = InReset; sent = []; received = []; struck = [] })) (apply w.book (EndLease l)).book)
hurry {w} c l h e f r = slips h (hurries c l (apply w.book (EndLease l)).book e f (record { reply_is = r; book_is = refl }))

abbrev fresh_one : State
fresh_one = state_of (fresh the_catalogue key)

abbrev left_over : State
left_over = (step the_catalogue fresh_one false change).next

-- the answer to the reset
abbrev answered : List ℕ
answered = flat_map spelling (step the_catalogue left_over false discard_all).replies

abbrev greeting : List ℕ
greeting = ok ++ flat_map spelling (welcome fresh_one 2 2)

is_some : (more : List ℕ) → answered ++ more ≡ [] → ⊥
unfolding apply apply_return cut_after text_at int16_at int32_at value_at list_at query_of parse_of bind_of target_of execute_of startup_of pair_at ended_at list_until literal_length unquoted tokens_after read ends pass take_value either with_item items definitions columns_at at_most_64 take_columns take_operands block assignment set_name set reset show discard definition_list create drop_table value_list insert where_of end_of from_of select of_tokens less_semicolon phrase statement accepted_of date_styles started_over fresh step run_frames
is_some more e = cc

too_much : (more : List ℕ) → (greeting ++ answered) ++ more ≡ greeting → ⊥
too_much more e = is_some more (append_cancel_left greeting (answered ++ more) [] (sym (append_assoc greeting answered more) ∙ e ∙ sym (append-nil greeting)))

pub haste : Spoils Hurries 2
unfolding hurry then_do next_do takes_all gives_rest apply apply_return cut_after text_at int16_at int32_at value_at list_at query_of parse_of bind_of target_of execute_of startup_of pair_at ended_at list_until literal_length unquoted tokens_after read ends pass take_value either with_item items definitions columns_at at_most_64 take_columns take_operands block assignment set_name set reset show discard definition_list create drop_table value_list insert where_of end_of from_of select of_tokens less_semicolon phrase statement accepted_of date_styles started_over fresh step run_frames
haste =
    let h0 = at_begin at_first limits (is_empty limits) in
    let h1 = then_do (client_step (of_client 1 (comes row (word 1) refl lawful_row))) h0 in
    let h2 = then_do (client_step (of_client 1 (sends (hello ++ spelling change) (bytes (hello ++ spelling change) refl)))) h1 in
    let a1 = then_do (book_step (arrives 1 1 [] Nothing _ refl refl (record { reply_is = refl; book_is = refl }))) h2 in
    let h3 = then_do (client_step (of_client 1 (reads [] hello (spelling change) (ok ∷ []) refl refl refl))) a1 in
    let h4 = then_do (client_step (of_client 1 (passes hello [] key refl refl))) h3 in
    let h5 = then_do (book_step (asks 1 1 key _ _ (record { phase = refl; number_is = refl }) (record { reply_is = refl; book_is = refl }))) h4 in
    let h6 = then_do (book_step (is_promised 1 1 1 0 key _ (record { phase = refl; number_is = refl }) (record { reply_is = refl; book_is = refl }))) h5 in
    let h7 = then_do (link_step (starts 1 1 key (server 1) _ refl refl (new_key h6))) h6 in
    let h8 = then_do (byte_step (by_client 1 (from_client 1 (spelling change) [] refl refl))) h7 in
    let h9 = then_do (byte_step (by_lease 1 1 refl (to_link (spelling change) [] refl))) h8 in
    let h10 = then_do (end_step (of_end 1 closes)) h9 in
    let c10 = so_far h10.reached in
    let c11 = hurry 1 1 c10 refl closed refl in
    -- the answer to the client's last message comes, and is taken for that to the reset
    let c12 = next_do (byte_step (server_answers 1 change [] tt (record { alive = refl; is_sent = change-sent; inbox = refl }))) c11 in
    let c13 = next_do (byte_step (by_link 1 (from_reset (flat_map spelling changed) [] refl refl))) c12 in
    let c14 = next_do (byte_step (by_link 1 (to_reset (spelling discard_all) [] refl refl))) c13 in
    let c15 = next_do (link_step (ends_reset 1 refl (record {
      sent_is = refl;
      came = changed;
      received_are = record { each = changed-are; bytes_are = refl };
      answered = record { equal = refl; before = []; final = discard_all; last = refl; closing = refl; idle = refl };
    }))) c14 in
    let c16 = next_do (book_step (gives_back 1 0 _ refl (record { reply_is = refl; book_is = refl }))) c15 in
    let c17 = next_do (client_step (of_client 2 (comes row (word 2) refl lawful_row))) c16 in
    let c18 = next_do (client_step (of_client 2 (sends hello (bytes hello refl)))) c17 in
    let c19 = next_do (book_step (arrives 2 2 [] Nothing _ refl refl (record { reply_is = refl; book_is = refl }))) c18 in
    let c20 = next_do (client_step (of_client 2 (reads [] hello [] (ok ∷ []) refl refl refl))) c19 in
    let c21 = next_do (client_step (of_client 2 (passes hello [] key refl refl))) c20 in
    let c22 = next_do (book_step (asks 2 2 key _ _ (record { phase = refl; number_is = refl }) (record { reply_is = refl; book_is = refl }))) c21 in
    let c23 = next_do (book_step (is_lent 2 2 1 key _ _ (record { phase = refl; number_is = refl }) (record { reply_is = refl; book_is = refl }) refl)) c22 in
    let c24 = next_do (byte_step (server_answers_client 2 1 discard_all [] refl (record { alive = refl; is_sent = discard-sent; inbox = refl }))) c23 in
    let c25 = takes_all 2 1 refl c24 in
    let c26 = gives_rest 2 served c25 in
    record {
      world = _;
      reached = c26;
      wrong = λ b. too_much b.more b.both;
    }
