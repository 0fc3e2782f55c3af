-- A link is returned though a cancel found its lease, and what that leads to, step by step.
use Rattle.std.proofs.Common.{◌≡◌, ℕ, [], ◌∷◌, ◌++◌, refl, ap, inr, arith}
use Rattle.std.specs.List.{AllByRecursion, flat_map}
use Rattle.frame_view.specs.Frames.{IsFrame, cut_after, spelling}
use Rattle.frame_view.specs.declared.Side.TheVariants.{Server}
use Rattle.frame_view.specs.declared.frames.TheConstants.{MAX_FRAME}
use Rattle.message_view.specs.declared.views.KeyView.{KeyView}
use Rattle.message_view.specs.Reading.{text_at, int16_at, int32_at, value_at, list_at, query_of, parse_of, bind_of, target_of, execute_of, startup_of, pair_at, ended_at, list_until}
use Rattle.mini_sql.specs.Tokens.{literal_length, unquoted, tokens_after}
use Rattle.mini_sql.specs.Statements.{read, ends, pass, take_value, either, with_item, items, definitions, columns_at, at_most_64, take_columns, take_operands, block, assignment, set_name, set, reset, show, discard, definition_list, create, drop_table, value_list, insert, where_of, end_of, from_of, select, of_tokens, less_semicolon, phrase, statement}
use Rattle.session_values.specs.Parameters.{accepted_of, date_styles}
use Rattle.session_values.specs.Service.{welcome}
use Rattle.session_values.specs.State.{started_over, fresh}
use Rattle.session_values.specs.Step.{step, run_frames}
use Rattle.login_core.specs.Dialogue.{ok}
use Rattle.book_model.specs.Outcomes.{apply, apply_return}
use Rattle.book_model.specs.declared.events.Beyond.TheVariants.{Nothing}
use Rattle.book_model.specs.Outcomes.Event.{EndLease}
use Rattle.book_model.specs.declared.events.Reply.TheVariants.{Dispose}
use Rattle.world_steps.specs.Clients.MayWrite.{served}
use Rattle.world_steps.specs.Clients.HasEnded.{closed}
use Rattle.world_steps.specs.Worlds.{World}
use Rattle.world_steps.specs.Steps.Step.{book_step, client_step, byte_step, link_step, end_step}
use Rattle.world_steps.specs.Steps.BookStep.{arrives, asks, is_lent, gives_back}
use Rattle.world_steps.specs.Steps.ClientStep.{of_client}
use Rattle.world_steps.specs.Steps.ClientMove.{comes, sends, reads, passes}
use Rattle.world_steps.specs.Steps.ByteStep.{by_client, by_lease, by_link, server_answers, server_answers_client, strike_arrives}
use Rattle.world_steps.specs.Steps.ClientBytes.{from_client}
use Rattle.world_steps.specs.Steps.LeaseBytes.{to_link, from_link}
use Rattle.world_steps.specs.Steps.EndStep.{of_end}
use Rattle.world_steps.specs.Steps.EndMove.{closes}
use Rattle.session_laws.specs.Laws.{discard_all}
use Rattle.world_steps.specs.Clients.{HasEnded}
use Rattle.world_steps.specs.Links.{IsSettled}
use Rattle.world_steps.specs.Links.Role.{Clean, InReset, Lent}
use Rattle.world_steps.specs.Steps.LinkBytes.{to_reset, from_reset}
use Rattle.world_steps.specs.Steps.LinkStep.{ends_reset}
use Rattle.world_steps.specs.Worlds.{with_book, with_link}
use Rattle.world_story.specs.Cancelled.{StrikesAnother, cancelled}
use Rattle.world_story.specs.Slips.{IsReachedBy, ReturnsMarked, Spoils}
use Rattle.world_story.specs.Slips.IsReachedBy.{so_far, slips}
use Rattle.world_story.specs.Slips.ReturnsMarked.{returns_unused, returns_used}
use Rattle.world_story.specs.Story.{changed}
use Rattle.world_story.proofs.Asking.{asked}
use Rattle.world_story.proofs.Keys.{server, then_do}
use Rattle.world_story.proofs.Leaking.{show_name, show_name-sent, shows_another}
use Rattle.world_story.proofs.Slipping.{next_do, takes_all, gives_rest}
use Rattle.world_story.proofs.Told.{state_of, the_catalogue, row, lawful_row, key, word, hello, change, bytes, change-sent, changed-are, discard-sent}

-- the same, with the world before it to be found from what is reached
return_unused : {w : World} (c l : ℕ) → IsReachedBy ReturnsMarked w → (w.links l).role ≡ Lent c → HasEnded (w.clients c).phase → (w.links l).sent ≡ [] → (w.links l).received ≡ [] → (apply w.book (EndLease l)).reply ≡ Dispose →
    IsReachedBy ReturnsMarked (with_book (with_link w l (record (w.links l) { role = Clean })) (apply w.book (EndLease l)).book)
return_unused {w} c l h e f none silent r = slips h (returns_unused c l (apply w.book (EndLease l)).book e f none silent (record { reply_is = r; book_is = refl }))

pub others_word : ◌≡◌ {A = KeyView} (server 1) (server 2) → ⊥
others_word e = differs (ap (λ (k : KeyView). k.pid) e)
  where
    differs : ◌≡◌ {A = ℕ} 1 2 → ⊥
    differs p = omega arith

pub late : StrikesAnother ReturnsMarked
unfolding asked return_unused then_do next_do takes_all gives_rest apply apply_return cut_after text_at int16_at int32_at value_at list_at query_of parse_of bind_of target_of execute_of startup_of pair_at ended_at list_until literal_length unquoted tokens_after read ends pass take_value either with_item items definitions columns_at at_most_64 take_columns take_operands block assignment set_name set reset show discard definition_list create drop_table value_list insert where_of end_of from_of select of_tokens less_semicolon phrase statement accepted_of date_styles started_over fresh step run_frames
late =
    let h1 = then_do (end_step (of_end 1 closes)) asked.at in
    let c2 = return_unused 1 1 (so_far h1.reached) refl closed refl refl refl in
    let c3 = next_do (book_step (gives_back 1 0 _ refl (record { reply_is = refl; book_is = refl }))) c2 in
    let c4 = next_do (client_step (of_client 2 (comes row (word 2) refl lawful_row))) c3 in
    let c5 = next_do (client_step (of_client 2 (sends (hello ++ spelling change) (bytes (hello ++ spelling change) refl)))) c4 in
    let c6 = next_do (book_step (arrives 2 2 [] Nothing _ refl refl (record { reply_is = refl; book_is = refl }))) c5 in
    let c7 = next_do (client_step (of_client 2 (reads [] hello (spelling change) (ok ∷ []) refl refl refl))) c6 in
    let c8 = next_do (client_step (of_client 2 (passes hello [] key refl refl))) c7 in
    let c9 = next_do (book_step (asks 2 2 key _ _ (record { phase = refl; number_is = refl }) (record { reply_is = refl; book_is = refl }))) c8 in
    let c10 = next_do (book_step (is_lent 2 2 1 key _ _ (record { phase = refl; number_is = refl }) (record { reply_is = refl; book_is = refl }) refl)) c9 in
    let c11 = next_do (byte_step (strike_arrives 1 [] [] _ refl (record { key = refl; host = refl; port = refl }))) c10 in
    let c12 = next_do (byte_step (by_client 2 (from_client 1 (spelling change) [] refl refl))) c11 in
    let c13 = next_do (byte_step (by_lease 2 1 refl (to_link (spelling change) [] refl))) c12 in
    let c14 = next_do (byte_step (server_answers_client 2 1 change [] refl (record { alive = refl; is_sent = change-sent; inbox = refl }))) c13 in
    let c15 = takes_all 2 1 refl c14 in
    let c16 = gives_rest 2 served c15 in
    record {
      world = _;
      reached = c11;
      link = 1;
      second = refl;
      due = refl;
      others_key = others_word;
      later = _;
      reached_later = c16;
      before = ok ++ flat_map spelling (welcome (state_of (fresh the_catalogue key)) 2 2);
      second_given = refl;
    }

-- ---- a link in reset

return_used : {w : World} (c l : ℕ) → IsReachedBy ReturnsMarked w → (w.links l).role ≡ Lent c → HasEnded (w.clients c).phase → IsSettled (w.links l).sent (w.links l).received → (apply w.book (EndLease l)).reply ≡ Dispose →
    IsReachedBy ReturnsMarked (with_book (with_link w l (record (w.links l) { role = InReset; sent = []; received = []; struck = [] })) (apply w.book (EndLease l)).book)
return_used {w} c l h e f s r = slips h (returns_used c l (apply w.book (EndLease l)).book e f s (record { reply_is = r; book_is = refl }))

cancelled-are : AllByRecursion (IsFrame Server MAX_FRAME) cancelled
cancelled-are = (record { of_type = refl; size = omega arith }, (record { of_type = refl; size = omega arith }, tt))

pub struck_reset : Spoils ReturnsMarked 2
unfolding asked return_used then_do next_do takes_all gives_rest apply apply_return cut_after text_at int16_at int32_at value_at list_at query_of parse_of bind_of target_of execute_of startup_of pair_at ended_at list_until literal_length unquoted tokens_after read ends pass take_value either with_item items definitions columns_at at_most_64 take_columns take_operands block assignment set_name set reset show discard definition_list create drop_table value_list insert where_of end_of from_of select of_tokens less_semicolon phrase statement accepted_of date_styles started_over fresh step run_frames
struck_reset =
    let h1 = then_do (byte_step (by_client 1 (from_client 1 (spelling change) [] refl refl))) asked.at in
    let h2 = then_do (byte_step (by_lease 1 1 refl (to_link (spelling change) [] refl))) h1 in
    let h3 = then_do (byte_step (server_answers_client 1 1 change [] refl (record { alive = refl; is_sent = change-sent; inbox = refl }))) h2 in
    let h4 = then_do (byte_step (by_lease 1 1 refl (from_link (flat_map spelling changed) [] refl))) h3 in
    let h5 = then_do (end_step (of_end 1 closes)) h4 in
    let c6 = return_used 1 1 (so_far h5.reached) refl closed (record {
      went = change ∷ [];
      came = changed;
      sent_are = record { each = (change-sent.whole, tt); bytes_are = refl };
      received_are = record { each = changed-are; bytes_are = refl };
      answered = inr (record { equal = refl; before = []; final = change; last = refl; closing = refl; idle = refl });
    }) refl in
    let c7 = next_do (byte_step (strike_arrives 1 [] [] _ refl (record { key = refl; host = refl; port = refl }))) c6 in
    let c8 = next_do (byte_step (by_link 1 (to_reset (spelling discard_all) [] refl refl))) c7 in
    let c9 = next_do (byte_step (server_answers 1 discard_all [] tt (record { alive = refl; is_sent = discard-sent; inbox = refl }))) c8 in
    let c10 = next_do (byte_step (by_link 1 (from_reset (flat_map spelling cancelled) [] refl refl))) c9 in
    let c11 = next_do (link_step (ends_reset 1 refl (record {
      sent_is = refl;
      came = cancelled;
      received_are = record { each = cancelled-are; bytes_are = refl };
      answered = record { equal = refl; before = []; final = discard_all; last = refl; closing = refl; idle = refl };
    }))) c10 in
    let c12 = next_do (book_step (gives_back 1 0 _ refl (record { reply_is = refl; book_is = refl }))) c11 in
    let c13 = next_do (client_step (of_client 2 (comes row (word 2) refl lawful_row))) c12 in
    let c14 = next_do (client_step (of_client 2 (sends (hello ++ spelling show_name) (bytes (hello ++ spelling show_name) refl)))) c13 in
    let c15 = next_do (book_step (arrives 2 2 [] Nothing _ refl refl (record { reply_is = refl; book_is = refl }))) c14 in
    let c16 = next_do (client_step (of_client 2 (reads [] hello (spelling show_name) (ok ∷ []) refl refl refl))) c15 in
    let c17 = next_do (client_step (of_client 2 (passes hello [] key refl refl))) c16 in
    let c18 = next_do (book_step (asks 2 2 key _ _ (record { phase = refl; number_is = refl }) (record { reply_is = refl; book_is = refl }))) c17 in
    let c19 = next_do (book_step (is_lent 2 2 1 key _ _ (record { phase = refl; number_is = refl }) (record { reply_is = refl; book_is = refl }) refl)) c18 in
    let c20 = next_do (byte_step (by_client 2 (from_client 1 (spelling show_name) [] refl refl))) c19 in
    let c21 = next_do (byte_step (by_lease 2 1 refl (to_link (spelling show_name) [] refl))) c20 in
    let c22 = next_do (byte_step (server_answers_client 2 1 show_name [] refl (record { alive = refl; is_sent = show_name-sent; inbox = refl }))) c21 in
    let c23 = takes_all 2 1 refl c22 in
    let c24 = gives_rest 2 served c23 in
    record {
      world = _;
      reached = c24;
      wrong = λ b. shows_another b.more b.both;
    }
