-- A statement is cancelled, step by step.
use Rattle.std.proofs.Common.{ℕ, List, [], ◌∷◌, ◌++◌, refl}
use Rattle.std.specs.Prelude.{codes}
use Rattle.std.specs.List.{flat_map}
use Rattle.frame_view.specs.Frames.{cut_after, spelling}
use Rattle.message_view.specs.Messages.{cancel_request}
use Rattle.message_view.specs.Reading.{text_at, int16_at, int32_at, value_at, list_at, query_of, parse_of, bind_of, target_of, execute_of, startup_of, pair_at, ended_at, list_until}
use Rattle.mini_sql.specs.Tokens.{literal_length, unquoted, tokens_after}
use Rattle.mini_sql.specs.Statements.{read, ends, pass, take_value, either, with_item, items, definitions, columns_at, at_most_64, take_columns, take_operands, block, assignment, set_name, set, reset, show, discard, definition_list, create, drop_table, value_list, insert, where_of, end_of, from_of, select, of_tokens, less_semicolon, phrase, statement}
use Rattle.session_values.specs.Parameters.{accepted_of, date_styles}
use Rattle.session_values.specs.Service.{welcome}
use Rattle.session_values.specs.State.{started_over, fresh}
use Rattle.session_values.specs.Step.{step, run_frames}
use Rattle.login_core.specs.Dialogue.{ok}
use Rattle.book_model.specs.Outcomes.{apply, apply_return}
use Rattle.book_model.specs.declared.events.Beyond.TheVariants.{Nothing}
use Rattle.book_model.specs.Outcomes.Event.{EndLease, Lost}
use Rattle.book_model.specs.declared.events.Reply.TheVariants.{Dispose, Done}
use Rattle.book_model.specs.Laws.IsPlain.{lease_ends, lost}
use Rattle.world_steps.specs.Clients.MayWrite.{served}
use Rattle.world_steps.specs.Clients.HasEnded.{closed}
use Rattle.world_steps.specs.Steps.Step.{book_step, client_step, byte_step, link_step, end_step}
use Rattle.world_steps.specs.Steps.BookStep.{plain_event, arrives, asks, is_promised, keys, cancels}
use Rattle.world_steps.specs.Steps.ClientStep.{of_client}
use Rattle.world_steps.specs.Steps.ClientMove.{comes, sends, reads, passes}
use Rattle.world_steps.specs.Steps.ByteStep.{by_client, by_lease, server_answers_client, strike_arrives}
use Rattle.world_steps.specs.Steps.ClientBytes.{from_client}
use Rattle.world_steps.specs.Steps.LeaseBytes.{to_link, from_link}
use Rattle.world_steps.specs.Steps.LinkStep.{starts, disposes_lent}
use Rattle.world_steps.specs.Steps.EndStep.{of_end}
use Rattle.world_steps.specs.Steps.EndMove.{closes}
use Rattle.world_model.specs.Headline.{QuietLeasesAreWhole}
use Rattle.world_story.specs.Cancelled.{Cancelled, cancelled}
use Rattle.world_story.specs.Story.{changed}
use Rattle.world_story.proofs.Keys.{at_begin, new_key, server, then_do}
use Rattle.world_story.proofs.Told.{lent_alone, state_of, the_catalogue, row, lawful_row, key, word, limits, hello, change, bytes, at_first, is_empty, change-sent, gives_all}

abbrev two : List ℕ
two = spelling change ++ spelling change

-- what asks for a cancel by client 1's key word
abbrev request : List ℕ
request = cancel_request 1 1

pub cancel_told : QuietLeasesAreWhole → Cancelled
unfolding then_do gives_all apply apply_return cut_after text_at int16_at int32_at value_at list_at query_of parse_of bind_of target_of execute_of startup_of pair_at ended_at list_until literal_length unquoted tokens_after read ends pass take_value either with_item items definitions columns_at at_most_64 take_columns take_operands block assignment set_name set reset show discard definition_list create drop_table value_list insert where_of end_of from_of select of_tokens less_semicolon phrase statement accepted_of date_styles started_over fresh step run_frames
cancel_told whole =
    let h0 = at_begin at_first limits (is_empty limits) in
    let h1 = then_do (client_step (of_client 1 (comes row (word 1) refl lawful_row))) h0 in
    let h2 = then_do (client_step (of_client 1 (sends (hello ++ two) (bytes (hello ++ two) refl)))) h1 in
    let h3 = then_do (book_step (arrives 1 1 [] Nothing _ refl refl (record { reply_is = refl; book_is = refl }))) h2 in
    let h4 = then_do (client_step (of_client 1 (reads [] hello two (ok ∷ []) refl refl refl))) h3 in
    let h5 = then_do (client_step (of_client 1 (passes hello [] key refl refl))) h4 in
    let h6 = then_do (book_step (asks 1 1 key _ _ (record { phase = refl; number_is = refl }) (record { reply_is = refl; book_is = refl }))) h5 in
    let h7 = then_do (book_step (is_promised 1 1 1 0 key _ (record { phase = refl; number_is = refl }) (record { reply_is = refl; book_is = refl }))) h6 in
    let h8 = then_do (link_step (starts 1 1 key (server 1) _ refl refl (new_key h7))) h7 in
    let h9 = then_do (book_step (keys 1 1 (server 1) _ refl refl (record { reply_is = refl; book_is = refl }))) h8 in
    let h10 = then_do (client_step (of_client 2 (comes row (word 2) refl lawful_row))) h9 in
    let h11 = then_do (client_step (of_client 2 (sends request (bytes request refl)))) h10 in
    let h12 = then_do (client_step (of_client 2 (reads [] request [] [] refl refl refl))) h11 in
    let h13 = then_do (book_step (cancels 2 1 (server 1) (server 1) (codes "127.0.0.1") 5432 _ (record { read = request; phase = refl; ended = refl }) (record { reply_is = refl; book_is = refl }) (lent_alone refl))) h12 in
    let h14 = then_do (byte_step (by_client 1 (from_client 1 two [] refl refl))) h13 in
    let h15 = then_do (byte_step (by_lease 1 1 refl (to_link two [] refl))) h14 in
    let h16 = then_do (byte_step (strike_arrives 1 [] [] _ refl (record { key = refl; host = refl; port = refl }))) h15 in
    let h17 = then_do (byte_step (server_answers_client 1 1 change (spelling change) refl (record { alive = refl; is_sent = change-sent; inbox = refl }))) h16 in
    let h18 = then_do (byte_step (server_answers_client 1 1 change [] refl (record { alive = refl; is_sent = change-sent; inbox = refl }))) h17 in
    let h19 = then_do (byte_step (by_lease 1 1 refl (from_link (flat_map spelling (cancelled ++ changed)) [] refl))) h18 in
    let h20 = gives_all 1 served h19 in
    let h21 = then_do (end_step (of_end 1 closes)) h20 in
    let h22 = then_do (book_step (plain_event (EndLease 1) Dispose _ lease_ends (record { reply_is = refl; book_is = refl }))) h21 in
    let h23 = then_do (link_step (disposes_lent 1 1 refl closed)) h22 in
    let h24 = then_do (book_step (plain_event (Lost 1) Done _ lost (record { reply_is = refl; book_is = refl }))) h23 in
    record {
      world = _;
      reached = h20.reached;
      asked = refl;
      silent = refl;
      before = ok ++ flat_map spelling (welcome (state_of (fresh the_catalogue key)) 1 1);
      first_given = refl;
      whole = whole _ h20.reached 1 1 refl (record { alive = refl; inbox = refl; outbox = refl; unread = refl; for_link = refl; for_client = refl });
      lease_ends = refl;
      later = _;
      reached_later = h24.reached;
      link_gone = refl;
      finds_nobody = refl;
    }
