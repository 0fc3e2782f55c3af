-- A server tells the key word of one that has ended, and what that leads to, step by step.
use Rattle.std.proofs.Common.{◌≡◌, ℕ, [], ◌∷◌, ◌++◌, refl, Ok}
use Rattle.std.specs.List.{flat_map}
use Rattle.frame_view.specs.Frames.{cut_after, spelling}
use Rattle.message_view.specs.declared.views.KeyView.{KeyView}
use Rattle.message_view.specs.Reading.{text_at, int16_at, int32_at, value_at, list_at, query_of, parse_of, bind_of, target_of, execute_of, startup_of, pair_at, ended_at, list_until}
use Rattle.mini_sql.specs.Tokens.{literal_length, unquoted, tokens_after}
use Rattle.mini_sql.specs.Statements.{read, ends, pass, take_value, either, with_item, items, definitions, columns_at, at_most_64, take_columns, take_operands, block, assignment, set_name, set, reset, show, discard, definition_list, create, drop_table, value_list, insert, where_of, end_of, from_of, select, of_tokens, less_semicolon, phrase, statement}
use Rattle.session_values.specs.Parameters.{accepted_of, date_styles}
use Rattle.session_values.specs.Service.{welcome}
use Rattle.session_values.specs.State.{State, started_over, fresh}
use Rattle.session_values.specs.Step.{step, run_frames}
use Rattle.login_core.specs.Dialogue.{ok}
use Rattle.book_model.specs.Outcomes.{apply, apply_return}
use Rattle.book_model.specs.declared.events.Beyond.TheVariants.{Nothing}
use Rattle.book_model.specs.Outcomes.Event.{EndLease, Lost}
use Rattle.book_model.specs.declared.events.Reply.TheVariants.{Dispose, Done}
use Rattle.book_model.specs.Laws.IsPlain.{lease_ends, lost}
use Rattle.world_steps.specs.Clients.MayWrite.{served}
use Rattle.world_steps.specs.Clients.HasEnded.{closed}
use Rattle.world_steps.specs.Worlds.{World}
use Rattle.world_steps.specs.Steps.Step.{book_step, client_step, byte_step, link_step, end_step}
use Rattle.world_steps.specs.Steps.BookStep.{plain_event, arrives, asks, is_promised}
use Rattle.world_steps.specs.Steps.ClientStep.{of_client}
use Rattle.world_steps.specs.Steps.ClientMove.{comes, sends, reads, passes}
use Rattle.world_steps.specs.Steps.ByteStep.{by_client, by_lease, server_answers_client, strike_arrives}
use Rattle.world_steps.specs.Steps.ClientBytes.{from_client}
use Rattle.world_steps.specs.Steps.LeaseBytes.{to_link}
use Rattle.world_steps.specs.Steps.LinkStep.{disposes_lent}
use Rattle.world_steps.specs.Steps.EndStep.{of_end}
use Rattle.world_steps.specs.Steps.EndMove.{closes}
use Rattle.session_values.specs.State.{StartKeyOf, address_of}
use Rattle.world_steps.specs.Clients.Phase.{Starting}
use Rattle.world_steps.specs.Links.{newborn}
use Rattle.world_steps.specs.Steps.{gets_link}
use Rattle.world_steps.specs.Worlds.{with_pair}
use Rattle.world_story.specs.Cancelled.{StrikesAnother}
use Rattle.world_story.specs.Slips.{IsReachedBy, RepeatsKey}
use Rattle.world_story.specs.Slips.IsReachedBy.{so_far, slips}
use Rattle.world_story.specs.Slips.RepeatsKey.{repeats_key}
use Rattle.world_story.proofs.Asking.{asked}
use Rattle.world_story.proofs.Keys.{server, then_do}
use Rattle.world_story.proofs.Marked.{others_word}
use Rattle.world_story.proofs.Slipping.{next_do, takes_all, gives_rest}
use Rattle.world_story.proofs.Told.{state_of, the_catalogue, row, lawful_row, key, word, hello, change, bytes, change-sent}

-- the same, with the world before it to be found from what is reached
repeat : {w : World} (c l : ℕ) (k : StartKeyOf) (own : KeyView) (s : State) → IsReachedBy RepeatsKey w → (w.clients c).phase ≡ Starting k l → fresh (w.catalogue (address_of k)) k ≡ Ok s →
    IsReachedBy RepeatsKey (with_pair w c (gets_link (w.clients c) l s) l (newborn c k own s))
repeat c l k own s h e f = slips h (repeats_key c l k own s e f)

pub repeated : StrikesAnother RepeatsKey
unfolding asked repeat then_do next_do takes_all gives_rest apply apply_return cut_after text_at int16_at int32_at value_at list_at query_of parse_of bind_of target_of execute_of startup_of pair_at ended_at list_until literal_length unquoted tokens_after read ends pass take_value either with_item items definitions columns_at at_most_64 take_columns take_operands block assignment set_name set reset show discard definition_list create drop_table value_list insert where_of end_of from_of select of_tokens less_semicolon phrase statement accepted_of date_styles started_over fresh step run_frames
repeated =
    let h1 = then_do (end_step (of_end 1 closes)) asked.at in
    let h2 = then_do (book_step (plain_event (EndLease 1) Dispose _ lease_ends (record { reply_is = refl; book_is = refl }))) h1 in
    let h3 = then_do (link_step (disposes_lent 1 1 refl closed)) h2 in
    let h4 = then_do (book_step (plain_event (Lost 1) Done _ lost (record { reply_is = refl; book_is = refl }))) h3 in
    let h5 = then_do (client_step (of_client 2 (comes row (word 2) refl lawful_row))) h4 in
    let h6 = then_do (client_step (of_client 2 (sends (hello ++ spelling change) (bytes (hello ++ spelling change) refl)))) h5 in
    let h7 = then_do (book_step (arrives 2 2 [] Nothing _ refl refl (record { reply_is = refl; book_is = refl }))) h6 in
    let h8 = then_do (client_step (of_client 2 (reads [] hello (spelling change) (ok ∷ []) refl refl refl))) h7 in
    let h9 = then_do (client_step (of_client 2 (passes hello [] key refl refl))) h8 in
    let h10 = then_do (book_step (asks 2 2 key _ _ (record { phase = refl; number_is = refl }) (record { reply_is = refl; book_is = refl }))) h9 in
    let h11 = then_do (book_step (is_promised 2 2 2 0 key _ (record { phase = refl; number_is = refl }) (record { reply_is = refl; book_is = refl }))) h10 in
    let c12 = repeat 2 2 key (server 1) _ (so_far h11.reached) refl refl in
    let c13 = next_do (byte_step (strike_arrives 2 [] [] _ refl (record { key = refl; host = refl; port = refl }))) c12 in
    let c14 = next_do (byte_step (by_client 2 (from_client 2 (spelling change) [] refl refl))) c13 in
    let c15 = next_do (byte_step (by_lease 2 2 refl (to_link (spelling change) [] refl))) c14 in
    let c16 = next_do (byte_step (server_answers_client 2 2 change [] refl (record { alive = refl; is_sent = change-sent; inbox = refl }))) c15 in
    let c17 = takes_all 2 2 refl c16 in
    let c18 = gives_rest 2 served c17 in
    record {
      world = _;
      reached = c13;
      link = 2;
      second = refl;
      due = refl;
      others_key = others_word;
      later = _;
      reached_later = c18;
      before = ok ++ flat_map spelling (welcome (state_of (fresh the_catalogue key)) 2 2);
      second_given = refl;
    }
