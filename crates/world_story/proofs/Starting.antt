-- A client that waits for its link to be started.
use Rattle.std.proofs.Common.{[], ◌∷◌, refl}
use Rattle.frame_view.specs.Frames.{cut_after}
use Rattle.message_view.specs.Reading.{text_at, int16_at, int32_at, value_at, list_at, query_of, parse_of, bind_of, target_of, execute_of, startup_of, pair_at, ended_at, list_until}
use Rattle.mini_sql.specs.Tokens.{literal_length, unquoted, tokens_after}
use Rattle.mini_sql.specs.Statements.{read, ends, pass, take_value, either, with_item, items, definitions, columns_at, at_most_64, take_columns, take_operands, block, assignment, set_name, set, reset, show, discard, definition_list, create, drop_table, value_list, insert, where_of, end_of, from_of, select, of_tokens, less_semicolon, phrase, statement}
use Rattle.session_values.specs.Parameters.{accepted_of, date_styles}
use Rattle.session_values.specs.Step.{step, run_frames}
use Rattle.book_model.specs.Outcomes.{apply, apply_return}
use Rattle.book_model.specs.declared.events.Beyond.TheVariants.{Nothing}
use Rattle.session_values.specs.State.{started_over, fresh}
use Rattle.login_core.specs.Dialogue.{ok}
use Rattle.world_steps.specs.Worlds.{World}
use Rattle.world_steps.specs.Steps.Step.{book_step, client_step}
use Rattle.world_steps.specs.Steps.BookStep.{arrives, asks, is_promised}
use Rattle.world_steps.specs.Steps.ClientStep.{of_client}
use Rattle.world_steps.specs.Steps.ClientMove.{comes, sends, reads, passes}
use Rattle.world_story.proofs.Told.{row, lawful_row, key, word, limits, hello, bytes, at_first, is_empty}
use Rattle.world_story.proofs.Keys.{At, at_begin, then_do}

pub record SoFar : Type 0 where
  pub world : World
  pub at : At 0 world

-- client 1 in its login, with all that it sent read
unfoldable pub logging_in : SoFar
unfolding then_do apply apply_return cut_after text_at int16_at int32_at value_at list_at query_of parse_of bind_of target_of execute_of startup_of pair_at ended_at list_until literal_length unquoted tokens_after read ends pass take_value either with_item items definitions columns_at at_most_64 take_columns take_operands block assignment set_name set reset show discard definition_list create drop_table value_list insert where_of end_of from_of select of_tokens less_semicolon phrase statement accepted_of date_styles started_over fresh step run_frames
logging_in =
    let h0 = at_begin at_first limits (is_empty limits) in
    let h1 = then_do (client_step (of_client 1 (comes row (word 1) refl lawful_row))) h0 in
    let h2 = then_do (client_step (of_client 1 (sends hello (bytes hello refl)))) h1 in
    let h3 = then_do (book_step (arrives 1 1 [] Nothing _ refl refl (record { reply_is = refl; book_is = refl }))) h2 in
    let h4 = then_do (client_step (of_client 1 (reads [] hello [] (ok ∷ []) refl refl refl))) h3 in
    record { world = _; at = h4 }

-- link 1 is to be started for it
unfoldable pub starting : SoFar
unfolding logging_in then_do apply apply_return cut_after text_at int16_at int32_at value_at list_at query_of parse_of bind_of target_of execute_of startup_of pair_at ended_at list_until literal_length unquoted tokens_after read ends pass take_value either with_item items definitions columns_at at_most_64 take_columns take_operands block assignment set_name set reset show discard definition_list create drop_table value_list insert where_of end_of from_of select of_tokens less_semicolon phrase statement accepted_of date_styles started_over fresh step run_frames
starting =
    let h5 = then_do (client_step (of_client 1 (passes hello [] key refl refl))) logging_in.at in
    let h6 = then_do (book_step (asks 1 1 key _ _ (record { phase = refl; number_is = refl }) (record { reply_is = refl; book_is = refl }))) h5 in
    let h7 = then_do (book_step (is_promised 1 1 1 0 key _ (record { phase = refl; number_is = refl }) (record { reply_is = refl; book_is = refl }))) h6 in
    record { world = _; at = h7 }
