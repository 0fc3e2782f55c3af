-- Client 1 is served over link 1 and has sent nothing to it, and a cancel is on its way that client 3 asked for by its key word.
use Rattle.std.proofs.Common.{ℕ, List, [], ◌∷◌, ◌++◌, refl}
use Rattle.std.specs.Prelude.{codes}
use Rattle.frame_view.specs.Frames.{cut_after, spelling}
use Rattle.message_view.specs.Messages.{cancel_request}
use Rattle.message_view.specs.Reading.{text_at, int16_at, int32_at, value_at, list_at, query_of, parse_of, bind_of, target_of, execute_of, startup_of, pair_at, ended_at, list_until}
use Rattle.mini_sql.specs.Tokens.{literal_length, unquoted, tokens_after}
use Rattle.mini_sql.specs.Statements.{read, ends, pass, take_value, either, with_item, items, definitions, columns_at, at_most_64, take_columns, take_operands, block, assignment, set_name, set, reset, show, discard, definition_list, create, drop_table, value_list, insert, where_of, end_of, from_of, select, of_tokens, less_semicolon, phrase, statement}
use Rattle.session_values.specs.Parameters.{accepted_of, date_styles}
use Rattle.session_values.specs.State.{started_over, fresh}
use Rattle.session_values.specs.Step.{step, run_frames}
use Rattle.login_core.specs.Dialogue.{ok}
use Rattle.book_model.specs.Outcomes.{apply, apply_return}
use Rattle.book_model.specs.declared.events.Beyond.TheVariants.{Nothing}
use Rattle.world_steps.specs.Worlds.{World}
use Rattle.world_steps.specs.Steps.Step.{book_step, client_step, link_step}
use Rattle.world_steps.specs.Steps.BookStep.{arrives, asks, is_promised, keys, cancels}
use Rattle.world_steps.specs.Steps.ClientStep.{of_client}
use Rattle.world_steps.specs.Steps.ClientMove.{comes, sends, reads, passes}
use Rattle.world_steps.specs.Steps.LinkStep.{starts}
use Rattle.world_story.proofs.Keys.{At, at_begin, new_key, server, then_do}
use Rattle.world_story.proofs.Told.{lent_alone, row, lawful_row, key, word, limits, hello, change, bytes, at_first, is_empty}

-- what asks for a cancel by client 1's key word
abbrev request : List ℕ
request = cancel_request 1 1

pub record Asked : Type 0 where
  pub world : World
  pub at : At 1 world

unfoldable pub asked : Asked
unfolding then_do apply apply_return cut_after text_at int16_at int32_at value_at list_at query_of parse_of bind_of target_of execute_of startup_of pair_at ended_at list_until literal_length unquoted tokens_after read ends pass take_value either with_item items definitions columns_at at_most_64 take_columns take_operands block assignment set_name set reset show discard definition_list create drop_table value_list insert where_of end_of from_of select of_tokens less_semicolon phrase statement accepted_of date_styles started_over fresh step run_frames
asked =
    let h0 = at_begin at_first limits (is_empty limits) in
    let h1 = then_do (client_step (of_client 1 (comes row (word 1) refl lawful_row))) h0 in
    let h2 = then_do (client_step (of_client 1 (sends (hello ++ spelling change) (bytes (hello ++ spelling change) refl)))) h1 in
    let h3 = then_do (book_step (arrives 1 1 [] Nothing _ refl refl (record { reply_is = refl; book_is = refl }))) h2 in
    let h4 = then_do (client_step (of_client 1 (reads [] hello (spelling change) (ok ∷ []) refl refl refl))) h3 in
    let h5 = then_do (client_step (of_client 1 (passes hello [] key refl refl))) h4 in
    let h6 = then_do (book_step (asks 1 1 key _ _ (record { phase = refl; number_is = refl }) (record { reply_is = refl; book_is = refl }))) h5 in
    let h7 = then_do (book_step (is_promised 1 1 1 0 key _ (record { phase = refl; number_is = refl }) (record { reply_is = refl; book_is = refl }))) h6 in
    let h8 = then_do (link_step (starts 1 1 key (server 1) _ refl refl (new_key h7))) h7 in
    let h9 = then_do (book_step (keys 1 1 (server 1) _ refl refl (record { reply_is = refl; book_is = refl }))) h8 in
    let h10 = then_do (client_step (of_client 3 (comes row (word 3) refl lawful_row))) h9 in
    let h11 = then_do (client_step (of_client 3 (sends request (bytes request refl)))) h10 in
    let h12 = then_do (client_step (of_client 3 (reads [] request [] [] refl refl refl))) h11 in
    let h13 = then_do (book_step (cancels 3 1 (server 1) (server 1) (codes "127.0.0.1") 5432 _ (record { read = request; phase = refl; ended = refl }) (record { reply_is = refl; book_is = refl }) (lent_alone refl))) h12 in
    record { world = _; at = h13 }
