-- A client is welcomed with another key word.
use Rattle.std.proofs.Common.{◌≡◌, ℕ, List, ◌++◌, refl, ap, arith}
use Rattle.std.specs.Prelude.{slice_index}
use Rattle.frame_view.specs.Frames.{cut_after, spelling}
use Rattle.message_view.specs.Reading.{text_at, int16_at, int32_at, value_at, list_at, query_of, parse_of, bind_of, target_of, execute_of, startup_of, pair_at, ended_at, list_until}
use Rattle.mini_sql.specs.Tokens.{literal_length, unquoted, tokens_after}
use Rattle.mini_sql.specs.Statements.{read, ends, pass, take_value, either, with_item, items, definitions, columns_at, at_most_64, take_columns, take_operands, block, assignment, set_name, set, reset, show, discard, definition_list, create, drop_table, value_list, insert, where_of, end_of, from_of, select, of_tokens, less_semicolon, phrase, statement}
use Rattle.session_values.specs.Parameters.{accepted_of, date_styles}
use Rattle.session_values.specs.Step.{step, run_frames}
use Rattle.book_model.specs.Outcomes.{apply, apply_return}
use Rattle.session_values.specs.Service.{welcome}
use Rattle.session_values.specs.State.{started_over, fresh}
use Rattle.std.specs.List.{flat_map}
use Rattle.login_core.specs.Dialogue.{ok}
use Rattle.world_steps.specs.Clients.MayWrite.{served}
use Rattle.world_story.specs.Slips.{Spoils, Misnames}
use Rattle.world_story.specs.Slips.IsReachedBy.{so_far, slips}
use Rattle.world_story.specs.Slips.Misnames.{misnames}
use Rattle.world_story.proofs.Slipping.{next_do, takes_all, gives_rest}
use Rattle.world_story.proofs.Starting.{logging_in, starting}
use Rattle.world_story.proofs.Told.{state_of, the_catalogue, key, word}
use Rattle.world_story.proofs.Keys.{new_key, server, then_do}

abbrev greeting : ℕ → List ℕ
greeting n = ok ++ flat_map spelling (welcome (state_of (fresh the_catalogue key)) n n)

-- the byte at 249 is the last of the pid
differs : ◌≡◌ {A = ℕ} 2 1 → ⊥
differs e = omega arith

not_begun : (more : List ℕ) → greeting 2 ++ more ≡ greeting 1 → ⊥
unfolding apply apply_return cut_after text_at int16_at int32_at value_at list_at query_of parse_of bind_of target_of execute_of startup_of pair_at ended_at list_until literal_length unquoted tokens_after read ends pass take_value either with_item items definitions columns_at at_most_64 take_columns take_operands block assignment set_name set reset show discard definition_list create drop_table value_list insert where_of end_of from_of select of_tokens less_semicolon phrase statement accepted_of date_styles started_over fresh step run_frames
not_begun more e = differs (ap (λ (l : List ℕ). slice_index l 249) e)

pub misnaming : Spoils Misnames 1
unfolding logging_in starting then_do next_do takes_all gives_rest apply apply_return cut_after text_at int16_at int32_at value_at list_at query_of parse_of bind_of target_of execute_of startup_of pair_at ended_at list_until literal_length unquoted tokens_after read ends pass take_value either with_item items definitions columns_at at_most_64 take_columns take_operands block assignment set_name set reset show discard definition_list create drop_table value_list insert where_of end_of from_of select of_tokens less_semicolon phrase statement accepted_of date_styles started_over fresh step run_frames
misnaming =
    let c1 = slips (so_far starting.at.reached) (misnames 1 1 key (server 1) _ (word 2) refl refl (new_key starting.at)) in
    let c2 = gives_rest 1 served c1 in
    record {
      world = _;
      reached = c2;
      wrong = λ b. not_begun b.more b.both;
    }
