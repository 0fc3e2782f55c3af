-- A server that dies leaves a byte that it never gave.
use Rattle.std.proofs.Common.{◌≡◌, ℕ, List, [], ◌∷◌, ◌++◌, refl, sym, ◌∙◌, append_assoc, append-nil}
use Rattle.frame_view.specs.Frames.{cut_after, spelling}
use Rattle.message_view.specs.Reading.{text_at, int16_at, int32_at, value_at, list_at, query_of, parse_of, bind_of, target_of, execute_of, startup_of, pair_at, ended_at, list_until}
use Rattle.mini_sql.specs.Tokens.{literal_length, unquoted, tokens_after}
use Rattle.mini_sql.specs.Statements.{read, ends, pass, take_value, either, with_item, items, definitions, columns_at, at_most_64, take_columns, take_operands, block, assignment, set_name, set, reset, show, discard, definition_list, create, drop_table, value_list, insert, where_of, end_of, from_of, select, of_tokens, less_semicolon, phrase, statement}
use Rattle.session_values.specs.Parameters.{accepted_of, date_styles}
use Rattle.session_values.specs.Step.{step, run_frames}
use Rattle.book_model.specs.Outcomes.{apply, apply_return}
use Rattle.session_values.specs.Service.{welcome}
use Rattle.session_values.specs.State.{started_over, fresh}
use Rattle.std.specs.List.{flat_map}
use Rattle.std.proofs.lemmas.List.{append_cancel_left}
use Rattle.login_core.specs.Dialogue.{ok}
use Rattle.world_steps.specs.Clients.MayWrite.{served}
use Rattle.world_steps.specs.Steps.Step.{link_step}
use Rattle.world_steps.specs.Steps.LinkStep.{starts}
use Rattle.world_story.specs.Slips.{Spoils, DiesLying}
use Rattle.world_story.specs.Slips.IsReachedBy.{so_far, slips}
use Rattle.world_story.specs.Slips.DiesLying.{dies_lying}
use Rattle.world_story.proofs.Slipping.{next_do, takes_all, gives_rest}
use Rattle.world_story.proofs.Starting.{logging_in, starting}
use Rattle.world_story.proofs.Told.{state_of, the_catalogue, key}
use Rattle.world_story.proofs.Keys.{new_key, server, then_do}

abbrev greeting : List ℕ
greeting = ok ++ flat_map spelling (welcome (state_of (fresh the_catalogue key)) 1 1)

is_some : (more : List ℕ) → (0 ∷ []) ++ more ≡ [] → ⊥
is_some more e = cc

too_much : (more : List ℕ) → (greeting ++ 0 ∷ []) ++ more ≡ greeting → ⊥
too_much more e = is_some more (append_cancel_left greeting ((0 ∷ []) ++ more) [] (sym (append_assoc greeting (0 ∷ []) more) ∙ e ∙ sym (append-nil greeting)))

pub lie : Spoils DiesLying 1
unfolding logging_in starting then_do next_do takes_all gives_rest apply apply_return cut_after text_at int16_at int32_at value_at list_at query_of parse_of bind_of target_of execute_of startup_of pair_at ended_at list_until literal_length unquoted tokens_after read ends pass take_value either with_item items definitions columns_at at_most_64 take_columns take_operands block assignment set_name set reset show discard definition_list create drop_table value_list insert where_of end_of from_of select of_tokens less_semicolon phrase statement accepted_of date_styles started_over fresh step run_frames
lie =
    let h0 = then_do (link_step (starts 1 1 key (server 1) _ refl refl (new_key starting.at))) starting.at in
    let c1 = slips (so_far h0.reached) (dies_lying 1 (0 ∷ [])) in
    let c2 = takes_all 1 1 refl c1 in
    let c3 = gives_rest 1 served c2 in
    record {
      world = _;
      reached = c3;
      wrong = λ b. too_much b.more b.both;
    }
