-- A login passes with another key, that of a session with a setting.
use Rattle.std.proofs.Common.{◌≡◌, ℕ, List, [], ◌∷◌, ◌++◌, refl, ap, arith}
use Rattle.std.specs.Prelude.{slice_index, codes}
use Rattle.frame_view.specs.Frames.{cut_after, spelling}
use Rattle.message_view.specs.Reading.{text_at, int16_at, int32_at, value_at, list_at, query_of, parse_of, bind_of, target_of, execute_of, startup_of, pair_at, ended_at, list_until}
use Rattle.mini_sql.specs.Tokens.{literal_length, unquoted, tokens_after}
use Rattle.mini_sql.specs.Statements.{read, ends, pass, take_value, either, with_item, items, definitions, columns_at, at_most_64, take_columns, take_operands, block, assignment, set_name, set, reset, show, discard, definition_list, create, drop_table, value_list, insert, where_of, end_of, from_of, select, of_tokens, less_semicolon, phrase, statement}
use Rattle.session_values.specs.Parameters.{accepted_of, date_styles}
use Rattle.session_values.specs.Step.{step, run_frames}
use Rattle.book_model.specs.Outcomes.{apply, apply_return}
use Rattle.session_values.specs.Service.{welcome}
use Rattle.session_values.specs.State.{StartKeyOf, started_over, fresh}
use Rattle.std.specs.List.{flat_map}
use Rattle.login_core.specs.Dialogue.{ok}
use Rattle.world_steps.specs.Clients.MayWrite.{served}
use Rattle.world_steps.specs.Links.{Link}
use Rattle.world_steps.specs.Links.Role.{Promised}
use Rattle.world_steps.specs.Worlds.{put}
use Rattle.world_steps.specs.Steps.Step.{book_step, link_step}
use Rattle.world_steps.specs.Steps.BookStep.{asks, is_promised}
use Rattle.world_steps.specs.Steps.LinkStep.{starts}
use Rattle.world_story.specs.Slips.{Spoils, PassesSomehow}
use Rattle.world_story.specs.Slips.IsReachedBy.{so_far, slips}
use Rattle.world_story.specs.Slips.PassesSomehow.{passes_somehow}
use Rattle.world_story.proofs.Slipping.{next_do, takes_all, gives_rest}
use Rattle.world_story.proofs.Starting.{logging_in, starting}
use Rattle.world_story.proofs.Told.{state_of, the_catalogue, key, hello}
use Rattle.world_story.proofs.Keys.{new_by, same_told, server, then_do}

abbrev another : StartKeyOf
another = record key { parameters = (codes "application_name", codes "x") ∷ [] }

abbrev greeting : StartKeyOf → List ℕ
greeting k = ok ++ flat_map spelling (welcome (state_of (fresh the_catalogue k)) 1 1)

-- the byte at 31 is the first of application_name's value, or ends it
differs : ◌≡◌ {A = ℕ} 120 0 → ⊥
differs e = omega arith

not_begun : (more : List ℕ) → greeting another ++ more ≡ greeting key → ⊥
unfolding apply apply_return cut_after text_at int16_at int32_at value_at list_at query_of parse_of bind_of target_of execute_of startup_of pair_at ended_at list_until literal_length unquoted tokens_after read ends pass take_value either with_item items definitions columns_at at_most_64 take_columns take_operands block assignment set_name set reset show discard definition_list create drop_table value_list insert where_of end_of from_of select of_tokens less_semicolon phrase statement accepted_of date_styles started_over fresh step run_frames
not_begun more e = differs (ap (λ (l : List ℕ). slice_index l 31) e)

pub passing : Spoils PassesSomehow 1
unfolding logging_in starting then_do next_do takes_all gives_rest apply apply_return cut_after text_at int16_at int32_at value_at list_at query_of parse_of bind_of target_of execute_of startup_of pair_at ended_at list_until literal_length unquoted tokens_after read ends pass take_value either with_item items definitions columns_at at_most_64 take_columns take_operands block assignment set_name set reset show discard definition_list create drop_table value_list insert where_of end_of from_of select of_tokens less_semicolon phrase statement accepted_of date_styles started_over fresh step run_frames
passing =
    let promised : Link = record (logging_in.world.links 1) { role = Promised 1 } in
    let c1 = slips (so_far logging_in.at.reached) (passes_somehow 1 hello another refl) in
    let c2 = next_do (book_step (asks 1 1 another _ _ (record { phase = refl; number_is = refl }) (record { reply_is = refl; book_is = refl }))) c1 in
    let c3 = next_do (book_step (is_promised 1 1 1 0 another _ (record { phase = refl; number_is = refl }) (record { reply_is = refl; book_is = refl }))) c2 in
    let c4 = next_do (link_step (starts 1 1 another (server 1) _ refl refl (new_by (put logging_in.world.links 1 promised) another (same_told logging_in.world.links 1 promised refl logging_in.at.told)))) c3 in
    let c5 = gives_rest 1 served c4 in
    record {
      world = _;
      reached = c5;
      wrong = λ b. not_begun b.more b.both;
    }
