-- A client that was welcomed asks for another link.
use Rattle.std.proofs.Common.{◌≡◌, ℕ, suc, List, [], ◌∷◌, ◌++◌, refl, sym, ◌∙◌, append_assoc, append-nil}
use Rattle.frame_view.specs.Frames.{cut_after, spelling}
use Rattle.message_view.specs.Reading.{text_at, int16_at, int32_at, value_at, list_at, query_of, parse_of, bind_of, target_of, execute_of, startup_of, pair_at, ended_at, list_until}
use Rattle.mini_sql.specs.Tokens.{literal_length, unquoted, tokens_after}
use Rattle.mini_sql.specs.Statements.{read, ends, pass, take_value, either, with_item, items, definitions, columns_at, at_most_64, take_columns, take_operands, block, assignment, set_name, set, reset, show, discard, definition_list, create, drop_table, value_list, insert, where_of, end_of, from_of, select, of_tokens, less_semicolon, phrase, statement}
use Rattle.session_values.specs.Parameters.{accepted_of, date_styles}
use Rattle.session_values.specs.Step.{step, run_frames}
use Rattle.book_model.specs.Outcomes.{apply, apply_return}
use Rattle.book_model.specs.Outcomes.Event.{Lost}
use Rattle.book_model.specs.declared.events.Reply.TheVariants.{Done}
use Rattle.book_model.specs.Laws.IsPlain.{lost}
use Rattle.session_values.specs.Service.{welcome}
use Rattle.session_values.specs.State.{StartKeyOf, started_over, fresh}
use Rattle.std.specs.List.{flat_map}
use Rattle.std.proofs.lemmas.List.{append_cancel_left}
use Rattle.login_core.specs.Dialogue.{ok}
use Rattle.world_steps.specs.Clients.MayWrite.{served}
use Rattle.world_steps.specs.Clients.Phase.{Served, Waiting}
use Rattle.world_steps.specs.Links.Role.{Gone}
use Rattle.world_steps.specs.Worlds.{World, with_pair}
use Rattle.world_steps.specs.Steps.{IsNewKey, Step}
use Rattle.world_steps.specs.Steps.Step.{book_step, link_step}
use Rattle.world_steps.specs.Steps.BookStep.{plain_event, asks, is_promised}
use Rattle.world_steps.specs.Steps.LinkStep.{starts}
use Rattle.world_story.specs.Slips.{AsksAgain, IsReachedBy, Spoils}
use Rattle.world_story.specs.Slips.IsReachedBy.{so_far, slips, goes_on}
use Rattle.world_story.specs.Slips.AsksAgain.{asks_again}
use Rattle.world_story.proofs.Slipping.{next_do, gives_rest}
use Rattle.world_story.proofs.Starting.{logging_in, starting}
use Rattle.world_story.proofs.Told.{state_of, the_catalogue, key}
use Rattle.world_story.proofs.Keys.{AllTold, At, after, new_by, new_key, same_told, server, then_do, told_on}

-- behind slips, too, no server told a greater pid
pub record AtAgain (n : ℕ) (w : World) : Type 0 where
  pub reached : IsReachedBy AsksAgain w
  pub told : AllTold n w.links

unfoldable pub ask_again : {w : World} {n : ℕ} (c l : ℕ) → At n w → (w.clients c).phase ≡ Served l → AtAgain n (with_pair w c (record (w.clients c) { phase = Waiting (w.links l).key }) l (record (w.links l) { role = Gone }))
ask_again {w} {n} c l h e = record { reached = slips (so_far h.reached) (asks_again c l e); told = same_told w.links l _ refl h.told }

unfoldable pub again_do : {w v : World} {n : ℕ} (s : Step w v) → AtAgain n w → AtAgain (after s n) v
again_do {w} {v} {n} s h = record { reached = goes_on h.reached s; told = told_on w v s h.told }

pub new_again : {n : ℕ} {w : World} {k : StartKeyOf} → AtAgain n w → IsNewKey w k (server (suc n))
new_again {n} {w} {k} h = new_by w.links k h.told

abbrev greeting : List ℕ
greeting = flat_map spelling (welcome (state_of (fresh the_catalogue key)) 1 1)

is_some : (a : ℕ) (xs : List ℕ) → a ∷ xs ≡ [] → ⊥
is_some a xs e = cc

is_said : (more : List ℕ) → greeting ++ more ≡ [] → ⊥
unfolding apply apply_return cut_after text_at int16_at int32_at value_at list_at query_of parse_of bind_of target_of execute_of startup_of pair_at ended_at list_until literal_length unquoted tokens_after read ends pass take_value either with_item items definitions columns_at at_most_64 take_columns take_operands block assignment set_name set reset show discard definition_list create drop_table value_list insert where_of end_of from_of select of_tokens less_semicolon phrase statement accepted_of date_styles started_over fresh step run_frames
is_said more e = is_some _ _ e

too_much : (more : List ℕ) → ((ok ++ greeting) ++ greeting) ++ more ≡ ok ++ greeting → ⊥
too_much more e = is_said more (append_cancel_left (ok ++ greeting) (greeting ++ more) [] (sym (append_assoc (ok ++ greeting) greeting more) ∙ e ∙ sym (append-nil (ok ++ greeting))))

pub again : Spoils AsksAgain 1
unfolding logging_in starting then_do ask_again again_do next_do gives_rest apply apply_return cut_after text_at int16_at int32_at value_at list_at query_of parse_of bind_of target_of execute_of startup_of pair_at ended_at list_until literal_length unquoted tokens_after read ends pass take_value either with_item items definitions columns_at at_most_64 take_columns take_operands block assignment set_name set reset show discard definition_list create drop_table value_list insert where_of end_of from_of select of_tokens less_semicolon phrase statement accepted_of date_styles started_over fresh step run_frames
again =
    let h0 = then_do (link_step (starts 1 1 key (server 1) _ refl refl (new_key starting.at))) starting.at in
    let c1 = ask_again 1 1 h0 refl in
    let c2 = again_do (book_step (plain_event (Lost 1) Done _ lost (record { reply_is = refl; book_is = refl }))) c1 in
    let c3 = again_do (book_step (asks 1 1 key _ _ (record { phase = refl; number_is = refl }) (record { reply_is = refl; book_is = refl }))) c2 in
    let c4 = again_do (book_step (is_promised 1 1 2 0 key _ (record { phase = refl; number_is = refl }) (record { reply_is = refl; book_is = refl }))) c3 in
    let c5 = again_do (link_step (starts 1 2 key (server 2) _ refl refl (new_again c4))) c4 in
    let c6 = gives_rest 1 served c5.reached in
    record {
      world = _;
      reached = c6;
      wrong = λ b. too_much b.more b.both;
    }
