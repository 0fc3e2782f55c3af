-- A return that skips the reset, and what it leads to, step by step.
use Rattle.std.proofs.Common.{◌≡◌, ℕ, false, List, [], ◌∷◌, ◌++◌, refl, sym, inr, ap, ◌∙◌, append_assoc, arith}
use Rattle.std.specs.Prelude.{codes}
use Rattle.std.specs.List.{flat_map}
use Rattle.frame_view.specs.Frames.{FrameOf, cut_after, spelling}
use Rattle.message_view.specs.Messages.{query}
use Rattle.message_view.specs.Reading.{text_at, int16_at, int32_at, value_at, list_at, query_of, parse_of, bind_of, target_of, execute_of, startup_of, pair_at, ended_at, list_until}
use Rattle.mini_sql.specs.Tokens.{literal_length, unquoted, tokens_after}
use Rattle.mini_sql.specs.Statements.{read, ends, pass, take_value, either, with_item, items, definitions, columns_at, at_most_64, take_columns, take_operands, block, assignment, set_name, set, reset, show, discard, definition_list, create, drop_table, value_list, insert, where_of, end_of, from_of, select, of_tokens, less_semicolon, phrase, statement}
use Rattle.session_values.specs.Parameters.{accepted_of, date_styles}
use Rattle.session_values.specs.Service.{welcome}
use Rattle.session_values.specs.State.{State, started_over, fresh}
use Rattle.session_values.specs.Step.{step, run_frames}
use Rattle.session_laws.specs.Laws.{IsSent}
use Rattle.login_core.specs.Dialogue.{ok}
use Rattle.book_model.specs.Outcomes.{apply, apply_return}
use Rattle.book_model.specs.declared.events.Beyond.TheVariants.{Nothing}
use Rattle.book_model.specs.Outcomes.Event.{EndLease}
use Rattle.book_model.specs.declared.events.Reply.TheVariants.{Reset}
use Rattle.world_steps.specs.Clients.MayWrite.{served}
use Rattle.world_steps.specs.Clients.HasEnded.{closed}
use Rattle.world_steps.specs.Worlds.{World}
use Rattle.world_steps.specs.Steps.Step.{book_step, client_step, byte_step, link_step, end_step}
use Rattle.world_steps.specs.Steps.BookStep.{arrives, asks, is_lent, is_promised, gives_back}
use Rattle.world_steps.specs.Steps.ClientStep.{of_client}
use Rattle.world_steps.specs.Steps.ClientMove.{comes, sends, reads, passes}
use Rattle.world_steps.specs.Steps.ByteStep.{by_client, by_lease, server_answers_client}
use Rattle.world_steps.specs.Steps.ClientBytes.{from_client}
use Rattle.world_steps.specs.Steps.LeaseBytes.{to_link, from_link}
use Rattle.world_steps.specs.Steps.LinkStep.{starts}
use Rattle.world_steps.specs.Steps.EndStep.{of_end}
use Rattle.world_steps.specs.Steps.EndMove.{closes}
use Rattle.world_steps.specs.Clients.{HasEnded}
use Rattle.world_steps.specs.Links.{IsSettled}
use Rattle.world_steps.specs.Links.Role.{Lent, Clean}
use Rattle.world_steps.specs.Worlds.{World, with_book, with_link}
use Rattle.world_story.specs.Story.{changed}
use Rattle.std.specs.Prelude.{slice_index}
use Rattle.std.proofs.lemmas.List.{append_cancel_left}
use Rattle.world_story.specs.Slips.{IsReachedBy, Spoils, SkipsReset}
use Rattle.world_story.specs.Slips.IsReachedBy.{so_far, slips}
use Rattle.world_story.specs.Slips.SkipsReset.{skips_reset}
use Rattle.world_story.proofs.Slipping.{next_do, takes_all, gives_rest}
use Rattle.world_story.proofs.Told.{state_of, the_catalogue, row, lawful_row, key, word, limits, hello, change, bytes, at_first, is_empty, change-sent, changed-are, gives_all}
use Rattle.world_story.proofs.Keys.{at_begin, new_key, server, then_do}

abbrev pub show_name : FrameOf
show_name = query (codes "SHOW application_name")

pub show_name-sent : IsSent show_name
show_name-sent = record { whole = record { of_type = refl; size = omega arith }; bytes = bytes show_name.body refl }

-- the same, with the world before it to be found from what is reached
skip : {w : World} (c l : ℕ) → IsReachedBy SkipsReset w → (w.links l).role ≡ Lent c → HasEnded (w.clients c).phase → IsSettled (w.links l).sent (w.links l).received → (apply w.book (EndLease l)).reply ≡ Reset →
    IsReachedBy SkipsReset (with_book (with_link w l (record (w.links l) { role = Clean; sent = []; received = []; struck = [] })) (apply w.book (EndLease l)).book)
skip {w} c l h e f s r = slips h (skips_reset c l (apply w.book (EndLease l)).book e f s (record { reply_is = r; book_is = refl }))

-- what SHOW is answered by, in the session that the first client left and in a fresh one
abbrev pub fresh_one : State
fresh_one = state_of (fresh the_catalogue key)

abbrev pub left_over : State
left_over = (step the_catalogue fresh_one false change).next

abbrev pub shown : State → List ℕ
shown s = flat_map spelling (step the_catalogue s false show_name).replies

-- the byte at 46 tells the length of the answer's row: with the value `x`, or with none
differs : ◌≡◌ {A = ℕ} 11 10 → ⊥
differs e = omega arith

not_begun : (more : List ℕ) → shown left_over ++ more ≡ shown fresh_one → ⊥
unfolding apply apply_return cut_after text_at int16_at int32_at value_at list_at query_of parse_of bind_of target_of execute_of startup_of pair_at ended_at list_until literal_length unquoted tokens_after read ends pass take_value either with_item items definitions columns_at at_most_64 take_columns take_operands block assignment set_name set reset show discard definition_list create drop_table value_list insert where_of end_of from_of select of_tokens less_semicolon phrase statement accepted_of date_styles started_over fresh step run_frames
not_begun more e = differs (ap (λ (l : List ℕ). slice_index l 46) e)

abbrev pub greeting : List ℕ
greeting = ok ++ flat_map spelling (welcome fresh_one 2 2)

pub shows_another : (more : List ℕ) → (greeting ++ shown left_over) ++ more ≡ greeting ++ shown fresh_one → ⊥
shows_another more e = not_begun more (append_cancel_left greeting (shown left_over ++ more) (shown fresh_one) (sym (append_assoc greeting (shown left_over) more) ∙ e))

pub leak : Spoils SkipsReset 2
unfolding skip then_do gives_all next_do takes_all gives_rest apply apply_return cut_after text_at int16_at int32_at value_at list_at query_of parse_of bind_of target_of execute_of startup_of pair_at ended_at list_until literal_length unquoted tokens_after read ends pass take_value either with_item items definitions columns_at at_most_64 take_columns take_operands block assignment set_name set reset show discard definition_list create drop_table value_list insert where_of end_of from_of select of_tokens less_semicolon phrase statement accepted_of date_styles started_over fresh step run_frames
leak =
    let h0 = at_begin at_first limits (is_empty limits) in
    let h1 = then_do (client_step (of_client 1 (comes row (word 1) refl lawful_row))) h0 in
    let h2 = then_do (client_step (of_client 1 (sends (hello ++ spelling change) (bytes (hello ++ spelling change) refl)))) h1 in
    let a1 = then_do (book_step (arrives 1 1 [] Nothing _ refl refl (record { reply_is = refl; book_is = refl }))) h2 in
    let h3 = then_do (client_step (of_client 1 (reads [] hello (spelling change) (ok ∷ []) refl refl refl))) a1 in
    let h4 = then_do (client_step (of_client 1 (passes hello [] key refl refl))) h3 in
    let h5 = then_do (book_step (asks 1 1 key _ _ (record { phase = refl; number_is = refl }) (record { reply_is = refl; book_is = refl }))) h4 in
    let h6 = then_do (book_step (is_promised 1 1 1 0 key _ (record { phase = refl; number_is = refl }) (record { reply_is = refl; book_is = refl }))) h5 in
    let h7 = then_do (link_step (starts 1 1 key (server 1) _ refl refl (new_key h6))) h6 in
    let h8 = then_do (byte_step (by_client 1 (from_client 1 (spelling change) [] refl refl))) h7 in
    let h9 = then_do (byte_step (by_lease 1 1 refl (to_link (spelling change) [] refl))) h8 in
    let h10 = then_do (byte_step (server_answers_client 1 1 change [] refl (record { alive = refl; is_sent = change-sent; inbox = refl }))) h9 in
    let h11 = then_do (byte_step (by_lease 1 1 refl (from_link (flat_map spelling changed) [] refl))) h10 in
    let h12 = gives_all 1 served h11 in
    let h13 = then_do (end_step (of_end 1 closes)) h12 in
    let c13 = so_far h13.reached in
    let c14 = skip 1 1 c13 refl closed (record {
      went = change ∷ [];
      came = changed;
      sent_are = record { each = (change-sent.whole, tt); bytes_are = refl };
      received_are = record { each = changed-are; bytes_are = refl };
      answered = inr (record { equal = refl; before = []; final = change; last = refl; closing = refl; idle = refl });
    }) refl in
    let c15 = next_do (book_step (gives_back 1 0 _ refl (record { reply_is = refl; book_is = refl }))) c14 in
    let c16 = next_do (client_step (of_client 2 (comes row (word 2) refl lawful_row))) c15 in
    let c17 = next_do (client_step (of_client 2 (sends (hello ++ spelling show_name) (bytes (hello ++ spelling show_name) refl)))) c16 in
    let c18 = next_do (book_step (arrives 2 2 [] Nothing _ refl refl (record { reply_is = refl; book_is = refl }))) c17 in
    let c19 = next_do (client_step (of_client 2 (reads [] hello (spelling show_name) (ok ∷ []) refl refl refl))) c18 in
    let c20 = next_do (client_step (of_client 2 (passes hello [] key refl refl))) c19 in
    let c21 = next_do (book_step (asks 2 2 key _ _ (record { phase = refl; number_is = refl }) (record { reply_is = refl; book_is = refl }))) c20 in
    let c22 = next_do (book_step (is_lent 2 2 1 key _ _ (record { phase = refl; number_is = refl }) (record { reply_is = refl; book_is = refl }) refl)) c21 in
    let c23 = next_do (byte_step (by_client 2 (from_client 1 (spelling show_name) [] refl refl))) c22 in
    let c24 = next_do (byte_step (by_lease 2 1 refl (to_link (spelling show_name) [] refl))) c23 in
    let c25 = next_do (byte_step (server_answers_client 2 1 show_name [] refl (record { alive = refl; is_sent = show_name-sent; inbox = refl }))) c24 in
    let c26 = takes_all 2 1 refl c25 in
    let c27 = gives_rest 2 served c26 in
    record {
      world = _;
      reached = c27;
      wrong = λ b. shows_another b.more b.both;
    }
