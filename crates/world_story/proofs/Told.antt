-- The story, step by step.
use Rattle.std.proofs.Common.{◌≡◌, ℕ, zero, suc, ◌<◌, List, true, [], ◌∷◌, ◌++◌, refl, sym, ap, append-nil, subst, inl, inr, Some, None, Result, Ok, Err, arith, ltb-true}
use Rattle.std.specs.Prelude.{codes, nat_lt}
use Rattle.std.specs.List.{AllByRecursion, flat_map, list_all}
use Rattle.frame_view.specs.Frames.{AreBytes, FrameOf, IsFrame, cut_after, spelling}
use Rattle.frame_view.specs.declared.Side.TheVariants.{Server}
use Rattle.frame_view.specs.declared.frames.TheConstants.{MAX_FRAME}
use Rattle.message_view.specs.declared.kinds.TheConstants.{IDLE}
use Rattle.message_view.specs.declared.KeyWord.{KeyWord}
use Rattle.message_view.specs.Messages.{command_complete, parameter_status, ready_for_query, query, startup_message}
use Rattle.message_view.specs.Reading.{text_at, int16_at, int32_at, value_at, list_at, query_of, parse_of, bind_of, target_of, execute_of, startup_of, pair_at, ended_at, list_until}
use Rattle.mini_sql.specs.Tokens.{literal_length, unquoted, tokens_after}
use Rattle.mini_sql.specs.Statements.{read, ends, pass, take_value, either, with_item, items, definitions, columns_at, at_most_64, take_columns, take_operands, block, assignment, set_name, set, reset, show, discard, definition_list, create, drop_table, value_list, insert, where_of, end_of, from_of, select, of_tokens, less_semicolon, phrase, statement}
use Rattle.ini_config.specs.declared.database_rows.DbRow.{DbRow}
use Rattle.ini_config.specs.declared.option_values.AuthType.TheVariants.{Trust}
use Rattle.user_file.specs.declared.user_table.UserRow.{UserRow}
use Rattle.user_file.specs.declared.secrets.Secret.TheVariants.{Plain}
use Rattle.session_values.specs.Lawful.{IsLawfulCatalogue, IsLawfulKey}
use Rattle.session_values.specs.Parameters.{accepted_of, date_styles}
use Rattle.session_values.specs.declared.cause.Cause.{Cause}
use Rattle.session_values.specs.Service.{welcome}
use Rattle.session_values.specs.State.{State, CatalogueOf, StartKeyOf, begun, started_over, fresh}
use Rattle.session_values.specs.Step.{step, run_frames}
use Rattle.session_values.proofs.Alls.{all-as, list_all-each}
use Rattle.session_laws.specs.Laws.{IsSent, discard_all}
use Rattle.param_track.specs.StartKeys.{always_followed}
use Rattle.login_laws.specs.StartKeys.{IsLawfulRow}
use Rattle.login_core.specs.Dialogue.{LoginRow, ok}
use Rattle.book_model.specs.Book.{Book, Limits, Row, empty_book}
use Rattle.book_model.specs.Laws.{HasLink}
use Rattle.book_model.specs.Limits.{usual}
use Rattle.book_model.specs.Places.{IsPlaceOf}
use Rattle.book_model.specs.Outcomes.{apply, apply_return}
use Rattle.book_model.specs.declared.events.Beyond.TheVariants.{Nothing}
use Rattle.world_steps.specs.Clients.{Client, MayWrite}
use Rattle.world_steps.specs.Clients.Phase.{Absent, Refusing}
use Rattle.world_steps.specs.Clients.AtBorder.{past_login}
use Rattle.message_view.specs.declared.refusal.Refusal.TheVariants.{ServerFailed}
use Rattle.message_view.specs.Refusals.{refusal}
use Rattle.session_laws.proofs.ByName.{fresh_is_reached, welcome_is_frames}
use Rattle.login_laws.proofs.ByName.{passed_keys_are_link_keys}
use Rattle.world_steps.specs.Clients.MayWrite.{served}
use Rattle.world_steps.specs.Clients.HasEnded.{closed, refusing}
use Rattle.world_steps.specs.Links.{Link}
use Rattle.world_steps.specs.Links.Role.{Unborn}
use Rattle.world_steps.specs.Worlds.{World, with_client}
use Rattle.world_steps.specs.Steps.{IsEmpty}
use Rattle.world_steps.specs.Steps.Step.{book_step, client_step, byte_step, link_step, end_step}
use Rattle.world_steps.specs.Steps.BookStep.{arrives, asks, is_lent, is_promised, gives_back}
use Rattle.world_steps.specs.Steps.ClientStep.{of_client}
use Rattle.world_steps.specs.Steps.ClientMove.{comes, sends, reads, passes}
use Rattle.world_steps.specs.Steps.ByteStep.{by_client, by_lease, by_link, server_answers, server_answers_client}
use Rattle.world_steps.specs.Steps.ClientBytes.{from_client, to_client}
use Rattle.world_steps.specs.Steps.LeaseBytes.{to_link, from_link}
use Rattle.world_steps.specs.Steps.LinkBytes.{to_reset, from_reset, server_dies}
use Rattle.world_steps.specs.Steps.LinkStep.{starts, returns_used, ends_reset, disposes_lent}
use Rattle.world_steps.specs.Steps.EndStep.{of_end}
use Rattle.world_steps.specs.Steps.EndMove.{closes, refuses, refusal_to_client}
use Rattle.world_model.specs.Headline.{QuietLeasesAreWhole}
use Rattle.world_story.specs.Story.{Story, changed}
use Rattle.world_story.proofs.Keys.{At, at_begin, new_key, server, then_do}

abbrev pub the_catalogue : CatalogueOf
the_catalogue = record { version = codes "16.0"; databases = codes "shop" ∷ []; tables = [] }

pub lawful : IsLawfulCatalogue the_catalogue
lawful = record { version = ((omega arith, (omega arith, (omega arith, (omega arith, tt)))), omega arith); tables = tt }

abbrev db : DbRow
db = record { name = codes "shop"; host = codes "127.0.0.1"; port = 5432; dbname = codes "shop"; pool_size = None; user = None; password = None }

abbrev user : UserRow
user = record { name = codes "ann"; secret = Plain (codes "p") }

abbrev pub row : LoginRow
row = record { auth = Trust; names = record { followed = always_followed; ignored = [] }; admins = []; lookers = []; database = Some db; user = Some user; salts = [] }

pub lawful_row : IsLawfulRow row.database
lawful_row = record { dbname = (omega arith, (omega arith, (omega arith, (omega arith, (omega arith, tt))))); user = tt }

abbrev pub key : StartKeyOf
key = record { row = codes "shop"; host = Some (codes "127.0.0.1"); port = 5432; dbname = codes "shop"; user = codes "ann"; parameters = [] }

abbrev pub word : ℕ → KeyWord
word n = record { pid = n; secret = n; salt = [] }

-- the one database row, with pools of this size
abbrev pub rows : ℕ → List Row
rows size = record { name = db.name; host = db.host; port = db.port; dbname = db.dbname; size = size } ∷ []

abbrev pub limits : Limits
limits = record (usual (rows 9)) { max_clients = 9; max_links = 9; default_size = 9; wait_timeout = 0 }

-- the only link that the book lends is at the place of the database row
pub lent_alone : {b : Book} → b.lent ≡ record { number = 1; key = key; started_at = 0; since = 0 } ∷ [] → IsPlaceOf b 1 db.host db.port
lent_alone e = record { key = key; is_lent = subst (HasLink 1 key) (sym e) (inl (refl, refl)); host_is = refl; port_is = refl }

abbrev pub hello : List ℕ
hello = startup_message ((codes "user", codes "ann") ∷ (codes "database", codes "shop") ∷ [])

abbrev pub change : FrameOf
change = query (codes "SET application_name TO 'x'")

below : (bs : List ℕ) → AllByRecursion (λ b. b < 256) bs → AreBytes bs
below [] h i = omega arith
below (b ∷ bs) h zero = h.0
below (b ∷ bs) h (suc i) = below bs h.1 i

pub bytes : (bs : List ℕ) → list_all (λ b. nat_lt b 256) bs ≡ true → AreBytes bs
bytes bs h = below bs (all-as (λ b. nat_lt b 256 ≡ true) (λ b. b < 256) (λ (b : ℕ) k. ltb-true b 256 k) bs (list_all-each (λ b. nat_lt b 256) bs h))

abbrev nobody : Client
nobody = record { phase = Absent; number = None; row = row; word = word 0; sent = []; unread = []; for_link = []; for_client = []; out = []; refusal = []; struck = [] }

abbrev no_link : Link
no_link = record { role = Unborn; key = key; server_key = None; alive = true; session = begun []; inbox = []; outbox = []; due = None; sent = []; received = []; struck = [] }

abbrev pub at_first : World
at_first = record { catalogue = λ _. the_catalogue; clients = λ _. nobody; links = λ _. no_link; book = empty_book limits; strikes = [] }

pub is_empty : (l : Limits) → IsEmpty (record at_first { book = empty_book l }) l
is_empty l = record { lawful = λ _. lawful; absent = λ _. refl; unnumbered = λ _. refl; given_nothing = λ _. (refl, refl); unstruck = λ _. refl; unborn = λ _. refl; keyless = λ _. refl; undue = λ _. refl; no_strikes = refl; book_is = refl }

abbrev back : List FrameOf
back = command_complete (codes "DISCARD ALL") ∷ parameter_status (codes "application_name") [] ∷ ready_for_query IDLE ∷ []

pub change-sent : IsSent change
change-sent = record { whole = record { of_type = refl; size = omega arith }; bytes = bytes change.body refl }

pub discard-sent : IsSent discard_all
discard-sent = record { whole = record { of_type = refl; size = omega arith }; bytes = bytes discard_all.body refl }

pub changed-are : AllByRecursion (IsFrame Server MAX_FRAME) changed
changed-are = (record { of_type = refl; size = omega arith }, (record { of_type = refl; size = omega arith }, (record { of_type = refl; size = omega arith }, tt)))

back-are : AllByRecursion (IsFrame Server MAX_FRAME) back
back-are = (record { of_type = refl; size = omega arith }, (record { of_type = refl; size = omega arith }, (record { of_type = refl; size = omega arith }, tt)))

abbrev pub state_of : Result State Cause → State
state_of (Ok s) = s
state_of (Err cause) = begun []

-- all that is held for a client is given to it
unfoldable pub gives_all : {w : World} {n : ℕ} (c : ℕ) → MayWrite (w.clients c).phase → At n w → At n (with_client w c (record (w.clients c) { for_client = []; out = (w.clients c).out ++ (w.clients c).for_client }))
unfolding then_do
gives_all {w} {n} c m h = then_do (byte_step (by_client c (to_client (w.clients c).for_client [] m (sym (append-nil (w.clients c).for_client))))) h

abbrev fresh_one : State
fresh_one = state_of (fresh the_catalogue key)

link_key : IsLawfulKey key
unfolding cut_after text_at startup_of pair_at ended_at list_until
link_key = (passed_keys_are_link_keys (λ _ _. row) (word 1) hello [] key (λ _ _. lawful_row) refl).client.lawful

is_fresh : fresh the_catalogue key ≡ Ok fresh_one
unfolding fresh started_over accepted_of date_styles
is_fresh = refl

greeting-are : AllByRecursion (IsFrame Server MAX_FRAME) (welcome fresh_one 2 2)
greeting-are = welcome_is_frames the_catalogue key fresh_one 2 2 (fresh_is_reached the_catalogue key fresh_one lawful link_key is_fresh)

pub story : QuietLeasesAreWhole → Story
unfolding then_do apply apply_return cut_after text_at int16_at int32_at value_at list_at query_of parse_of bind_of target_of execute_of startup_of pair_at ended_at list_until literal_length unquoted tokens_after read ends pass take_value either with_item items definitions columns_at at_most_64 take_columns take_operands block assignment set_name set reset show discard definition_list create drop_table value_list insert where_of end_of from_of select of_tokens less_semicolon phrase statement accepted_of date_styles started_over fresh step run_frames
story whole =
    let h0 = at_begin at_first limits (is_empty limits) in
    let h1 = then_do (client_step (of_client 1 (comes row (word 1) refl lawful_row))) h0 in
    let h2 = then_do (client_step (of_client 1 (sends (hello ++ spelling change) (bytes (hello ++ spelling change) refl)))) h1 in
    let a1 = then_do (book_step (arrives 1 1 [] Nothing _ refl refl (record { reply_is = refl; book_is = refl }))) h2 in
    let h3 = then_do (client_step (of_client 1 (reads [] hello (spelling change) (ok ∷ []) refl refl refl))) a1 in
    let h4 = then_do (client_step (of_client 1 (passes hello [] key refl refl))) h3 in
    let h5 = then_do (book_step (asks 1 1 key _ _ (record { phase = refl; number_is = refl }) (record { reply_is = refl; book_is = refl }))) h4 in
    let h6 = then_do (book_step (is_promised 1 1 1 0 key _ (record { phase = refl; number_is = refl }) (record { reply_is = refl; book_is = refl }))) h5 in
    let h7 = then_do (link_step (starts 1 1 key (server 1) _ refl refl (new_key h6))) h6 in
    let h8 = then_do (byte_step (by_client 1 (from_client 1 (spelling change) [] refl refl))) h7 in
    let h9 = then_do (byte_step (by_lease 1 1 refl (to_link (spelling change) [] refl))) h8 in
    let h10 = then_do (byte_step (server_answers_client 1 1 change [] refl (record { alive = refl; is_sent = change-sent; inbox = refl }))) h9 in
    let h11 = then_do (byte_step (by_lease 1 1 refl (from_link (flat_map spelling changed) [] refl))) h10 in
    let h12 = gives_all 1 served h11 in
    let h13 = then_do (end_step (of_end 1 closes)) h12 in
    let h14 = then_do (link_step (returns_used 1 1 _ refl closed (record {
      went = change ∷ [];
      came = changed;
      sent_are = record { each = (change-sent.whole, tt); bytes_are = refl };
      received_are = record { each = changed-are; bytes_are = refl };
      answered = inr (record { equal = refl; before = []; final = change; last = refl; closing = refl; idle = refl });
    }) (record { reply_is = refl; book_is = refl }))) h13 in
    let h15 = then_do (byte_step (by_link 1 (to_reset (spelling discard_all) [] refl refl))) h14 in
    let h16 = then_do (byte_step (server_answers 1 discard_all [] tt (record { alive = refl; is_sent = discard-sent; inbox = refl }))) h15 in
    let h17 = then_do (byte_step (by_link 1 (from_reset (flat_map spelling back) [] refl refl))) h16 in
    let h18 = then_do (link_step (ends_reset 1 refl (record {
      sent_is = refl;
      came = back;
      received_are = record { each = back-are; bytes_are = refl };
      answered = record { equal = refl; before = []; final = discard_all; last = refl; closing = refl; idle = refl };
    }))) h17 in
    let h19 = then_do (book_step (gives_back 1 0 _ refl (record { reply_is = refl; book_is = refl }))) h18 in
    let h20 = then_do (client_step (of_client 2 (comes row (word 2) refl lawful_row))) h19 in
    let h21 = then_do (client_step (of_client 2 (sends hello (bytes hello refl)))) h20 in
    let a2 = then_do (book_step (arrives 2 2 [] Nothing _ refl refl (record { reply_is = refl; book_is = refl }))) h21 in
    let h22 = then_do (client_step (of_client 2 (reads [] hello [] (ok ∷ []) refl refl refl))) a2 in
    let h23 = then_do (client_step (of_client 2 (passes hello [] key refl refl))) h22 in
    let h24 = then_do (book_step (asks 2 2 key _ _ (record { phase = refl; number_is = refl }) (record { reply_is = refl; book_is = refl }))) h23 in
    let h25 = then_do (book_step (is_lent 2 2 1 key _ _ (record { phase = refl; number_is = refl }) (record { reply_is = refl; book_is = refl }) refl)) h24 in
    let h26 = gives_all 2 served h25 in
    let h27 = then_do (byte_step (by_link 1 (server_dies [] [] refl))) h26 in
    let h28 = then_do (end_step (of_end 2 (refuses ServerFailed served (past_login (welcome fresh_one 2 2) greeting-are refl)))) h27 in
    let h29 = then_do (end_step (of_end 2 (refusal_to_client (refusal ServerFailed) [] (ap Refusing (sym (append-nil (refusal ServerFailed))))))) h28 in
    let h30 = then_do (link_step (disposes_lent 2 1 refl refusing)) h29 in
    record {
      world = _;
      reached = h26.reached;
      second = refl;
      one_link = refl;
      before = ok ++ flat_map spelling (welcome (state_of (fresh the_catalogue key)) 1 1);
      first_given = refl;
      second_given = whole _ h26.reached 2 1 refl (record { alive = refl; inbox = refl; outbox = refl; unread = refl; for_link = refl; for_client = refl });
      later = _;
      reached_later = h30.reached;
      second_refused = refl;
      link_gone = refl;
    }
