-- The login under settings and users is that of one row.
use Rattle.std.proofs.Common.{◌≡◌, ℕ, zero, suc, List, [], ◌∷◌, refl, sym, ap, ◌∙◌, subst, Bool, true, false, Option, Some, None, Result, Ok, Err}
use Rattle.std.specs.Prelude.{◌==◌, codes, if◌then◌else◌}
use Rattle.frame_view.specs.Frames.{Start, Cancels, AsksTls, AsksGss, FirstFront, AFirst, LacksFirst, FaultyFirst, first_front}
use Rattle.frame_view.specs.declared.client.TheConstants.{PASSWORD_MESSAGE, TERMINATE}
use Rattle.ini_config.specs.declared.option_values.AuthType.{AuthType}
use Rattle.ini_config.specs.declared.option_values.AuthType.TheVariants.{Trust, Plain, Md5, ScramSha256}
use Rattle.ini_config.specs.declared.database_rows.DbRow.{DbRow}
use Rattle.message_view.specs.declared.KeyWord.{KeyWord}
use Rattle.message_view.specs.declared.ViewError.{ViewError}
use Rattle.message_view.specs.declared.refusal.Refusal.{Refusal}
use Rattle.message_view.specs.Reading.{startup_of}
use Rattle.session_values.specs.State.{StartKeyOf}
use Rattle.param_track.specs.declared.StartKeyError.{StartKeyError}
use Rattle.param_track.specs.StartKeys.{Text, Pair, Names, database_in, user_in, key_at, unless, refusal, parameters_in}
use Rattle.login_core.specs.Talk.{Cut, says, talk, follow, on_cut}
use Rattle.login_core.specs.Talk.Cut.{Whole, Need, Bad}
use Rattle.login_core.specs.Talk.Reaction.{Goes, Passes, Stops}
use Rattle.login_core.specs.Dialogue.{Rows, LoginRow, Reacts, Dialogue, Packet, First, Message, Reason, Stage, AtFirst, Asked, Asking, ForPassword, ForFirst, of_first, packet, react, key_of, or_refusal, asked, asks, begins, judged, has_verifier, offers_scram, not_twice, to_message, asks_cleartext, asks_md5, asks_scram}
use Rattle.login_core.specs.Laws.{names_of_pairs, names_in_front, names_within, row_for, LoginIsOfItsRow}
use Rattle.login_core.proofs.Endings.{Ends, GoesBy, judged_ends, message_goes}

-- ---- the key's names are those that were asked for

result_key : StartKeyOf → Result StartKeyOf Refusal → StartKeyOf
result_key other (Ok key) = key
result_key other (Err r) = other

named_at : (row : Option DbRow) (database user : Text) (ps : List Pair) → ((key_at row database user ps).row ≡ database) × ((key_at row database user ps).user ≡ user)
named_at (Some row) database user ps = (refl, refl)
named_at None database user ps = (refl, refl)

key_names : (row : Option DbRow) (names : Names) (pairs : List Pair) (f : Option StartKeyError) (key : StartKeyOf) → or_refusal (unless f (key_at row (database_in pairs) (user_in pairs) (parameters_in names pairs))) ≡ Ok key →
    (key.row ≡ database_in pairs) × (key.user ≡ user_in pairs)
unfolding result_key
key_names row names pairs (Some fault) key e = absurd cc
key_names row names pairs None key e =
    let n = named_at row (database_in pairs) (user_in pairs) (parameters_in names pairs) in
    let k = ap (result_key key) e in
    (ap (λ (x : StartKeyOf). x.row) (sym k) ∙ n.0, ap (λ (x : StartKeyOf). x.user) (sym k) ∙ n.1)

module _ (rows : Rows) (word : KeyWord) where
  abbrev one : LoginRow → Rows
  one r database user = r

  abbrev from : Rows → ℕ → List ℕ → Reacts → Dialogue
  from rs n more reaction = follow more (λ s. talk packet (react rs word) n s more) reaction

  ends_alike : (a b : Rows) (n : ℕ) (more : List ℕ) (r : Reacts) → Ends r → from a n more r ≡ from b n more r
  ends_alike a b n more (Goes pieces t) h = absurd h
  ends_alike a b n more (Passes pieces key) h = refl
  ends_alike a b n more (Stops pieces reason) h = refl

  module _ (row : LoginRow) (key : StartKeyOf) (same : rows key.row key.user ≡ row) where
    abbrev both : ℕ → List ℕ → Stage → Type 0
    both n rest s = talk packet (react rows word) n s rest ≡ talk packet (react (one row) word) n s rest

    -- a reaction that goes on, if at all, by a stage from which the talks are alike
    reaction_alike : (n : ℕ) (rest : List ℕ) (r : Reacts) → ((a : Asking) → both n rest (Asked a key)) → GoesBy key r → from rows n rest r ≡ from (one row) n rest r
    reaction_alike n rest (Goes pieces (AtFirst tls gss)) ih h = absurd h
    reaction_alike n rest (Goes pieces (Asked a k)) ih h = ap (says pieces) (subst (λ (x : StartKeyOf). both n rest (Asked a x)) (sym h) (ih a))
    reaction_alike n rest (Passes pieces way) ih h = refl
    reaction_alike n rest (Stops pieces reason) ih h = refl

    asked_alike : (n : ℕ) (more : List ℕ) (a : Asking) → both n more (Asked a key)
    asked_alike zero more a = refl
    asked_alike (suc n) more a = go (packet (Asked a key) more) (λ rest b. asked_alike n rest b)
      where
        go : (c : Cut Packet Reason) → ((rest : List ℕ) (b : Asking) → both n rest (Asked b key)) → on_cut (react rows word (Asked a key)) (talk packet (react rows word) n) c ≡ on_cut (react (one row) word (Asked a key)) (talk packet (react (one row) word) n) c
        go (Whole (Message kind body) rest) ih =
            ap (λ (r : LoginRow). from rows n rest (to_message r word key a kind body)) same
            ∙ reaction_alike n rest (to_message row word key a kind body) (ih rest) (message_goes word row key a (kind == PASSWORD_MESSAGE) (kind == TERMINATE) body)
        go (Whole (First p) rest) ih = refl
        go (Need m) ih = refl
        go (Bad r) ih = refl

    md5_alike : (n : ℕ) (more : List ℕ) (b : Bool) → from rows n more (if b then offers_scram key else Goes (asks_md5 word.salt ∷ []) (Asked ForPassword key))
        ≡ from (one row) n more (if b then offers_scram key else Goes (asks_md5 word.salt ∷ []) (Asked ForPassword key))
    md5_alike n more true = ap (says (asks_scram ∷ [])) (asked_alike n more ForFirst)
    md5_alike n more false = ap (says (asks_md5 word.salt ∷ [])) (asked_alike n more ForPassword)

    asks_alike : (n : ℕ) (more : List ℕ) (auth : AuthType) → from rows n more (asks auth row word key) ≡ from (one row) n more (asks auth row word key)
    asks_alike n more Trust = ends_alike rows (one row) n more (judged row word key []) (judged_ends word row key [])
    asks_alike n more Plain = ap (says (asks_cleartext ∷ [])) (asked_alike n more ForPassword)
    asks_alike n more Md5 = md5_alike n more (has_verifier row.user)
    asks_alike n more ScramSha256 = ap (says (asks_scram ∷ [])) (asked_alike n more ForFirst)

    key_alike : (n : ℕ) (more : List ℕ) → from rows n more (asked rows word key) ≡ from (one row) n more (asked (one row) word key)
    key_alike n more = ap (λ (r : LoginRow). from rows n more (asks r.auth r word key)) same ∙ asks_alike n more row.auth

  begins_alike : (n : ℕ) (more : List ℕ) (pairs : List Pair) (k : Result StartKeyOf Refusal) → key_of rows (Ok pairs) ≡ k →
      from rows n more (begins rows word k) ≡ from (one (rows (database_in pairs) (user_in pairs))) n more (begins (one (rows (database_in pairs) (user_in pairs))) word k)
  begins_alike n more pairs (Err r) e = refl
  begins_alike n more pairs (Ok key) e =
      let row = rows (database_in pairs) (user_in pairs) in
      let names = key_names row.database row.names pairs (refusal row.names pairs) key e in
      key_alike row key (ap (λ (d : Text). rows d key.user) names.0 ∙ ap (rows (database_in pairs)) names.1) n more

  start_alike : (n : ℕ) (more : List ℕ) (read : Result (List Pair) ViewError) →
      from rows n more (begins rows word (key_of rows read)) ≡ from (one (row_for rows (names_of_pairs read))) n more (begins (one (row_for rows (names_of_pairs read))) word (key_of (one (row_for rows (names_of_pairs read))) read))
  start_alike n more (Err fault) = refl
  start_alike n more (Ok pairs) = begins_alike n more pairs (key_of rows (Ok pairs)) refl

  twice_alike : (a b : Rows) (n : ℕ) (rest : List ℕ) (twice : Bool) (next : Stage) → talk packet (react a word) n next rest ≡ talk packet (react b word) n next rest →
      from a n rest (not_twice twice next) ≡ from b n rest (not_twice twice next)
  twice_alike a b n rest true next e = refl
  twice_alike a b n rest false next e = ap (says (codes "N" ∷ [])) e

  pub of_its_row : (n : ℕ) (tls gss : Bool) (bytes : List ℕ) →
      talk packet (react rows word) n (AtFirst tls gss) bytes ≡ talk packet (react (one (row_for rows (names_within n bytes))) word) n (AtFirst tls gss) bytes
  of_its_row zero tls gss bytes = refl
  of_its_row (suc n) tls gss bytes = go (first_front bytes) (λ t g rest. of_its_row n t g rest)
    where
      go : (f : FirstFront) → ((t g : Bool) (rest : List ℕ) → talk packet (react rows word) n (AtFirst t g) rest ≡ talk packet (react (one (row_for rows (names_within n rest))) word) n (AtFirst t g) rest) →
          on_cut (react rows word (AtFirst tls gss)) (talk packet (react rows word) n) (of_first f)
          ≡ on_cut (react (one (row_for rows (names_in_front (names_within n) f))) word (AtFirst tls gss)) (talk packet (react (one (row_for rows (names_in_front (names_within n) f))) word) n) (of_first f)
      go (AFirst (Start text) rest) ih = start_alike n rest (startup_of text)
      go (AFirst (Cancels pid secret) rest) ih = refl
      go (AFirst AsksTls rest) ih = twice_alike rows (one (row_for rows (names_within n rest))) n rest tls (AtFirst true gss) (ih true gss rest)
      go (AFirst AsksGss rest) ih = twice_alike rows (one (row_for rows (names_within n rest))) n rest gss (AtFirst tls true) (ih tls true rest)
      go (LacksFirst m) ih = refl
      go (FaultyFirst fault) ih = refl

pub its_row : LoginIsOfItsRow
its_row rows word bytes = of_its_row rows word 5 false false bytes
