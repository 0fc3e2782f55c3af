-- Each line of a settings file keeps what was read within its bounds.
use Rattle.std.proofs.Common.{◌≡◌, ℕ, Bool, true, false, cond, List, [], ◌∷◌, ◌++◌, Option, Some, None, refl, sym, subst, fold}
use Rattle.std.specs.Prelude.{not, ◌&&◌, ◌||◌, ◌==◌, nat_le, length, option_map, option_and_then, unwrap_or, is_none, is_some, bytes_eq, codes}
use Rattle.std.specs.List.{AllByRecursion, list_any, list_all}
use Rattle.std.specs.Char.{is_ascii_digit}
use Rattle.std.proofs.lemmas.Bool.{false≢true, leb-true}
use Rattle.std.proofs.lemmas.Option.{none-some, same_Some}
use Rattle.neutral_keys.specs.ReadOver.{is_read_over_in_row}
use Rattle.ini_config.specs.Bounds.{IsWithin, IsCount, IsTime, IsSize, IsUser, IsServedRow, AreWithinBounds, ReadSettingsAreWithinBounds}
use Rattle.ini_config.specs.Hosts.{host_of}
use Rattle.ini_config.specs.Values.{within, number_between, digits_value, split_at_first, parts}
use Rattle.ini_config.specs.DatabaseValues.{RowValues, with_item, with_text, with_texts, nothing_said, values_in, is_console, is_database, is_user, row_with, row_of}
use Rattle.ini_config.specs.Lines.{Said, Nothing, Opens, OpensUnknown, Gives, Unreadable, said}
use Rattle.ini_config.specs.OptionValues.{Text, change_of, defaults, key_of}
use Rattle.ini_config.specs.Reading.{add_row, with_row, change, change_key, with_option, with_pair_in, with_said, with_line, empty_file}
use Rattle.ini_config.specs.declared.database_rows.DbRow.{DbRow}
use Rattle.ini_config.specs.declared.lines.Section.{Section}
use Rattle.ini_config.specs.declared.lines.Section.TheVariants.{Preamble, Databases, Pgbouncer, Users, Peers}
use Rattle.ini_config.specs.declared.option_keys.Key.{Key}
use Rattle.ini_config.specs.declared.option_keys.Key.TheVariants as key
use Rattle.ini_config.specs.declared.option_values.Settings.{Settings}
use Rattle.ini_config.specs.declared.reading.Reading.{Reading}
use Rattle.text_lines.specs.Files.{said_by}

-- ---- numbers

both : (a b : Bool) → (a && b) ≡ true → (a ≡ true) × (b ≡ true)
both true b e = (refl, e)
both false b e = absurd (false≢true e)

within-is : (low high n m : ℕ) → within low high n ≡ Some m → IsWithin low high m
within-is low high n m e = go (nat_le low n && nat_le n high) refl e
  where
    go : (b : Bool) → (nat_le low n && nat_le n high) ≡ b → cond b (Some n) None ≡ Some m → IsWithin low high m
    go true h k = let p = both (nat_le low n) (nat_le n high) h in subst (IsWithin low high) (same_Some _ _ k) (leb-true low n p.0, leb-true n high p.1)
    go false h k = absurd (none-some _ k)

number-within : (low high : ℕ) (text : List ℕ) (m : ℕ) → number_between low high text ≡ Some m → IsWithin low high m
unfolding number_between
number-within low high text m e = go (not (length text == 0) && list_all is_ascii_digit text) e
  where
    go : (b : Bool) → cond b (within low high (digits_value text)) None ≡ Some m → IsWithin low high m
    go true k = within-is low high (digits_value text) m k
    go false k = absurd (none-some _ k)

-- ---- rows of [databases]

record AreValues (r : RowValues) : Type 0 where
  port : (n : ℕ) → r.port ≡ Some n → IsWithin 1 65535 n
  size : (n : ℕ) → r.pool_size ≡ Some n → IsCount n
  user : IsUser r.user

abbrev OrNone : Option RowValues → Type 0
OrNone None = Unit {0}
OrNone (Some r) = AreValues r

none-said : AreValues nothing_said
none-said = record { port = λ n e. absurd (none-some _ e); size = λ n e. absurd (none-some _ e); user = tt }

item-values : (r : RowValues) (name value : List ℕ) → AreValues r → OrNone (with_item r name value)
item-values r name value h =
    either (bytes_eq name (codes "host") && is_none r.host) _ _ (host (host_of value))
    (either (bytes_eq name (codes "port") && is_none r.port) _ _ (port (number_between 1 65535 value) (number-within 1 65535 value))
    (either (bytes_eq name (codes "dbname") && is_none r.dbname) _ _ (record { port = h.port; size = h.size; user = h.user })
    (either (bytes_eq name (codes "pool_size") && is_none r.pool_size) _ _ (size (number_between 1 10000 value) (number-within 1 10000 value))
    (user (bytes_eq name (codes "user") && is_none r.user) (is_user value) _ refl
    (either ((bytes_eq name (codes "password") && is_none r.password) && not (length value == 0)) _ _ (record { port = h.port; size = h.size; user = h.user })
    (either (is_read_over_in_row name value) (Some r) None h tt))))))
  where
    either : (b : Bool) (x y : Option RowValues) → OrNone x → OrNone y → OrNone (cond b x y)
    either true x y p q = p
    either false x y p q = q

    host : (o : Option (List ℕ)) → OrNone (option_map (λ a. record r { host = Some a }) o)
    host None = tt
    host (Some a) = record { port = h.port; size = h.size; user = h.user }

    port : (o : Option ℕ) → ((m : ℕ) → o ≡ Some m → IsWithin 1 65535 m) → OrNone (option_map (λ n. record r { port = Some n }) o)
    port None k = tt
    port (Some p) k = record { port = λ n e. subst (IsWithin 1 65535) (same_Some _ _ e) (k p refl); size = h.size; user = h.user }

    size : (o : Option ℕ) → ((m : ℕ) → o ≡ Some m → IsCount m) → OrNone (option_map (λ n. record r { pool_size = Some n }) o)
    size None k = tt
    size (Some p) k = record { port = h.port; size = λ n e. subst IsCount (same_Some _ _ e) (k p refl); user = h.user }

    user : (b c : Bool) (x : Option RowValues) → is_user value ≡ c → OrNone x → OrNone (cond (b && c) (Some (record r { user = Some value })) x)
    user true true x e q = record { port = h.port; size = h.size; user = e }
    user true false x e q = q
    user false c x e q = q

text-values : (r : RowValues) (item : List ℕ) → AreValues r → OrNone (with_text r item)
text-values r item h = go (length item == 0) (split_at_first 61 item)
  where
    go : (b : Bool) (o : Option (List ℕ × List ℕ)) → OrNone (cond b (Some r) (option_and_then (λ p. with_item r p.0 p.1) o))
    go true o = h
    go false None = tt
    go false (Some p) = item-values r p.0 p.1 h

texts-values : (o : Option RowValues) (items : List (List ℕ)) → OrNone o → OrNone (with_texts o items)
texts-values o [] h = h
texts-values None (item ∷ items) h = texts-values None items tt
texts-values (Some r) (item ∷ items) h = texts-values (with_text r item) items (text-values r item h)

values-values : (value : List ℕ) → OrNone (values_in value)
unfolding values_in
values-values value = texts-values (Some nothing_said) (parts 32 value) none-said

size-is : (o : Option ℕ) → ((n : ℕ) → o ≡ Some n → IsCount n) → IsSize o
size-is None h = tt
size-is (Some n) h = h n refl

port-is : (o : Option ℕ) → ((n : ℕ) → o ≡ Some n → IsWithin 1 65535 n) → IsWithin 1 65535 (unwrap_or o 5432)
port-is None h = (leb-true 1 5432 refl, leb-true 5432 65535 refl)
port-is (Some n) h = h n refl

abbrev RowOrNone : Option DbRow → Type 0
RowOrNone None = Unit {0}
RowOrNone (Some row) = IsServedRow row

row-with : (name : List ℕ) (r : RowValues) (host : List ℕ) → AreValues r → RowOrNone (row_with name r host)
row-with name r host h = go (is_database (unwrap_or r.dbname name) && (is_none r.password || is_some r.user)) refl
  where
    go : (b : Bool) → (is_database (unwrap_or r.dbname name) && (is_none r.password || is_some r.user)) ≡ b → RowOrNone (cond b (Some (record { name = name; host = host; port = unwrap_or r.port 5432; dbname = unwrap_or r.dbname name; pool_size = r.pool_size; user = r.user; password = r.password })) None)
    go true e = record { database = (both (is_database (unwrap_or r.dbname name)) (is_none r.password || is_some r.user) e).0; port = port-is r.port h.port; size = size-is r.pool_size h.size; user = h.user }
    go false e = tt

row-served : (name value : List ℕ) → RowOrNone (row_of name value)
unfolding row_of
row-served name value = go (is_console name || list_any (λ b. b == 39) value) (values_in value) (values-values value)
  where
    hosted : (r : RowValues) (o : Option (List ℕ)) → AreValues r → RowOrNone (option_and_then (row_with name r) o)
    hosted r None h = tt
    hosted r (Some host) h = row-with name r host h

    go : (b : Bool) (o : Option RowValues) → OrNone o → RowOrNone (cond b None (option_and_then (λ r. option_and_then (row_with name r) r.host) o))
    go true o h = tt
    go false None h = tt
    go false (Some r) h = hosted r r.host h

-- ---- keys of [pgbouncer]

made : (s : Settings) → AllByRecursion IsServedRow s.rows → IsWithin 1 65535 s.listen_port → IsCount s.max_client_conn → IsCount s.default_pool_size → IsCount s.max_links → IsTime s.query_wait_timeout → IsTime s.server_lifetime → IsTime s.server_idle_timeout → IsWithin 1024 2147483647 s.max_packet_size → AreWithinBounds s
made s a b c d e f g i j = record { rows = a; listen_port = b; max_client_conn = c; default_pool_size = d; max_links = e; query_wait_timeout = f; server_lifetime = g; server_idle_timeout = i; max_packet_size = j }

rows-on : (s : Settings) (row : DbRow) → AreWithinBounds s → IsServedRow row → AreWithinBounds (record s { rows = s.rows ++ row ∷ [] })
rows-on s row h k = made _ (go s.rows h.rows) h.listen_port h.max_client_conn h.default_pool_size h.max_links h.query_wait_timeout h.server_lifetime h.server_idle_timeout h.max_packet_size
  where
    go : (rows : List DbRow) → AllByRecursion IsServedRow rows → AllByRecursion IsServedRow (rows ++ row ∷ [])
    go [] all = (k, tt)
    go (r ∷ rs) all = (all.0, go rs all.1)

abbrev ChangeKeeps : Settings → Option (Settings → Settings) → Type 0
ChangeKeeps s None = Unit {0}
ChangeKeeps s (Some f) = AreWithinBounds (f s)

mapped : {A : Type 0} (s : Settings) (o : Option A) (f : A → Settings → Settings) → ((a : A) → o ≡ Some a → AreWithinBounds (f a s)) → ChangeKeeps s (option_map f o)
mapped s None f h = tt
mapped s (Some a) f h = h a refl

change-keeps : (k : Key) (text : Text) (s : Settings) → AreWithinBounds s → ChangeKeeps s (change_of k text)
unfolding change_of
change-keeps key.ListenAddr text s h = mapped s _ _ (λ a e. made _ h.rows h.listen_port h.max_client_conn h.default_pool_size h.max_links h.query_wait_timeout h.server_lifetime h.server_idle_timeout h.max_packet_size)
change-keeps key.ListenPort text s h = mapped s _ _ (λ a e. made _ h.rows (number-within 1 65535 text a e) h.max_client_conn h.default_pool_size h.max_links h.query_wait_timeout h.server_lifetime h.server_idle_timeout h.max_packet_size)
change-keeps key.AuthType text s h = mapped s _ _ (λ a e. made _ h.rows h.listen_port h.max_client_conn h.default_pool_size h.max_links h.query_wait_timeout h.server_lifetime h.server_idle_timeout h.max_packet_size)
change-keeps key.AdminUsers text s h = made _ h.rows h.listen_port h.max_client_conn h.default_pool_size h.max_links h.query_wait_timeout h.server_lifetime h.server_idle_timeout h.max_packet_size
change-keeps key.PoolMode text s h = h
change-keeps key.ServerResetQuery text s h = h
change-keeps key.MaxClientConn text s h = mapped s _ _ (λ a e. made _ h.rows h.listen_port (number-within 1 10000 text a e) h.default_pool_size h.max_links h.query_wait_timeout h.server_lifetime h.server_idle_timeout h.max_packet_size)
change-keeps key.DefaultPoolSize text s h = mapped s _ _ (λ a e. made _ h.rows h.listen_port h.max_client_conn (number-within 1 10000 text a e) h.max_links h.query_wait_timeout h.server_lifetime h.server_idle_timeout h.max_packet_size)
change-keeps key.MaxLinks text s h = mapped s _ _ (λ a e. made _ h.rows h.listen_port h.max_client_conn h.default_pool_size (number-within 1 10000 text a e) h.query_wait_timeout h.server_lifetime h.server_idle_timeout h.max_packet_size)
change-keeps key.QueryWaitTimeout text s h = mapped s _ _ (λ a e. made _ h.rows h.listen_port h.max_client_conn h.default_pool_size h.max_links (number-within 0 2147483647 text a e) h.server_lifetime h.server_idle_timeout h.max_packet_size)
change-keeps key.ServerLifetime text s h = mapped s _ _ (λ a e. made _ h.rows h.listen_port h.max_client_conn h.default_pool_size h.max_links h.query_wait_timeout (number-within 0 2147483647 text a e) h.server_idle_timeout h.max_packet_size)
change-keeps key.ServerIdleTimeout text s h = mapped s _ _ (λ a e. made _ h.rows h.listen_port h.max_client_conn h.default_pool_size h.max_links h.query_wait_timeout h.server_lifetime (number-within 0 2147483647 text a e) h.max_packet_size)
change-keeps key.MaxPacketSize text s h = mapped s _ _ (λ a e. made _ h.rows h.listen_port h.max_client_conn h.default_pool_size h.max_links h.query_wait_timeout h.server_lifetime h.server_idle_timeout (number-within 1024 2147483647 text a e))
change-keeps key.IgnoreStartupParameters text s h = made _ h.rows h.listen_port h.max_client_conn h.default_pool_size h.max_links h.query_wait_timeout h.server_lifetime h.server_idle_timeout h.max_packet_size
change-keeps key.TrackExtraParameters text s h = made _ h.rows h.listen_port h.max_client_conn h.default_pool_size h.max_links h.query_wait_timeout h.server_lifetime h.server_idle_timeout h.max_packet_size
change-keeps key.LogConnections text s h = made _ h.rows h.listen_port h.max_client_conn h.default_pool_size h.max_links h.query_wait_timeout h.server_lifetime h.server_idle_timeout h.max_packet_size
change-keeps key.LogDisconnections text s h = made _ h.rows h.listen_port h.max_client_conn h.default_pool_size h.max_links h.query_wait_timeout h.server_lifetime h.server_idle_timeout h.max_packet_size
change-keeps key.UntrackParameters text s h = mapped s _ _ (λ n e. made _ h.rows h.listen_port h.max_client_conn h.default_pool_size h.max_links h.query_wait_timeout h.server_lifetime h.server_idle_timeout h.max_packet_size)
change-keeps key.UnixSocketDir text s h = made _ h.rows h.listen_port h.max_client_conn h.default_pool_size h.max_links h.query_wait_timeout h.server_lifetime h.server_idle_timeout h.max_packet_size
change-keeps key.UnixSocketMode text s h = mapped s _ _ (λ a e. made _ h.rows h.listen_port h.max_client_conn h.default_pool_size h.max_links h.query_wait_timeout h.server_lifetime h.server_idle_timeout h.max_packet_size)
change-keeps key.UnixSocketGroup text s h = made _ h.rows h.listen_port h.max_client_conn h.default_pool_size h.max_links h.query_wait_timeout h.server_lifetime h.server_idle_timeout h.max_packet_size
change-keeps key.PeerId text s h = mapped s _ _ (λ n e. made _ h.rows h.listen_port h.max_client_conn h.default_pool_size h.max_links h.query_wait_timeout h.server_lifetime h.server_idle_timeout h.max_packet_size)
change-keeps key.TcpKeepalive text s h = made _ h.rows h.listen_port h.max_client_conn h.default_pool_size h.max_links h.query_wait_timeout h.server_lifetime h.server_idle_timeout h.max_packet_size
change-keeps key.TcpKeepidle text s h = mapped s _ _ (λ n e. made _ h.rows h.listen_port h.max_client_conn h.default_pool_size h.max_links h.query_wait_timeout h.server_lifetime h.server_idle_timeout h.max_packet_size)
change-keeps key.TcpKeepintvl text s h = mapped s _ _ (λ n e. made _ h.rows h.listen_port h.max_client_conn h.default_pool_size h.max_links h.query_wait_timeout h.server_lifetime h.server_idle_timeout h.max_packet_size)
change-keeps key.TcpKeepcnt text s h = mapped s _ _ (λ n e. made _ h.rows h.listen_port h.max_client_conn h.default_pool_size h.max_links h.query_wait_timeout h.server_lifetime h.server_idle_timeout h.max_packet_size)
change-keeps key.TcpUserTimeout text s h = mapped s _ _ (λ n e. made _ h.rows h.listen_port h.max_client_conn h.default_pool_size h.max_links h.query_wait_timeout h.server_lifetime h.server_idle_timeout h.max_packet_size)
change-keeps key.ServerConnectTimeout text s h = mapped s _ _ (λ n e. made _ h.rows h.listen_port h.max_client_conn h.default_pool_size h.max_links h.query_wait_timeout h.server_lifetime h.server_idle_timeout h.max_packet_size)
change-keeps key.ClientLoginTimeout text s h = mapped s _ _ (λ n e. made _ h.rows h.listen_port h.max_client_conn h.default_pool_size h.max_links h.query_wait_timeout h.server_lifetime h.server_idle_timeout h.max_packet_size)
change-keeps key.StatsUsers text s h = made _ h.rows h.listen_port h.max_client_conn h.default_pool_size h.max_links h.query_wait_timeout h.server_lifetime h.server_idle_timeout h.max_packet_size
change-keeps key.StatsPeriod text s h = mapped s _ _ (λ n e. made _ h.rows h.listen_port h.max_client_conn h.default_pool_size h.max_links h.query_wait_timeout h.server_lifetime h.server_idle_timeout h.max_packet_size)
change-keeps key.LogStats text s h = made _ h.rows h.listen_port h.max_client_conn h.default_pool_size h.max_links h.query_wait_timeout h.server_lifetime h.server_idle_timeout h.max_packet_size
change-keeps key.ConsoleStyle text s h = mapped s _ _ (λ n e. made _ h.rows h.listen_port h.max_client_conn h.default_pool_size h.max_links h.query_wait_timeout h.server_lifetime h.server_idle_timeout h.max_packet_size)
change-keeps key.MetricsAddr text s h = mapped s _ _ (λ n e. made _ h.rows h.listen_port h.max_client_conn h.default_pool_size h.max_links h.query_wait_timeout h.server_lifetime h.server_idle_timeout h.max_packet_size)
change-keeps key.MetricsPort text s h = mapped s _ _ (λ n e. made _ h.rows h.listen_port h.max_client_conn h.default_pool_size h.max_links h.query_wait_timeout h.server_lifetime h.server_idle_timeout h.max_packet_size)
change-keeps key.Unused text s h = h

-- ---- lines

change-kept : (s : Settings) (o : Option (Settings → Settings)) → AreWithinBounds s → ChangeKeeps s o → AreWithinBounds (change s o)
change-kept s None h k = h
change-kept s (Some f) h k = k

key-kept : (s : Settings) (o : Option Key) (value : Text) → AreWithinBounds s → AreWithinBounds (change_key s o value)
key-kept s None value h = h
key-kept s (Some k) value h = change-kept s (change_of k value) h (change-keeps k value s h)

row-kept : (r : Reading) (o : Option DbRow) → AreWithinBounds r.settings → RowOrNone o → AreWithinBounds (add_row r o).settings
row-kept r None h k = h
row-kept r (Some row) h k = rows-on r.settings row h k

pair-kept : (section : Section) (r : Reading) (name value : Text) → AreWithinBounds r.settings → AreWithinBounds (with_pair_in section r name value).settings
unfolding with_row with_option
pair-kept Databases r name value h = row-kept r (row_of name value) h (row-served name value)
pair-kept Pgbouncer r name value h = key-kept r.settings (key_of name value) value h
pair-kept Preamble r name value h = h
pair-kept Users r name value h = h
pair-kept Peers r name value h = h

said-kept : (r : Reading) (s : Said) → AreWithinBounds r.settings → AreWithinBounds (with_said r s).settings
said-kept r Nothing h = h
said-kept r (Opens section) h = h
said-kept r OpensUnknown h = h
said-kept r (Gives name value) h = pair-kept r.section r name value h
said-kept r Unreadable h = h

lines-kept : (r : Reading) (lines : List Text) → AreWithinBounds r.settings → AreWithinBounds (fold with_line r lines).settings
lines-kept r [] h = h
lines-kept r (line ∷ lines) h = lines-kept (with_line r line) lines (said-kept r (said line) h)

between : (low n high : ℕ) → nat_le low n ≡ true → nat_le n high ≡ true → IsWithin low high n
between low n high h k = (leb-true low n h, leb-true n high k)

defaults-within : AreWithinBounds defaults
defaults-within = made defaults tt (between 1 6432 65535 refl refl) (between 1 100 10000 refl refl) (between 1 20 10000 refl refl) (between 1 1000 10000 refl refl) (between 0 120 2147483647 refl refl) (between 0 3600 2147483647 refl refl) (between 0 600 2147483647 refl refl) (between 1024 2147483647 2147483647 refl refl)

pub read_settings_are_within_bounds : ReadSettingsAreWithinBounds
unfolding said_by
read_settings_are_within_bounds lines s e = subst AreWithinBounds (sym e.1) (lines-kept empty_file lines defaults-within)
