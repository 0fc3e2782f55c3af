-- Why a line of a settings file is faulty, in words.
use Rattle.std.specs.Prelude.{Bool, true, not, [], ◌++◌, ◌==◌, ◌&&◌, ◌||◌, if◌then◌else◌, nat_eq, length, Option, Some, None, is_some, bytes_eq, codes}
use Rattle.std.specs.List.{find, list_any, starts_with}
use Rattle.log_lines.specs.Shown.{Text, shown_text}
use Rattle.neutral_keys.specs.ReadOver.{is_read_over}
use Rattle.ini_config.specs.DatabaseValues.{is_console, nothing_said, with_item}
use Rattle.ini_config.specs.Lines.{Said, OpensUnknown, Gives, said}
use Rattle.ini_config.specs.Values.{parts, split_at_first}
use Rattle.ini_config.specs.declared.faults.IniCause.{IniCause}
use Rattle.ini_config.specs.declared.faults.IniCause.TheVariants as cause
use Rattle.ini_config.specs.declared.lines.Section.{Section}
use Rattle.ini_config.specs.declared.lines.Section.TheVariants.{Databases}

-- ---- keys of [pgbouncer]

-- a key that isn't served: at which value it is read over, if at any
abbrev pub unknown_key : Text → Text
unknown_key name =
    if is_read_over name (codes "0") then codes "asks for what is not done; 0 is read over" else (
    if is_read_over name (codes "disable") then codes "asks for TLS, which is not done; disable is read over" else (
    if is_read_over name (codes "") then codes "asks for what is not done; no value is read over" else (
    if starts_with nat_eq name (codes "server_tls_") then codes "there is no TLS to servers" else
    codes "no key of pgsess, nor of PgBouncer 1.24")))

abbrev pub is_one_of : Text → Text → Text → Bool
is_one_of name one two = bytes_eq name one || bytes_eq name two

-- what the value of a key may be: for most keys a number
unfoldable pub numbers_of : Text → Text
numbers_of name =
    if is_one_of name (codes "listen_port") (codes "metrics_port") then codes "takes a number from 1 to 65535" else (
    if is_one_of name (codes "max_client_conn") (codes "default_pool_size") then codes "takes a number from 1 to 10000" else (
    if bytes_eq name (codes "max_links") then codes "takes a number from 1 to 10000" else (
    if bytes_eq name (codes "max_packet_size") then codes "takes a number from 1024 to 2147483647" else (
    if bytes_eq name (codes "stats_period") then codes "takes a number from 1 to 2147483647" else (
    if bytes_eq name (codes "peer_id") then codes "takes a number from 0 to 127" else
    codes "takes a number from 0 to 2147483647")))))

unfoldable pub choices_of : Text → Text
choices_of name =
    if bytes_eq name (codes "auth_type") then codes "takes trust, plain, md5, scram-sha-256" else (
    if bytes_eq name (codes "console_style") then codes "takes pgsess, pgbouncer" else (
    if bytes_eq name (codes "unix_socket_mode") then codes "takes three octal digits" else
    numbers_of name))

unfoldable pub values_of : Text → Text
values_of name =
    if is_one_of name (codes "listen_addr") (codes "metrics_addr") then codes "takes addresses and names, parted by commas" else (
    if bytes_eq name (codes "untrack_parameters") then codes "takes names of parameters that are followed by default" else
    choices_of name)

-- ---- rows of [databases]

abbrev pub is_bad_pair : Option (Text × Text) → Bool
is_bad_pair None = true
is_bad_pair (Some p) = not (is_some (with_item nothing_said p.0 p.1))

-- an item that no row may have
abbrev pub is_bad_item : Text → Bool
is_bad_item item = not (length item == 0) && is_bad_pair (split_at_first 61 item)

abbrev pub bad_item_in : Text → Option Text
bad_item_in value = find is_bad_item (parts 32 value)

-- its key alone is told
abbrev pub bad_pair : Option (Text × Text) → Text
bad_pair None = codes "an item of a row is key=value"
bad_pair (Some p) = shown_text p.0 ++ codes " is not served in a row, or not at this value"

abbrev pub has_host : Text → Bool
has_host value = list_any (λ item. starts_with nat_eq item (codes "host=")) (parts 32 value)

abbrev pub bad_items : Text → Option Text → Text
bad_items value (Some item) = bad_pair (split_at_first 61 item)
bad_items value None =
    if has_host value then codes "a key for the second time, no name of a database, or a password without a user"
    else codes "no host; with PgBouncer it is the folder of its Unix sockets: write it, as host=/var/run/postgresql"

abbrev pub bad_row : Text → Text → Text
bad_row name value =
    if is_console name then codes "the console has this name" else (
    if list_any (λ b. b == 39) value then codes "no quotes are read in a row" else
    bad_items value (bad_item_in value))

-- ---- all causes

abbrev pub no_line : Text → Text
no_line text =
    if starts_with nat_eq text (codes "%include") then codes "no file is included: its lines belong here"
    else codes "neither a header nor a key and its value below one"

abbrev pub unknown_section : Said → Text
unknown_section OpensUnknown = codes "no section of this name"
unknown_section other = codes "lines in [users] and [peers] are not served"

abbrev pub unknown_name : Said → Text
unknown_name (Gives name value) = unknown_key name
unknown_name other = []

abbrev pub bad_value : Section → Said → Text
bad_value Databases (Gives name value) = bad_row name value
bad_value section (Gives name value) = values_of name
bad_value section other = []

abbrev pub words : IniCause → Section → Text → Text
words cause.UnknownSection section text = unknown_section (said text)
words cause.UnknownKey section text = unknown_name (said text)
words cause.BadValue section text = bad_value section (said text)
words cause.KeyTwice section text = codes "given above already"
words cause.PoolMode section text = codes "takes session alone"
words cause.ResetQuery section text = codes "takes DISCARD ALL alone"
words cause.NotALine section text = no_line text
words cause.Memory section text = []
