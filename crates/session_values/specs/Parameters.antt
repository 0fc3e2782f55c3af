-- The run-time parameters of the stand-in server (PostgreSQL manual, "Server Configuration"; which
-- values are accepted, and how they are kept, is this project's own profile).
use Rattle.std.specs.Prelude.{ℕ, ◌+◌, ◌-◌, ◌*◌, List, [], ◌∷◌, ◌++◌, length, filter, find, option_map, Option, Some, None, Bool, true, false, nat_le, ◌==◌, ◌&&◌, ◌||◌, if◌then◌else◌, codes, slice_index_or, slice_set}
use Rattle.std.specs.List.{list_all}
use Rattle.mini_sql.specs.Words.{Text, folded, same_text, same_word, is_digit, is_letter}
use Rattle.session_values.specs.declared.parameter.Parameter.{Parameter}
use Rattle.session_values.specs.declared.parameter.Parameter.TheVariants.{ApplicationName, ClientEncoding, DateStyle, IntegerDatetimes, IntervalStyle, ServerEncoding, ServerVersion, StandardConformingStrings, TimeZone, ExtraFloatDigits, SearchPath, StatementTimeout}

-- Values stand in this order, and reports come in it.
abbrev pub reported_parameters : List Parameter
reported_parameters = ApplicationName ∷ ClientEncoding ∷ DateStyle ∷ IntegerDatetimes ∷ IntervalStyle ∷ ServerEncoding ∷ ServerVersion ∷ StandardConformingStrings ∷ TimeZone ∷ []

abbrev pub unreported_parameters : List Parameter
unreported_parameters = ExtraFloatDigits ∷ SearchPath ∷ StatementTimeout ∷ []

abbrev pub parameters : List Parameter
parameters = reported_parameters ++ unreported_parameters

abbrev pub name : Parameter → Text
name ApplicationName = codes "application_name"
name ClientEncoding = codes "client_encoding"
name DateStyle = codes "DateStyle"
name IntegerDatetimes = codes "integer_datetimes"
name IntervalStyle = codes "IntervalStyle"
name ServerEncoding = codes "server_encoding"
name ServerVersion = codes "server_version"
name StandardConformingStrings = codes "standard_conforming_strings"
name TimeZone = codes "TimeZone"
name ExtraFloatDigits = codes "extra_float_digits"
name SearchPath = codes "search_path"
name StatementTimeout = codes "statement_timeout"

-- the parameter of a name, without regard to ASCII case
abbrev pub is_called : Text → Parameter → Bool
is_called n p = same_word n (name p)

abbrev pub parameter_named : Text → Option Parameter
parameter_named n = find (is_called n) parameters

-- the default value, where the catalogue gives the version
abbrev pub default : Text → Parameter → Text
default version ApplicationName = []
default version ClientEncoding = codes "UTF8"
default version DateStyle = codes "ISO, MDY"
default version IntegerDatetimes = codes "on"
default version IntervalStyle = codes "postgres"
default version ServerEncoding = codes "UTF8"
default version ServerVersion = version
default version StandardConformingStrings = codes "on"
default version TimeZone = codes "UTC"
default version ExtraFloatDigits = codes "1"
default version SearchPath = codes "public"
default version StatementTimeout = codes "0"

abbrev pub is_fixed : Parameter → Bool
is_fixed IntegerDatetimes = true
is_fixed ServerEncoding = true
is_fixed ServerVersion = true
is_fixed _ = false

-- ---- the values of all parameters, in their order

abbrev pub Values : Type 0
Values = List Text

abbrev pub defaults : Text → Values
defaults version = default version ApplicationName ∷ default version ClientEncoding ∷ default version DateStyle ∷ default version IntegerDatetimes ∷ default version IntervalStyle ∷ default version ServerEncoding ∷ default version ServerVersion ∷ default version StandardConformingStrings ∷ default version TimeZone ∷ default version ExtraFloatDigits ∷ default version SearchPath ∷ default version StatementTimeout ∷ []

abbrev pub place : Parameter → ℕ
place ApplicationName = 0
place ClientEncoding = 1
place DateStyle = 2
place IntegerDatetimes = 3
place IntervalStyle = 4
place ServerEncoding = 5
place ServerVersion = 6
place StandardConformingStrings = 7
place TimeZone = 8
place ExtraFloatDigits = 9
place SearchPath = 10
place StatementTimeout = 11

abbrev pub value_of : Values → Parameter → Text
value_of vs p = slice_index_or vs (place p) []

abbrev pub with_value : Values → Parameter → Text → Values
with_value vs p t = slice_set vs (place p) t

-- ---- the value that is kept for a text, or none where it isn't accepted

-- a word, and the value that is kept for it
abbrev pub is_word : Text → Text × Text → Bool
is_word t w = same_text w.0 t

-- the value that is kept for the first of these words that is the text
abbrev pub kept_for : List (Text × Text) → Text → Option Text
kept_for words t = option_map (λ w. w.1) (find (is_word t) words)

abbrev pub is_letter_or_digit : ℕ → Bool
is_letter_or_digit b = is_letter b || is_digit b

abbrev pub encodings : List (Text × Text)
encodings = (codes "utf8", codes "UTF8") ∷ (codes "unicode", codes "UTF8") ∷ (codes "sqlascii", codes "SQL_ASCII") ∷ []

-- an order of day, month and year after each style
unfoldable pub date_styles : List (Text × Text)
date_styles =
    (codes "iso", codes "ISO, MDY") ∷
    (codes "iso,mdy", codes "ISO, MDY") ∷ (codes "iso, mdy", codes "ISO, MDY") ∷
    (codes "iso,dmy", codes "ISO, DMY") ∷ (codes "iso, dmy", codes "ISO, DMY") ∷
    (codes "iso,ymd", codes "ISO, YMD") ∷ (codes "iso, ymd", codes "ISO, YMD") ∷
    (codes "sql,mdy", codes "SQL, MDY") ∷ (codes "sql, mdy", codes "SQL, MDY") ∷
    (codes "sql,dmy", codes "SQL, DMY") ∷ (codes "sql, dmy", codes "SQL, DMY") ∷
    (codes "sql,ymd", codes "SQL, YMD") ∷ (codes "sql, ymd", codes "SQL, YMD") ∷
    (codes "german,mdy", codes "German, MDY") ∷ (codes "german, mdy", codes "German, MDY") ∷
    (codes "german,dmy", codes "German, DMY") ∷ (codes "german, dmy", codes "German, DMY") ∷
    (codes "german,ymd", codes "German, YMD") ∷ (codes "german, ymd", codes "German, YMD") ∷ []

abbrev pub interval_styles : List (Text × Text)
interval_styles =
    (codes "postgres", codes "postgres") ∷ (codes "postgres_verbose", codes "postgres_verbose") ∷
    (codes "sql_standard", codes "sql_standard") ∷ (codes "iso_8601", codes "iso_8601") ∷ []

abbrev pub switches : List (Text × Text)
switches =
    (codes "on", codes "on") ∷ (codes "true", codes "on") ∷ (codes "yes", codes "on") ∷ (codes "1", codes "on") ∷
    (codes "off", codes "off") ∷ (codes "false", codes "off") ∷ (codes "no", codes "off") ∷ (codes "0", codes "off") ∷ []

abbrev pub is_in_zone : ℕ → Bool
is_in_zone b = is_letter b || is_digit b || b == 47 || b == 95 || b == 43 || b == 45

abbrev pub is_zone : Text → Bool
is_zone t = nat_le 1 (length t) && nat_le (length t) 63 && list_all is_in_zone t

abbrev pub when : Bool → Text → Option Text
when b t = if b then Some t else None

-- the number that decimal digits stand for, after a number that was read before them
abbrev pub digits_value_from : ℕ → Text → ℕ
digits_value_from n [] = n
digits_value_from n (d ∷ ds) = digits_value_from (10 * n + (d - 48)) ds

abbrev pub digits_value : Text → ℕ
digits_value ds = digits_value_from 0 ds

abbrev pub are_digits : Text → Bool
are_digits ds = nat_le 1 (length ds) && list_all is_digit ds

-- is t a whole number from -low to high
abbrev pub is_whole : ℕ → ℕ → Text → Bool
is_whole low high [] = false
is_whole low high (b ∷ ds) =
    if b == 45 then are_digits ds && nat_le (digits_value ds) low else (are_digits (b ∷ ds) && nat_le (digits_value (b ∷ ds)) high)

unfoldable pub accepted_of : Parameter → Text → Option Text
accepted_of ApplicationName t = when (nat_le (length t) 63) t
accepted_of ClientEncoding t = kept_for encodings (filter is_letter_or_digit (folded t))
accepted_of DateStyle t = kept_for date_styles (folded t)
accepted_of IntervalStyle t = kept_for interval_styles t
accepted_of StandardConformingStrings t = kept_for switches (folded t)
accepted_of TimeZone t = when (is_zone t) t
accepted_of ExtraFloatDigits t = when (is_whole 15 3 t) t
accepted_of SearchPath t = when (nat_le (length t) 255) t
accepted_of StatementTimeout t = when (is_whole 0 2147483647 t) t
accepted_of _ t = None
