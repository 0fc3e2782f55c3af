-- The hosts that rows and addresses may name (PgBouncer manual, "host", "listen_addr"; RFC 1123 2.1; RFC 4291 2.2).
use Rattle.std.specs.Prelude.{ℕ, ◌+◌, ◌≤◌, Bool, not, List, ◌==◌, ◌&&◌, ◌||◌, if◌then◌else◌, nat_le, nat_eq, length, Option, Some, None, is_some, bytes_eq, codes, take, drop, map}
use Rattle.std.specs.Char.{is_ascii_digit, is_ascii_hexdigit, is_ascii_alphanumeric}
use Rattle.std.specs.List.{list_all, list_any, starts_with}
use Rattle.memchr.specs.Find.{first_of, matches}
use Rattle.server_host.specs.declared.TheConstants.{MAX_HOST}
use Rattle.ini_config.specs.Values.{parts, dotted, names}

-- ---- bytes and limits by their names

abbrev pub comma : ℕ
comma = 44

abbrev pub hyphen : ℕ
hyphen = 45

abbrev pub dot : ℕ
dot = 46

abbrev pub colon : ℕ
colon = 58

abbrev pub underscore : ℕ
underscore = 95

-- hexadecimal digits of a group, and groups of an address
abbrev pub longest_group : ℕ
longest_group = 4

abbrev pub all_groups : ℕ
all_groups = 8

-- a label of a name in DNS
abbrev pub longest_label : ℕ
longest_label = 63

-- a Unix socket's path has at most 107 bytes, of which `/.s.PGSQL.` and a port take 15
abbrev pub longest_folder : ℕ
longest_folder = 92

-- 1 to so many bytes
abbrev pub has_length : ℕ → List ℕ → Bool
has_length most text = not (length text == 0) && nat_le (length text) most

-- ---- IPv6

-- one to four hexadecimal digits
unfoldable pub is_group : List ℕ → Bool
is_group text = has_length longest_group text && list_all is_ascii_hexdigit text

-- groups with colons between
abbrev pub are_groups : List ℕ → Bool
are_groups text = list_all is_group (parts colon text)

abbrev pub group_count : List ℕ → ℕ
group_count text = length (parts colon text)

-- one side of a double colon: groups, or nothing
unfoldable pub is_side : List ℕ → Bool
is_side text = length text == 0 || are_groups text

unfoldable pub side_count : List ℕ → ℕ
side_count text = if length text == 0 then 0 else group_count text

-- at most seven groups on both sides of a double colon
unfoldable pub are_sides : List ℕ → List ℕ → Bool
are_sides left right = nat_le (side_count left + side_count right) 7 && (is_side left && is_side right)

-- eight groups, or fewer round a double colon
abbrev pub is_ipv6_at : List ℕ → Option ℕ → Bool
is_ipv6_at text None = group_count text == all_groups && are_groups text
is_ipv6_at text (Some k) = are_sides (take k text) (drop (k + 2) text)

unfoldable pub is_ipv6 : List ℕ → Bool
is_ipv6 text = is_ipv6_at text (first_of (matches text (codes "::") 0))

-- ---- names

abbrev pub is_name_byte : ℕ → Bool
is_name_byte b = is_ascii_alphanumeric b || (b == hyphen || b == underscore)

-- 1 to 63 letters, digits, `-` and `_`; a `-` isn't the first
unfoldable pub is_label : List ℕ → Bool
is_label text = has_length longest_label text && (not (starts_with nat_eq text (codes "-")) && list_all is_name_byte text)

-- labels with dots between
abbrev pub is_name : List ℕ → Bool
is_name text = list_all is_label (parts dot text)

-- digits and dots alone, which are an IPv4 address or nothing
abbrev pub is_digit_or_dot : ℕ → Bool
is_digit_or_dot b = is_ascii_digit b || b == dot

abbrev pub is_numeric : List ℕ → Bool
is_numeric text = list_all is_digit_or_dot text

-- ---- folders of Unix sockets

abbrev pub is_printing : ℕ → Bool
is_printing b = nat_le 33 b && nat_le b 126

-- a path from the root, in printing ASCII without a space
unfoldable pub is_folder : List ℕ → Bool
is_folder text = starts_with nat_eq text (codes "/") && (has_length longest_folder text && list_all is_printing text)

-- ---- hosts

abbrev pub has_colon : List ℕ → Bool
has_colon text = list_any (λ b. b == colon) text

abbrev pub is_dotted : List ℕ → Bool
is_dotted text = is_some (dotted text)

-- what is reached, and listened on, over IP
unfoldable pub is_ip_host : List ℕ → Bool
is_ip_host text =
    if has_colon text then is_ipv6 text else (
    if is_numeric text then is_dotted text else is_name text)

unfoldable pub is_host : List ℕ → Bool
is_host text = is_folder text || is_ip_host text

-- one or more with commas between
abbrev pub are_hosts : List ℕ → Bool
are_hosts text = list_all is_host (parts comma text)

-- what a row says; `localhost` is 127.0.0.1
unfoldable pub host_of : List ℕ → Option (List ℕ)
host_of text =
    if bytes_eq text (codes "localhost") then Some (codes "127.0.0.1") else (
    if has_length MAX_HOST text && are_hosts text then Some text else None)

-- where a host is said, it isn't too long
abbrev pub IsShort : Option (List ℕ) → Type 0
IsShort None = Unit {0}
IsShort (Some text) = length text ≤ MAX_HOST

-- ---- addresses that are listened on

unfoldable pub is_listened : List ℕ → Bool
is_listened name = bytes_eq name (codes "*") || is_ip_host name

-- `*` is all of IPv4, `localhost` is 127.0.0.1
unfoldable pub listened : List ℕ → List ℕ
listened name =
    if bytes_eq name (codes "*") then codes "0.0.0.0" else (
    if bytes_eq name (codes "localhost") then codes "127.0.0.1" else name)

-- one or more
abbrev pub are_listened : List (List ℕ) → Bool
are_listened found = not (length found == 0) && list_all is_listened found

unfoldable pub listen_addresses : List ℕ → Option (List (List ℕ))
listen_addresses text =
    if are_listened (names text) then Some (map listened (names text)) else None
