-- The values of a Host field that name this machine, or an address (RFC 9110, 7.2; RFC 3986, 3.2.2).
use Rattle.std.specs.Prelude.{ℕ, ◌⊎◌, Bool, true, false, ◌&&◌, ◌==◌, not, List, [], ◌∷◌, bytes_eq, codes, drop, map, slice_index, take, IsTrue}
use Rattle.std.specs.Char.{is_ascii_digit, to_ascii_lowercase}
use Rattle.std.specs.List.{list_all, prefix_len}
use Rattle.std.specs.Net.Grammar.{IsIpv4Text, IsIpv6Text}
use Rattle.std.specs.declared.net.ipv4_addr.Ipv4Addr.{Ipv4Addr}
use Rattle.std.specs.declared.net.ipv6_addr.Ipv6Addr.{Ipv6Addr}

-- without regard to ASCII case
abbrev pub same_word : List ℕ → List ℕ → Bool
same_word text word = bytes_eq (map to_ascii_lowercase text) (map to_ascii_lowercase word)

-- nothing, or a colon and digits
abbrev pub is_port : List ℕ → Bool
is_port [] = true
is_port (b ∷ digits) = b == 58 && list_all is_ascii_digit digits

-- how many bytes stand before the first that is this one, or how many there are
abbrev pub length_before : ℕ → List ℕ → ℕ
length_before mark text = prefix_len (λ b. not (b == mark)) text

-- `localhost`, or an address of IPv4
abbrev pub IsNameHere : List ℕ → Type 0
IsNameHere host = IsTrue (same_word host (codes "localhost")) ⊎ ((a : Ipv4Addr) × IsIpv4Text host a)

-- a byte, and a port behind it
abbrev pub is_closed : List ℕ → Bool
is_closed [] = false
is_closed (b ∷ port) = is_port port

-- what follows a `[`: an address of IPv6, a `]` and a port
pub record IsBracketedAddress (rest : List ℕ) : Type 0 where
  pub address : Ipv6Addr
  pub text : IsIpv6Text (take (length_before 93 rest) rest) address
  pub closed : IsTrue (is_closed (drop (length_before 93 rest) rest))

abbrev pub is_bracketed : List ℕ → Bool
is_bracketed value = slice_index value 0 == 91

-- by whether a `[` is in front; else the host ends at the first colon
abbrev pub NamesAt : Bool → List ℕ → Type 0
NamesAt true value = IsBracketedAddress (drop 1 value)
NamesAt false value = IsTrue (is_port (drop (length_before 58 value) value)) × IsNameHere (take (length_before 58 value) value)

-- a host that is `localhost` or an address, and a port or none
abbrev pub NamesHere : List ℕ → Type 0
NamesHere value = NamesAt (is_bracketed value) value
