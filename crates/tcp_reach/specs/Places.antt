-- The places at which the servers of a row's host are reached.
use Rattle.std.specs.Prelude.{◌≡◌, ℕ, Bool, true, false, List, [], ◌∷◌, nat_eq, ◌==◌, ◌&&◌, bytes_eq, codes, Contains, Option, Some, None, if◌then◌else◌}
use Rattle.std.specs.List.{list_any, starts_with}
use Rattle.std.specs.declared.net.ip_addr.IpAddr.{IpAddr}
use Rattle.std.specs.declared.net.socket_addr.SocketAddr.{SocketAddr}
use Rattle.std.specs.Net.Grammar.{IsIpText}
use Rattle.std.specs.Net.Socket.{socket_ip, socket_port}
use Rattle.memchr.specs.Find.{matches}
use Rattle.bstr.specs.Text.{split_at}
use Rattle.tcp_reach.specs.declared.places.Address.{Address}
use Rattle.tcp_reach.specs.declared.places.Address.TheVariants.{Ip, Unix}

-- one host, a port, and how a server is reached there
pub record PlaceOf : Type 0 where
  pub host : List ℕ
  pub port : ℕ
  pub address : Address

-- a path from the root is the folder of a Unix socket
abbrev pub is_folder : List ℕ → Bool
is_folder host = starts_with nat_eq host (codes "/")

-- where the host spells an address (RFC 4291 2.2, RFC 1123 2.1), it spells this one; what a name stands for, no definition says
abbrev pub IsSpelled : List ℕ → SocketAddr → Type 0
IsSpelled host a = (ip : IpAddr) → IsIpText host ip → IsIpText host (socket_ip a)

-- a folder's server is reached by its socket, and any other at an address and this port
abbrev pub IsReachedBy : List ℕ → ℕ → Address → Type 0
IsReachedBy host port (Ip a) = (is_folder host ≡ false) × (socket_port a ≡ port) × IsSpelled host a
IsReachedBy host port Unix = is_folder host ≡ true

-- the hosts of a row, which have commas between (PgBouncer manual, "host")
abbrev pub hosts_of : List ℕ → List (List ℕ)
hosts_of text = split_at text 1 0 (matches text (44 ∷ []) 0)

-- a place of one of a row's hosts, at the row's port
abbrev pub IsPlaceOf : List ℕ → ℕ → PlaceOf → Type 0
IsPlaceOf text port p = Contains (hosts_of text) p.host × (p.port ≡ port)

-- whether it is
abbrev pub is_place_of : List ℕ → ℕ → PlaceOf → Bool
is_place_of text port p = p.port == port && list_any (bytes_eq p.host) (hosts_of text)

-- of this host
abbrev pub IsPlaceAt : List ℕ → ℕ → PlaceOf → Type 0
IsPlaceAt host port p = (p.host ≡ host) × (p.port ≡ port)

-- the place of a folder
abbrev pub in_folder : List ℕ → ℕ → Option PlaceOf
in_folder host port = if is_folder host then Some (record { host = host; port = port; address = Unix }) else None
