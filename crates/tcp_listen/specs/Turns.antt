-- What an acceptor's turn comes to.
use Rattle.std.specs.Prelude.{◌≡◌, Bool, true, false, None}
use Rattle.std.specs.declared.io.ErrorKind.{ErrorKind}
use Rattle.std.specs.declared.io.ErrorKind.TheVariants.{WouldBlock, Interrupted, ConnectionAborted}
use Rattle.tcp_end.specs.Connections.{new_connection}
use Rattle.tcp_listen.specs.declared.acceptor.Turn.{Turn}
use Rattle.tcp_listen.specs.declared.acceptor.Turn.TheVariants as turn

-- an error in place of a connection, but for those that say that none was there, or that it went again
abbrev pub is_failure : ErrorKind → Bool
is_failure WouldBlock = false
is_failure Interrupted = false
is_failure ConnectionAborted = false
is_failure _ = true

-- a client's end is new
abbrev pub IsTurn : Turn → Type 0
IsTurn (turn.Client client peer) = client ≡ new_connection None
IsTurn turn.Nobody = Unit {0}
IsTurn turn.Failed = Unit {0}
