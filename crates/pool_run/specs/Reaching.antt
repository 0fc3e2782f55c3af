-- Where a key's server is sought, and where a cancel goes.
use Rattle.std.specs.Prelude.{ℕ, List, IsSomeAnd}
use Rattle.message_view.specs.Messages.{cancel_request}
use Rattle.session_values.specs.State.{StartKeyOf}
use Rattle.link_desk.specs.declared.answers.Strike.{Strike}
use Rattle.tcp_end.specs.Connections.{ConnectionOf}
use Rattle.tcp_reach.specs.Places.{IsPlaceOf}
use Rattle.tcp_reach.specs.Streams.{StreamOf, IsSentTo}

-- it was dialled to a place of one of the key's hosts, at its port
abbrev pub IsReached : StartKeyOf → ConnectionOf → Type 0
IsReached key end = IsSomeAnd key.host (λ hosts. IsSomeAnd end.place (IsPlaceOf hosts key.port))

-- the CancelRequest for the session of a link's server
abbrev pub request_of : Strike → List ℕ
request_of strike = cancel_request strike.server.pid strike.server.secret

-- it went, and nothing else, to a place of one of its link's hosts, at their port
abbrev pub IsCancelOf : Strike → StreamOf → Type 0
IsCancelOf strike = IsSentTo strike.host strike.port (request_of strike)
