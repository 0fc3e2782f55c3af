-- Where the ends of the tests stand.
use Rattle.std.specs.Prelude.{ℕ, false, List, []}
use Rattle.link_model.specs.Standing.{Standing, ClientFacts}

-- a client that doesn't tell its bytes
abbrev pub untold : ClientFacts → ClientFacts
untold facts = record facts { tells = false }

-- a server that follows no session, and gave these bytes in all
abbrev pub unfollowed : Standing → List ℕ → Standing
unfollowed at given = record at { follows = false; struck = []; given = given }
