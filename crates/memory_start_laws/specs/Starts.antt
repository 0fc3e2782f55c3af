-- Stand-in servers in memory, and the start of a link.
use Rattle.std.specs.Prelude.{◌≡◌, ℕ, false, length, [], Option, None, Some}
use Rattle.session_values.specs.Lawful.{IsLawfulCatalogue}
use Rattle.session_values.specs.State.{StartKeyOf}
use Rattle.link_model.specs.Stages.{Server as TheServer}
use Rattle.link_model.specs.Standing.{Standing}
use Rattle.memory_ends.specs.declared.memory_server.ServerAuth.{ServerAuth}
use Rattle.memory_ends.specs.declared.memory_server.ServerAuth.TheVariants.{Trust, Plain, Md5}
use Rattle.memory_ends.specs.Gone.{start_of, welcome_of}
use Rattle.memory_ends.specs.Servers.{auth_asked, new_server}
use Rattle.link_run.specs.Receipts.{IsClean}
use Rattle.link_start.specs.Starts.{CanStartAll}

-- an MD5 question has a salt of four bytes
abbrev pub HasSalt : ServerAuth → Type 0
HasSalt Trust = Unit {0}
HasSalt (Plain password) = Unit {0}
HasSalt (Md5 salt digest) = length salt ≡ 4

-- A stand-in server in memory can be started, by anybody.
abbrev pub MemoryServersCanStart : Type 0
MemoryServersCanStart = (v : TheServer) (auth : ServerAuth) (cut : ℕ) (left : Option ℕ) → IsLawfulCatalogue v.catalogue → HasSalt auth → CanStartAll (new_server v (auth_asked auth) cut left).standing

-- An end that follows nothing, and tells that it was sent the StartupMessage of the key and gave the shortest answer, makes a clean
-- link without a server's key and reports: so tests have links that were never started.
abbrev pub UnfollowedStartsAreClean : Type 0
UnfollowedStartsAreClean = (key : StartKeyOf) (at : Standing) → at.follows ≡ false → at.accepted ≡ start_of (Some key) → at.given ≡ welcome_of (Some key) → IsClean at key None []
