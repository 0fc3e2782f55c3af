-- What a lease under way says. Each law is the whole contract of a function of src/lib.rt.
use Rattle.std.specs.Prelude.{◌≡◌, true, false}
use Rattle.disposal.specs.declared.Verdict.TheVariants.{Settled}
use Rattle.link_run.specs.Receipts.{IsClean, IsUsed}
use Rattle.relay_model.specs.Leases.{RelayView, Place, IsLease, IsRelayExact, IsAllowed, relay_verdict}

abbrev pub LeasesAreExact : Type 0
LeasesAreExact = (p : Place) (v : RelayView) → IsLease p v → v.client.tells ≡ true → v.link.follows ≡ true → v.link.lives ≡ true → IsRelayExact p v

abbrev pub LeasesAreAllowed : Type 0
LeasesAreAllowed = (p : Place) (v : RelayView) → IsLease p v → v.client.tells ≡ true → v.link.follows ≡ true → IsAllowed p v

abbrev pub UntouchedLinksAreClean : Type 0
UntouchedLinksAreClean = (p : Place) (v : RelayView) → IsLease p v → v.flags.touched ≡ false → IsClean v.link v.key v.server_key v.told.reports

abbrev pub SettledLinksAreUsed : Type 0
SettledLinksAreUsed = (p : Place) (v : RelayView) → IsLease p v → relay_verdict v ≡ Settled → IsUsed v.link v.key v.server_key v.told.reports
