-- What a lease's end hands back, and whether anything is on its way then.
use Rattle.std.specs.Prelude.{◌≡◌, ◌≢◌, Bool, true, false, ◌&&◌, not}
use Rattle.disposal.specs.declared.Verdict.TheVariants.{Settled}
use Rattle.std.specs.Arc.{arc_value}
use Rattle.link_model.specs.Standing.{Standing}
use Rattle.link_run.specs.Links.{LinkView}
use Rattle.link_run.specs.declared.links.LinkParts.{LinkParts}
use Rattle.relay_model.specs.Leases.{RelayView, relay_verdict}
use Rattle.relay_flow.specs.Flows.{is_empty, is_faulty}
use Rattle.relay_model.specs.Answers.{is_quiet}
use Rattle.relay_core.specs.declared.relay.GoneCause.{GoneCause}
use Rattle.relay_core.specs.declared.relay.GoneCause.TheVariants.{Left, Lost}
use Rattle.relay_core.specs.declared.relay.Returned.{Returned}
use Rattle.relay_core.specs.declared.relay.Returned.TheVariants.{Unused, Used, Gone}

-- Nothing is on its way: all that came from the link was given to the client, all of the client's that may go on was written to
-- the link, and no fault of the client keeps back what is left of its bytes.
abbrev pub is_clear : RelayView → Bool
is_clear v = (is_quiet v && is_empty v.to_client.part) && (is_empty v.to_link.held && not (is_faulty v.to_link.ends))

pub record IsThatLink (v : RelayView) (l : LinkView) : Type 0 where
  pub stands : l.stands ≡ v.link
  pub key : l.key ≡ v.key
  pub number : l.number ≡ v.number
  pub started_at : l.started_at ≡ v.started_at
  pub server_key : l.server_key ≡ v.server_key
  pub reports : l.reports ≡ v.told.reports

-- the same of a link taken apart
pub record IsThatLent {E : Type 0} (standing : E → Standing) (v : RelayView) (l : LinkParts E) : Type 0 where
  pub stands : standing l.end ≡ v.link
  pub key : arc_value l.key ≡ v.key
  pub number : l.number ≡ v.number
  pub started_at : l.started_at ≡ v.started_at
  pub server_key : l.server_key ≡ v.server_key
  pub reports : l.reported ≡ v.told.reports

-- the cause is the verdict; where nothing went over the link, its end is lost
abbrev pub IsGoneCause : RelayView → GoneCause → Type 0
IsGoneCause v (Left verdict) = (v.flags.touched ≡ true) × (verdict ≡ relay_verdict v) × (verdict ≢ Settled)
IsGoneCause v Lost = (v.flags.touched ≡ false) × (v.flags.link_over ≡ true)

abbrev pub IsReturned : {E : Type 0} → (E → Standing) → RelayView → Returned E → Type 0
IsReturned standing v (Unused l) = (v.flags.touched ≡ false) × (v.flags.link_over ≡ false) × IsThatLink v l
IsReturned standing v (Used l) = (v.flags.touched ≡ true) × (relay_verdict v ≡ Settled) × IsThatLink v l
IsReturned standing v (Gone l cause) = IsThatLent standing v l × IsGoneCause v cause
