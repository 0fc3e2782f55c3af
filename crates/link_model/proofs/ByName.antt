-- Each law by its name. A proof in another crate imports it so:
--     use Rattle.link_model.proofs.ByName.{moves_join}
use Rattle.link_model.specs.Standing.{MovesJoin, SparedAreUnstruck}
use Rattle.link_model.specs.Leases.{LeasesAreExact, LeasesAreFronts, SettledLinksRest}
use Rattle.link_model.specs.Starts.{StartsAreOfTheirKeys}
use Rattle.link_model.specs.Dialogues.{StartRepliesAreFrames, StartPacketsSplit, StartsAreTold, StartedIsFresh}
use Rattle.link_model.proofs.Both.{moves_both, spared-unstruck}
use Rattle.link_model.proofs.Leasing.{leases-exact, leases-front, settled-rest}
use Rattle.link_model.proofs.Starting.{started-of}
use Rattle.link_model.proofs.Dialogues.{start_replies-frames, start_packets-split, starts-told, started-fresh}

pub moves_join : MovesJoin
moves_join = moves_both

pub spared_are_unstruck : SparedAreUnstruck
spared_are_unstruck = spared-unstruck

pub leases_are_exact : LeasesAreExact
leases_are_exact = leases-exact

pub leases_are_fronts : LeasesAreFronts
leases_are_fronts = leases-front

pub settled_links_rest : SettledLinksRest
settled_links_rest = settled-rest

-- ---- starts

pub starts_are_of_their_keys : StartsAreOfTheirKeys
starts_are_of_their_keys = started-of

pub start_replies_are_frames : StartRepliesAreFrames
start_replies_are_frames = start_replies-frames

pub start_packets_split : StartPacketsSplit
start_packets_split = start_packets-split

pub starts_are_told : StartsAreTold
starts_are_told = starts-told

pub started_is_fresh : StartedIsFresh
started_is_fresh = started-fresh
