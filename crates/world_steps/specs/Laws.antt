-- Each group of steps keeps the relation.
use Rattle.world_steps.specs.Worlds.{World}
use Rattle.world_steps.specs.Steps.{BookStep, ByteStep, ClientStep, EndStep, LinkStep}
use Rattle.world_steps.specs.Relation.{Related}

abbrev pub BookStepsKeep : Type 0
BookStepsKeep = (w v : World) → BookStep w v → Related w → Related v

abbrev pub ClientStepsKeep : Type 0
ClientStepsKeep = (w v : World) → ClientStep w v → Related w → Related v

abbrev pub ByteStepsKeep : Type 0
ByteStepsKeep = (w v : World) → ByteStep w v → Related w → Related v

abbrev pub LinkStepsKeep : Type 0
LinkStepsKeep = (w v : World) → LinkStep w v → Related w → Related v

abbrev pub EndStepsKeep : Type 0
EndStepsKeep = (w v : World) → EndStep w v → Related w → Related v
