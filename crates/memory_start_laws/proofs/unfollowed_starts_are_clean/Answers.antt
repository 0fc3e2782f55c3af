use Rattle.memory_start_laws.proofs.Unfollowed.{is_clean}
use Rattle.memory_start_laws.proofs.unfollowed_starts_are_clean.Goals as goal

pub returns : goal.returns
returns c = is_clean
