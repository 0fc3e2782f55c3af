use Rattle.std.proofs.Common.{refl, sym, ap, subst}
use Rattle.link_run.specs.Receipts.{IsClean}
use Rattle.memory_ends.specs.Gone.{start_of, welcome_of}
use Rattle.trials.proofs.links.gone_link.Goals as goal

pub clean-requires : goal.clean-requires
clean-requires c = subst (IsClean _ _ _) (sym c.new.ensures) (c.unfollowed_starts_are_clean.ensures _ _ refl (ap start_of c.in_ok-of.ensures) (ap welcome_of c.in_ok-of.ensures))
