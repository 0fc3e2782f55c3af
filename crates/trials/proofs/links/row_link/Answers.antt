use Rattle.std.proofs.Common.{ℕ, List, ◌++◌, Some, refl, sym, ap, ap₂, ◌∙◌, append-nil, subst}
use Rattle.session_values.specs.State.{StartKeyOf}
use Rattle.link_run.specs.Receipts.{IsClean}
use Rattle.memory_ends.specs.Gone.{start_of, welcome_of}
use Rattle.trials.proofs.links.row_link.Goals as goal

pub clean-requires : goal.clean-requires
clean-requires c = subst (IsClean _ _ _) (sym c.new-2.ensures) (c.unfollowed_starts_are_clean.ensures _ _ refl
    (ap₂ (λ (key : StartKeyOf) (more : List ℕ). start_of (Some key) ++ more) c.in_ok-new.ensures.key c.in_ok-new.ensures.accepted ∙ append-nil _)
    (ap₂ (λ (key : StartKeyOf) (more : List ℕ). welcome_of (Some key) ++ more) c.in_ok-new.ensures.key c.in_ok-new.ensures.given ∙ append-nil _))
