use Rattle.std.proofs.Common.{ℕ, List, take, sym, ◌∙◌, ap, subst}
use Rattle.std.specs.Net.Grammar.{IsIpv6Text}
use Rattle.metrics_http.proofs.host.is_bracketed_address.Goals as goal

pub returns-in-Err : goal.returns-in-Err
returns-in-Err c = (
  λ wrong. cc,
  λ here.
      let front = c.split_at.ensures.front ∙ ap (λ (n : ℕ). take n c.args.rest.now) c.length_before.ensures.value in
      absurd (c.in-Err.ensures here.address (subst (λ (t : List ℕ). IsIpv6Text t here.address) (sym front) here.text)),
)
