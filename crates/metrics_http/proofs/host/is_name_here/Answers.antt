use Rattle.std.proofs.Common.{sym, ◌∙◌, inl, inr}
use Rattle.metrics_http.proofs.host.is_name_here.Goals as goal

pub returns-in-Err : goal.returns-in-Err
returns-in-Err c = (
  λ wrong. cc,
  λ here. elim here [
    | inl same ↦ sym c.if-is_same_word.false ∙ c.is_same_word.ensures ∙ same
    | inr address ↦ absurd (c.in-Err.ensures address.0 address.1)
  ],
)
