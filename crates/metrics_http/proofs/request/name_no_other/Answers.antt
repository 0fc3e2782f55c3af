use Rattle.std.proofs.Common.{◌≤◌, List, [], ◌∷◌, map, length, All, take_all, sym, refl, ◌∙◌, subst, arith}
use Rattle.std.proofs.lemmas.List.Elements.{All-nil, All-cons, All-head, All-tail, All-map, All-get_or, All-more}
use Rattle.httparse.specs.Spans.{header_bytes}
use Rattle.httparse.specs.declared.spans.HeaderSpan.{HeaderSpan}
use Rattle.metrics_http.specs.Requests.{NamesNoOther}
use Rattle.metrics_http.proofs.request.name_no_other.Goals as goal

-- what holds of each of the values holds of what each is the value of
of_each : {X Y : Type 0} (P : Y → Type 0) (f : X → Y) (xs : List X) → All P (map f xs) → All (λ x. P (f x)) xs
of_each P f [] all = All-nil (λ x. P (f x))
of_each P f (x ∷ xs) all = All-cons (λ x. P (f x)) x xs (All-head P (f x) (map f xs) all) (of_each P f xs (All-tail P (f x) (map f xs) all))

abbrev no_field : HeaderSpan
no_field = record { name = record { start = 0; end = 0 }; value = record { start = 0; end = 0 } }

pub returns-then-not-names_no_other : goal.returns-then-not-names_no_other
returns-then-not-names_no_other c = (
  λ wrong. cc,
  λ all.
      let each = of_each NamesNoOther (header_bytes c.args.bytes.now) c.args.fields.now all in
      let here = All-get_or (λ s. NamesNoOther (header_bytes c.args.bytes.now s)) c.args.fields.now c.loop-field.field-index no_field c.loop-field-test.true each in
      sym c.if-not-names_no_other.true ∙ c.names_no_other.ensures.1 here,
)

pub loop-field-preserved : goal.loop-field-preserved
loop-field-preserved c =
    All-more (λ s. NamesNoOther (header_bytes c.args.bytes.now s)) c.args.fields.now c.loop-field.field-index no_field c.loop-field-test.true c.loop-field.invariant
    (c.names_no_other.ensures.0 c.if-not-names_no_other.false)

pub returns : goal.returns
returns c =
    let finished : length c.args.fields.now ≤ c.loop-field.field-index = omega (arith, c.loop-field-test.false) in (
      λ _. All-map NamesNoOther (header_bytes c.args.bytes.now) c.args.fields.now
          (subst (All (λ s. NamesNoOther (header_bytes c.args.bytes.now s))) (take_all c.loop-field.field-index c.args.fields.now finished) c.loop-field.invariant),
      λ _. refl,
    )
