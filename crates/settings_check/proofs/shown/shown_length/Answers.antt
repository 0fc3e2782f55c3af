use Rattle.std.proofs.Common.{rules, ◌≡◌, ap, ◌∙◌, sym, arith, drop, true, false}
use Rattle.std.proofs.lemmas.List.{drop_all}
use Rattle.settings_check.specs.Shown.{begins_password, shown_length}
use Rattle.settings_check.proofs.Hiding.{stops, goes_on}
use Rattle.settings_check.proofs.shown.shown_length.Goals as goal

pub returns-then-begins_password : goal.returns-then-begins_password
returns-then-begins_password c =
    let text = c.args.text.now in
    let here : begins_password (drop c.loop-at.at text) ≡ true = ap begins_password (sym c.rest_of.ensures) ∙ sym c.begins_password.ensures ∙ c.if-begins_password.true in
    let stop = stops text c.loop-at.at c.loop-at-test.true here in
    let kept = c.loop-at.invariant in
    omega (arith, stop, kept)

pub loop-at-preserved : goal.loop-at-preserved
loop-at-preserved c =
    let text = c.args.text.now in
    let later : begins_password (drop c.loop-at.at text) ≡ false = ap begins_password (sym c.rest_of.ensures) ∙ sym c.begins_password.ensures ∙ c.if-begins_password.false in
    let next = goes_on text c.loop-at.at c.loop-at-test.true later in
    let kept = c.loop-at.invariant in
    omega (arith, next, kept)

pub returns : goal.returns
unfolding shown_length
returns c =
    let text = c.args.text.now in
    let none : shown_length (drop c.loop-at.at text) ≡ 0 = ap shown_length (drop_all c.loop-at.at text (search rules)) in
    let kept = c.loop-at.invariant in
    omega (arith, none, kept)
