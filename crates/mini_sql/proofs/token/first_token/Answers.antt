use Rattle.std.proofs.Common.{◌≡◌, ◌-◌, length, take, drop, arith, length-drop, sym, ap, ◌∙◌}
use Rattle.std.proofs.lemmas.List.{take_all}
use Rattle.mini_sql.specs.Words.{Text}
use Rattle.mini_sql.specs.Lexing.{token_of}
use Rattle.mini_sql.specs.Tokens.{tokens, after_token}
use Rattle.mini_sql.proofs.Lexing.{tokens-front, tokens-no_front, tokens-empty, is_long}
use Rattle.mini_sql.proofs.token.first_token.Goals as goal

pub returns-then-is_empty-clause-read : goal.returns-then-is_empty-clause-read
returns-then-is_empty-clause-read c = sym c.after_white-start.ensures.tokens ∙ tokens-empty _ c.if-is_empty.ensures

pub returns-in-Some-clause-read : goal.returns-in-Some-clause-read
returns-in-Some-clause-read c =
    let xs : Text = c.after_white-start.result.now in
    let long = is_long xs c.if-is_empty.ensures in
    let n = c.in-Some.length in
    let found = c.in-Some.ensures in
    let all : take (length xs - n) (drop n xs) ≡ drop n xs = take_all _ _ (omega (arith, length-drop n xs)) in
    sym c.after_white-start.ensures.tokens ∙ tokens-front xs _ n long (c.after_white-start.ensures.first long) found.0 found.1 ∙ ap (λ (ys : Text). after_token (token_of c.in-Some.token) (tokens ys)) (sym all)

pub returns-in-None-clause-read : goal.returns-in-None-clause-read
returns-in-None-clause-read c =
    let xs : Text = c.after_white-start.result.now in
    let long = is_long xs c.if-is_empty.ensures in
    sym c.after_white-start.ensures.tokens ∙ tokens-no_front xs long (c.after_white-start.ensures.first long) c.in-None.ensures
