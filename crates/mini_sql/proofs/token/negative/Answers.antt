use Rattle.std.proofs.Common.{◌≡◌, length, drop, take, arith, ap, ◌∙◌, ◌-◌, length-drop}
use Rattle.std.specs.Prelude.{take_while}
use Rattle.std.proofs.lemmas.List.{take_all}
use Rattle.mini_sql.specs.Words.{Text, is_digit}
use Rattle.mini_sql.proofs.Lexing.{negative-front}
use Rattle.mini_sql.proofs.token.negative.Goals as goal

pub returns : goal.returns
returns c =
    let xs : Text = c.args.text.now in
    let n = c.digits_length-n.result in
    let all : take (length xs - 1) (drop 1 xs) ≡ drop 1 xs = take_all _ _ (omega (arith, length-drop 1 xs)) in
    let same : n ≡ length (take_while is_digit (drop 1 xs)) = c.digits_length-n.ensures ∙ ap (λ (ys : Text). length (take_while is_digit ys)) all in
    negative-front xs n c.requires.long c.requires.starts same c.if-n-eq0.false
