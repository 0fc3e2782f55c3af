-- A list has no more items than its text has bytes.
use Rattle.std.proofs.Common.{ℕ, zero, suc, ◌-◌, ◌≤◌, List, [], ◌∷◌, length, Option, Some, None, arith, Bool, true, false}
use Rattle.std.specs.Prelude.{if◌then◌else◌, codes}
use Rattle.mini_sql.specs.Words.{Text, is_white}
use Rattle.mini_sql.specs.Tokens.{Token, tokens, tokens_after, token_at, token_then, after_token, comma}
use Rattle.mini_sql.specs.Statements.{phrase, read, items, definitions, columns_at, with_item, column_of, is_word, is_sign, less_semicolon, without_semicolon, is_last_semicolon}
use Rattle.mini_sql.specs.Lists.{Listing, items_of}

count_of : {A : Type 0} → Option (List A) → ℕ
count_of None = 0
count_of (Some xs) = length xs

after_short : (t : Token) (o : Option (List Token)) (n : ℕ) → count_of o ≤ n → count_of (after_token t o) ≤ suc n
unfolding count_of
after_short t None n h = omega arith
after_short t (Some ts) n h = omega (arith, h)

then_short : (o : Option (Token × ℕ)) (rest : ℕ → Option (List Token)) (n : ℕ) → ((k : ℕ) → count_of (rest k) ≤ n) → count_of (token_then o rest) ≤ suc n
unfolding count_of
then_short None rest n h = omega arith
then_short (Some x) rest n h = after_short x.0 _ n (h (x.1 - 1))

white_short : (b : Bool) (o p : Option (List Token)) (n : ℕ) → count_of o ≤ n → count_of p ≤ suc n → count_of (if b then o else p) ≤ suc n
white_short true o p n h k = omega (arith, h)
white_short false o p n h k = k

tokens_short : (xs : Text) (k : ℕ) → count_of (tokens_after k xs) ≤ length xs
unfolding tokens_after count_of
tokens_short [] k = omega arith
tokens_short (b ∷ xs) (suc k) = omega (arith, tokens_short xs k)
tokens_short (b ∷ xs) zero = white_short (is_white b) _ _ (length xs) (tokens_short xs 0) (then_short (token_at b xs) _ (length xs) (tokens_short xs))

last_short : (b : Bool) (t : Token) (us : List Token) (n : ℕ) → length us ≤ n → length (if b then [] else (t ∷ us)) ≤ suc n
last_short true t us n h = omega arith
last_short false t us n h = omega (arith, h)

less_short : (ts : List Token) → length (without_semicolon ts) ≤ length ts
less_short [] = omega arith
less_short (t ∷ ts) = last_short (is_last_semicolon t ts) t _ (length ts) (less_short ts)

option_short : (o : Option (List Token)) → count_of (less_semicolon o) ≤ count_of o
unfolding count_of less_semicolon
option_short None = omega arith
option_short (Some ts) = less_short ts

phrase_short : (t : Text) → count_of (phrase t) ≤ length t
unfolding phrase
phrase_short t = omega (arith, option_short (tokens t), tokens_short t 0)

item_short : {A : Type 0} (v : Option A) (m : Listing A) (n : ℕ) → length (items_of m) ≤ n → length (items_of (with_item v m)) ≤ suc n
unfolding with_item
item_short None None n h = omega arith
item_short None (Some q) n h = omega arith
item_short (Some a) None n h = omega arith
item_short (Some a) (Some q) n h = omega (arith, h)

next_short : {A : Type 0} (b : Bool) (m : Listing A) (us : List Token) (n : ℕ) → length (items_of m) ≤ n → length (items_of (if b then m else Some ([], us))) ≤ n
next_short true m us n h = h
next_short false m us n h = omega arith

items_short : {A : Type 0} (item_of : Token → Option A) (ts : List Token) → length (items_of (items item_of ts)) ≤ length ts
unfolding items
items_short item_of [] = omega arith
items_short item_of (t ∷ []) = item_short (item_of t) _ 0 (omega arith)
items_short item_of (t ∷ s ∷ ts) = omega (arith, item_short (item_of t) (if is_sign comma s then items item_of ts else Some ([], s ∷ ts)) (length ts) (next_short (is_sign comma s) (items item_of ts) (s ∷ ts) (length ts) (items_short item_of ts)))

typed_short : (b : Bool) (m : Listing Text) (n : ℕ) → length (items_of m) ≤ n → length (items_of (if b then m else None)) ≤ n
typed_short true m n h = h
typed_short false m n h = omega arith

definitions_short : (ts : List Token) → length (items_of (definitions ts)) ≤ length ts
unfolding definitions
definitions_short [] = omega arith
definitions_short (t ∷ []) = omega arith
definitions_short (t ∷ k ∷ []) = typed_short (is_word (codes "text") k) _ 2 (omega (arith, item_short (column_of t) (Some ([], [])) 0 (omega arith)))
definitions_short (t ∷ k ∷ s ∷ ts) =
    typed_short (is_word (codes "text") k) _ _ (omega (arith, item_short (column_of t) (if is_sign comma s then definitions ts else Some ([], s ∷ ts)) (length ts) (next_short (is_sign comma s) (definitions ts) (s ∷ ts) (length ts) (definitions_short ts))))

columns_short : (typed : Bool) (ts : List Token) → length (items_of (columns_at typed ts)) ≤ length ts
unfolding columns_at
columns_short true ts = definitions_short ts
columns_short false ts = items_short column_of ts

read_short : {A : Type 0} (list : List Token → Listing A) (o : Option (List Token)) → ((ts : List Token) → length (items_of (list ts)) ≤ length ts) → length (items_of (read list o)) ≤ count_of o
unfolding read count_of
read_short list None h = omega arith
read_short list (Some ts) h = h ts

pub listed-columns : (typed : Bool) (text : Text) → length (items_of (read (columns_at typed) (phrase text))) ≤ length text
listed-columns typed text = omega (arith, read_short (columns_at typed) (phrase text) (columns_short typed), phrase_short text)

pub listed-items : {A : Type 0} (item_of : Token → Option A) (text : Text) → length (items_of (read (items item_of) (phrase text))) ≤ length text
listed-items item_of text = omega (arith, read_short (items item_of) (phrase text) (items_short item_of), phrase_short text)
