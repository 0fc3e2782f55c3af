-- What is logged once a second at most: how often it has come since then.
use Rattle.std.specs.Prelude.{ℕ, Bool, true, ◌&&◌, Option, Some, None, if◌then◌else◌, nat_lt}
use Rattle.log_writer.specs.Queues.{one_more}

-- the second in which it was logged last, and how often it has come since then
pub record LimiterOf : Type 0 where
  pub logged : Option ℕ
  pub unlogged : ℕ

abbrev pub with_one : LimiterOf → LimiterOf
with_one l = record l { unlogged = one_more l.unlogged }

abbrev pub is_later : Option ℕ → ℕ → Bool
is_later None second = true
is_later (Some logged) second = nat_lt logged second

abbrev pub is_due : ℕ → LimiterOf → Bool
is_due second l = nat_lt 0 l.unlogged && is_later l.logged second

-- what is logged in this second
abbrev pub due : ℕ → LimiterOf → Option ℕ
due second l = if is_due second l then Some l.unlogged else None

abbrev pub after_due : ℕ → LimiterOf → LimiterOf
after_due second l = if is_due second l then record { logged = Some second; unlogged = 0 } else l
