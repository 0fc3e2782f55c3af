use Rattle.std.proofs.Common.{◌≡◌}
use Rattle.scram.specs.Hmac.{key_block, round_under, rounds_under}
use Rattle.scram.proofs.hmac_key.hi.Given as goal

abbrev pub invariant-loop-n : goal.invariant-loop-n
invariant-loop-n l = record {
  round : l.round ≡ round_under (key_block l.password) l.salt l.n;
  sum : l.sum ≡ rounds_under (key_block l.password) l.salt l.n;
}
