use Rattle.std.proofs.Common.{◌≡◌, ◌&&◌, drop, bytes_eq}
use Rattle.user_file.proofs.secrets.is_same.Given as goal

abbrev pub invariant-loop-i : goal.invariant-loop-i
invariant-loop-i l = (l.same && bytes_eq (drop l.i l.left) (drop l.i l.right)) ≡ bytes_eq l.left l.right
