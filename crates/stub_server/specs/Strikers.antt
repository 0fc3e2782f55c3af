-- Whom a cancel strikes.
use Rattle.std.specs.Prelude.{Bool, ◌==◌, ◌&&◌, not}
use Rattle.message_view.specs.declared.views.KeyView.{KeyView}
use Rattle.memory_ends.specs.declared.striker.Striker.{Striker}

-- the connection whose BackendKeyData has these words
abbrev pub is_of : KeyView → Striker → Bool
is_of key s = key.pid == s.own.pid && key.secret == s.own.secret

abbrev pub is_other : KeyView → Striker → Bool
is_other key s = not (is_of key s)
