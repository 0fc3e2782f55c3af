-- What is kept of what a server says of its session.
use Rattle.std.specs.Prelude.{ℕ, List, [], ◌-◌, ◌==◌, ◌||◌, Bool, if◌then◌else◌, nat_le, length, drop}
use Rattle.frame_view.specs.declared.server.TheConstants.{ERROR_RESPONSE, NOTICE_RESPONSE}
use Rattle.relay_core.specs.declared.last_note.TheConstants.{MAX_NOTE}

abbrev pub is_note : ℕ → Bool
is_note kind = kind == ERROR_RESPONSE || kind == NOTICE_RESPONSE

-- nothing of a message that is longer
abbrev pub kept : List ℕ → List ℕ
kept message = if nat_le (length message) MAX_NOTE then message else []

-- what is kept once these bytes, the last of those held, are of a frame of this type that went on
abbrev pub heard : List ℕ → ℕ → ℕ → List ℕ → List ℕ
heard held count kind last = if is_note kind then kept (drop (length held - count) held) else last
