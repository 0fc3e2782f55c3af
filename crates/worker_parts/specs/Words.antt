-- The key words of the tests' clients.
use Rattle.std.specs.Prelude.{ℕ, [], ◌∷◌}
use Rattle.message_view.specs.declared.KeyWord.{KeyWord}

abbrev pub key_word : ℕ → KeyWord
key_word number = record { pid = number; secret = number; salt = 0 ∷ 0 ∷ 0 ∷ 0 ∷ [] }
