-- The key words that a source gives: three words of its generator in turn for each.
use Rattle.std.specs.Prelude.{ℕ, ◌+◌, ◌*◌, ◌%◌, ◌^◌, ◌==◌, if◌then◌else◌}
use Rattle.std.specs.Int.{w32, to_be_bytes}
use Rattle.rand_chacha.specs.ChaCha.{ChaCha, next_word}
use Rattle.message_view.specs.declared.KeyWord.{KeyWord}

-- a word of ChaCha with 20 rounds (RFC 8439), and the generator after it
abbrev pub word_of : ChaCha → ℕ
word_of g = (next_word 10 g).0

abbrev pub after_word : ChaCha → ChaCha
after_word g = (next_word 10 g).1

-- a generator, and the number of the peer that it is for; 0: there are no others
pub record SourceOf : Type 0 where
  pub words : ChaCha
  pub peer : ℕ

-- a pid is a positive number of 32 bits with a sign, so its top bit is clear; a peer's number, of 7 bits, is its first byte
abbrev pub pid_of : ℕ → ℕ → ℕ
pid_of peer word = if peer == 0 then word % 2 ^ 31 else peer % 128 * 2 ^ 24 + word % 2 ^ 24

abbrev pub key_word : SourceOf → KeyWord
key_word s = record {
  pid = pid_of s.peer (word_of s.words);
  secret = word_of (after_word s.words);
  salt = to_be_bytes w32 (word_of (after_word (after_word s.words)));
}

abbrev pub after_key_word : SourceOf → SourceOf
after_key_word s = record s { words = after_word (after_word (after_word s.words)) }
