-- An end that fails from one of its calls on.
use Rattle.std.proofs.Common.{◌≡◌, inl, inr, ℕ, ◌+◌, Some, None, List, [], refl, sym, ap, ◌∙◌, append-nil, arith}
use Rattle.link_model.specs.Standing.{Standing, ClientFacts, Moves}
use Rattle.server_end.specs.declared.Moved.{Moved}
use Rattle.server_end.specs.declared.Moved.TheVariants.{Count, NotNow, Ended, Fault}
use Rattle.memory_ends.specs.declared.failing_end.Calls.{Calls}
use Rattle.memory_ends.specs.declared.failing_end.Calls.TheVariants.{Good, Failed}
use Rattle.server_end.specs.Moves.{moved, CountsRead, CountsWrite, ClientReads, ClientWrites}
use Rattle.memory_ends.specs.Failing.{failing_server, failing_client, Counts, Fails, IsCall}
use Rattle.memory_ends.specs.Servers.{KeepsServer}
use Rattle.memory_ends.proofs.Moving.{moves_die}

-- ---- which call it is

pub call_passes : {E : Type 0} (old new : Calls) (before after : E) (inner : ℕ) (m : Moved) → Fails old new inner None → IsCall old new before after inner m
call_passes (Good n) new before after inner m h = inl h
call_passes (Failed f) new before after inner m h = absurd h

pub call_fails : {E : Type 0} (old new : Calls) (before : E) (inner : ℕ) (m : Moved) → Fails old new inner (Some m) → IsCall old new before before inner m
call_fails (Good n) new before inner m h = inr (h.0, refl, h.1)
call_fails (Failed f) new before inner m h = (refl, h)

-- ---- a call that goes to the end inside

pub read_passes : (old new : Calls) (inner : ℕ) (a b : Standing) (got : List ℕ) → Fails old new inner None → Moves a [] b got → Moves (failing_server old a) [] (failing_server new b) got
read_passes (Good n) new inner a b got h x = rw h.1 x
read_passes (Failed f) new inner a b got h x = absurd h

pub write_passes : (old new : Calls) (inner : ℕ) (a b : Standing) (put : List ℕ) → Fails old new inner None → Moves a put b [] → Moves (failing_server old a) put (failing_server new b) []
write_passes (Good n) new inner a b put h x = rw h.1 x
write_passes (Failed f) new inner a b put h x = absurd h

pub read_counts_pass : (old new : Calls) (inner : ℕ) (a b : Standing) (m : Moved) → Fails old new inner None → CountsRead a b m → CountsRead (failing_server old a) (failing_server new b) m
read_counts_pass (Good n) new inner a b m h x = rw h.1 x
read_counts_pass (Failed f) new inner a b m h x = absurd h

pub write_counts_pass : (old new : Calls) (inner : ℕ) (a b : Standing) (m : Moved) → Fails old new inner None → CountsWrite a b m → CountsWrite (failing_server old a) (failing_server new b) m
write_counts_pass (Good n) new inner a b m h x = rw h.1 x
write_counts_pass (Failed f) new inner a b m h x = absurd h

pub client_read_passes : (old new : Calls) (inner : ℕ) (a b : ClientFacts) (got : List ℕ) (m : Moved) → Fails old new inner None → ClientReads a b got m → ClientReads (failing_client old a) (failing_client new b) got m
client_read_passes (Good n) new inner a b got m h x = rw h.1 x
client_read_passes (Failed f) new inner a b got m h x = absurd h

pub client_write_passes : (old new : Calls) (inner : ℕ) (a b : ClientFacts) (put : List ℕ) (m : Moved) → Fails old new inner None → ClientWrites a b put m → ClientWrites (failing_client old a) (failing_client new b) put m
client_write_passes (Good n) new inner a b put m h x = rw h.1 x
client_write_passes (Failed f) new inner a b put m h x = absurd h

-- ---- a call that fails

-- the same end with other faults, and dead
abbrev gone : Standing → ℕ → Standing
gone a faults = failing_server (Failed faults) a

moves_counted : (x a : Standing) (faults : ℕ) (new : Calls) (m : Moved) (bytes : List ℕ) → KeepsServer x a → Counts faults new m → Moves x [] (failing_server new a) (moved m bytes)
moves_counted x a faults new Fault bytes k h = rw h.1 (moves_die x (gone a (faults + 1)) (record { follows = k.follows; server = k.server; accepted = k.accepted; given = k.given; struck = k.struck }) refl)
moves_counted x a faults new Ended bytes k h = rw h.1 (moves_die x (gone a faults) (record { follows = k.follows; server = k.server; accepted = k.accepted; given = k.given; struck = k.struck }) refl)
moves_counted x a faults new NotNow bytes k h = absurd h
moves_counted x a faults new (Count n) bytes k h = absurd h

puts_counted : (x a : Standing) (faults : ℕ) (new : Calls) (m : Moved) (bytes : List ℕ) → KeepsServer x a → Counts faults new m → Moves x (moved m bytes) (failing_server new a) []
puts_counted x a faults new Fault bytes k h = rw h.1 (moves_die x (gone a (faults + 1)) (record { follows = k.follows; server = k.server; accepted = k.accepted; given = k.given; struck = k.struck }) refl)
puts_counted x a faults new Ended bytes k h = rw h.1 (moves_die x (gone a faults) (record { follows = k.follows; server = k.server; accepted = k.accepted; given = k.given; struck = k.struck }) refl)
puts_counted x a faults new NotNow bytes k h = absurd h
puts_counted x a faults new (Count n) bytes k h = absurd h

-- what a failing call makes of the counts
record Failures (x b : Standing) (m : Moved) : Type 0 where
  read : CountsRead x b m
  write : CountsWrite x b m

failures : (x a : Standing) (faults : ℕ) (new : Calls) (m : Moved) → x.faults ≡ faults → a.read_waits ≡ x.read_waits → a.write_waits ≡ x.write_waits → Counts faults new m → Failures x (failing_server new a) m
failures x a faults new Fault e r w h = rw h.1 (record {
  read = record { faults = ap (λ (n : ℕ). n + 1) (sym e); read_waits = r ∙ omega arith; write_waits = w; ended = λ _. refl };
  write = record { faults = ap (λ (n : ℕ). n + 1) (sym e); read_waits = r; write_waits = w ∙ omega arith; ended = λ _. refl };
})
failures x a faults new Ended e r w h = rw h.1 (record {
  read = record { faults = sym e ∙ omega arith; read_waits = r ∙ omega arith; write_waits = w; ended = λ _. refl };
  write = record { faults = sym e ∙ omega arith; read_waits = r; write_waits = w ∙ omega arith; ended = λ _. refl };
})
failures x a faults new NotNow e r w h = absurd h
failures x a faults new (Count n) e r w h = absurd h

kept : (a : Standing) → KeepsServer a a
kept a = record { follows = refl; server = refl; accepted = refl; given = refl; struck = refl }

pub read_fails : (old new : Calls) (inner : ℕ) (a : Standing) (m : Moved) (bytes : List ℕ) → Fails old new inner (Some m) → Moves (failing_server old a) [] (failing_server new a) (moved m bytes)
read_fails (Good n) new inner a m bytes h = moves_counted a a inner new m bytes (kept a) h.1
read_fails (Failed f) new inner a m bytes h = moves_counted (gone a f) a f new m bytes (record { follows = refl; server = refl; accepted = refl; given = refl; struck = refl }) h

pub write_fails : (old new : Calls) (inner : ℕ) (a : Standing) (m : Moved) (bytes : List ℕ) → Fails old new inner (Some m) → Moves (failing_server old a) (moved m bytes) (failing_server new a) []
write_fails (Good n) new inner a m bytes h = puts_counted a a inner new m bytes (kept a) h.1
write_fails (Failed f) new inner a m bytes h = puts_counted (gone a f) a f new m bytes (record { follows = refl; server = refl; accepted = refl; given = refl; struck = refl }) h

counts_fail : (old new : Calls) (inner : ℕ) (a : Standing) (m : Moved) → inner ≡ a.faults → Fails old new inner (Some m) → Failures (failing_server old a) (failing_server new a) m
counts_fail (Good n) new inner a m e h = failures a a inner new m (sym e) refl refl h.1
counts_fail (Failed f) new inner a m e h = failures (gone a f) a f new m refl refl refl h

pub read_counts_fail : (old new : Calls) (inner : ℕ) (a : Standing) (m : Moved) → inner ≡ a.faults → Fails old new inner (Some m) → CountsRead (failing_server old a) (failing_server new a) m
read_counts_fail old new inner a m e h = (counts_fail old new inner a m e h).read

pub write_counts_fail : (old new : Calls) (inner : ℕ) (a : Standing) (m : Moved) → inner ≡ a.faults → Fails old new inner (Some m) → CountsWrite (failing_server old a) (failing_server new a) m
write_counts_fail old new inner a m e h = (counts_fail old new inner a m e h).write

-- ---- the same of a client's end

-- the facts that a failing call leaves: x is how the end stood, a the end inside
record Left (x a : ClientFacts) : Type 0 where
  tells : a.tells ≡ x.tells
  taken : a.taken ≡ x.taken
  given : a.given ≡ x.given
  read_waits : a.read_waits ≡ x.read_waits
  write_waits : a.write_waits ≡ x.write_waits

client_reads_counted : (x a : ClientFacts) (faults : ℕ) (new : Calls) (m : Moved) (bytes : List ℕ) → x.faults ≡ faults → Left x a → Counts faults new m → ClientReads x (failing_client new a) (moved m bytes) m
client_reads_counted x a faults new Fault bytes e k h = rw h.1 (record {
  tells = k.tells;
  taken = λ _. k.taken ∙ sym (append-nil x.taken);
  given = λ _. k.given;
  faults = ap (λ (n : ℕ). n + 1) (sym e);
  read_waits = k.read_waits ∙ omega arith;
  write_waits = k.write_waits;
  ended = λ _. refl;
  stays_ended = λ _. refl;
})
client_reads_counted x a faults new Ended bytes e k h = rw h.1 (record {
  tells = k.tells;
  taken = λ _. k.taken ∙ sym (append-nil x.taken);
  given = λ _. k.given;
  faults = sym e ∙ omega arith;
  read_waits = k.read_waits ∙ omega arith;
  write_waits = k.write_waits;
  ended = λ _. refl;
  stays_ended = λ _. refl;
})
client_reads_counted x a faults new NotNow bytes e k h = absurd h
client_reads_counted x a faults new (Count n) bytes e k h = absurd h

client_writes_counted : (x a : ClientFacts) (faults : ℕ) (new : Calls) (m : Moved) (bytes : List ℕ) → x.faults ≡ faults → Left x a → Counts faults new m → ClientWrites x (failing_client new a) (moved m bytes) m
client_writes_counted x a faults new Fault bytes e k h = rw h.1 (record {
  tells = k.tells;
  taken = λ _. k.taken;
  given = λ _. k.given ∙ sym (append-nil x.given);
  faults = ap (λ (n : ℕ). n + 1) (sym e);
  read_waits = k.read_waits;
  write_waits = k.write_waits ∙ omega arith;
  ended = λ _. refl;
  stays_ended = λ _. refl;
})
client_writes_counted x a faults new Ended bytes e k h = rw h.1 (record {
  tells = k.tells;
  taken = λ _. k.taken;
  given = λ _. k.given ∙ sym (append-nil x.given);
  faults = sym e ∙ omega arith;
  read_waits = k.read_waits;
  write_waits = k.write_waits ∙ omega arith;
  ended = λ _. refl;
  stays_ended = λ _. refl;
})
client_writes_counted x a faults new NotNow bytes e k h = absurd h
client_writes_counted x a faults new (Count n) bytes e k h = absurd h

left : (f : ℕ) (a : ClientFacts) → Left (failing_client (Failed f) a) a
left f a = record { tells = refl; taken = refl; given = refl; read_waits = refl; write_waits = refl }

pub client_read_fails : (old new : Calls) (inner : ℕ) (a : ClientFacts) (m : Moved) (bytes : List ℕ) → inner ≡ a.faults → Fails old new inner (Some m) → ClientReads (failing_client old a) (failing_client new a) (moved m bytes) m
client_read_fails (Good n) new inner a m bytes e h = client_reads_counted a a inner new m bytes (sym e) (record { tells = refl; taken = refl; given = refl; read_waits = refl; write_waits = refl }) h.1
client_read_fails (Failed f) new inner a m bytes e h = client_reads_counted (failing_client (Failed f) a) a f new m bytes refl (left f a) h

pub client_write_fails : (old new : Calls) (inner : ℕ) (a : ClientFacts) (m : Moved) (bytes : List ℕ) → inner ≡ a.faults → Fails old new inner (Some m) → ClientWrites (failing_client old a) (failing_client new a) (moved m bytes) m
client_write_fails (Good n) new inner a m bytes e h = client_writes_counted a a inner new m bytes (sym e) (record { tells = refl; taken = refl; given = refl; read_waits = refl; write_waits = refl }) h.1
client_write_fails (Failed f) new inner a m bytes e h = client_writes_counted (failing_client (Failed f) a) a f new m bytes refl (left f a) h
