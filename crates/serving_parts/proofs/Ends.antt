-- The ends of the tests keep the counts of those inside, and claim no more.
use Rattle.std.proofs.Common.{◌≡◌, ℕ, ◌+◌, Bool, true, false, List, [], ◌++◌, refl, sym, ap, ◌∙◌, append-nil, arith}
use Rattle.std.proofs.lemmas.Bool.{true≢false}
use Rattle.link_model.specs.Standing.{Standing, ClientFacts, Moves}
use Rattle.server_end.specs.declared.Moved.{Moved}
use Rattle.server_end.specs.declared.Moved.TheVariants.{Count, NotNow, Ended, Fault}
use Rattle.server_end.specs.Moves.{CountsRead, CountsWrite, ClientReads, ClientWrites, moved}
use Rattle.server_end.proofs.NoneMoved.{none_moved}
use Rattle.serving_parts.specs.Ends.{untold, unfollowed}

-- ---- clients

pub untold_reads : (a b : ClientFacts) (got : List ℕ) (m : Moved) → ClientReads a b got m → ClientReads (untold a) (untold b) got m
untold_reads a b got m h = record {
  tells = refl;
  taken = λ e. absurd (true≢false (sym e));
  given = λ e. absurd (true≢false (sym e));
  faults = h.faults;
  read_waits = h.read_waits;
  write_waits = h.write_waits;
  ended = h.ended;
  stays_ended = h.stays_ended;
}

pub untold_writes : (a b : ClientFacts) (put : List ℕ) (m : Moved) → ClientWrites a b put m → ClientWrites (untold a) (untold b) put m
untold_writes a b put m h = record {
  tells = refl;
  taken = λ e. absurd (true≢false (sym e));
  given = λ e. absurd (true≢false (sym e));
  faults = h.faults;
  read_waits = h.read_waits;
  write_waits = h.write_waits;
  ended = h.ended;
  stays_ended = h.stays_ended;
}

-- ---- servers

pub unfollowed_moves : (a b : Standing) (put got old new : List ℕ) → new ≡ old ++ got → Moves a put b got → Moves (unfollowed a old) put (unfollowed b new) got
unfollowed_moves a b put got old new e h = record {
  follows = refl;
  server = h.server;
  dead = h.dead;
  silent = h.silent;
  accepted = h.accepted;
  given = e;
  noted = refl;
  unstruck = λ e. refl;
  served = λ e. absurd (true≢false (sym e));
  passed = λ e. absurd (true≢false (sym e));
}

-- a write gives nothing
pub unfollowed_takes : (a b : Standing) (put given : List ℕ) → Moves a put b [] → Moves (unfollowed a given) put (unfollowed b given) []
unfollowed_takes a b put given h = unfollowed_moves a b put [] given given (sym (append-nil given)) h

-- nor does a read without a count
pub none_given : (m : Moved) (bytes old new : List ℕ) → ((n : ℕ) → m ≡ Count n → ⊥) → new ≡ old → new ≡ old ++ moved m bytes
none_given m bytes old new n e = e ∙ (sym (append-nil old) ∙ ap (λ (got : List ℕ). old ++ got) (sym (none_moved m bytes n)))

pub unfollowed_reads : (a b : Standing) (m : Moved) (old new : List ℕ) → CountsRead a b m → CountsRead (unfollowed a old) (unfollowed b new) m
unfollowed_reads a b m old new h = record { faults = h.faults; read_waits = h.read_waits; write_waits = h.write_waits; ended = h.ended }

pub unfollowed_writes : (a b : Standing) (m : Moved) (given : List ℕ) → CountsWrite a b m → CountsWrite (unfollowed a given) (unfollowed b given) m
unfollowed_writes a b m given h = record { faults = h.faults; read_waits = h.read_waits; write_waits = h.write_waits; ended = h.ended }

is_end : Moved → Bool
is_end (Count n) = false
is_end NotNow = false
is_end Ended = true
is_end Fault = false

-- a server that lives may say anything
pub speaks : (a : Standing) (got old new : List ℕ) → new ≡ old ++ got → a.lives ≡ true → Moves (unfollowed a old) [] (unfollowed a new) got
speaks a got old new e lives = record {
  follows = refl;
  server = refl;
  dead = λ e. e;
  silent = λ e. absurd (true≢false (sym lives ∙ e));
  accepted = sym (append-nil a.accepted);
  given = e;
  noted = refl;
  unstruck = λ e. refl;
  served = λ e. absurd (true≢false (sym e));
  passed = λ e. absurd (true≢false (sym e));
}

pub speaks_counted : (a : Standing) (n : ℕ) (old new : List ℕ) → CountsRead (unfollowed a old) (unfollowed a new) (Count n)
unfolding is_end
speaks_counted a n old new = record { faults = omega arith; read_waits = omega arith; write_waits = refl; ended = λ e. absurd (true≢false (sym (ap is_end e))) }
