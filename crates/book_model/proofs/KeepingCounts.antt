-- The counts agree after each event, as they did before.
use Rattle.std.proofs.Common.{◌≡◌, ℕ, suc, ◌+◌, ◌≤◌, Option, Some, List, length, count_by, sym, ap, ◌∙◌, arith}
use Rattle.std.proofs.lemmas.List.{length_push}
use Rattle.book_model.specs.Book.{Book, Client, Link, Ticket, is_link, without}
use Rattle.book_model.specs.Outcomes.{counted, lends, loses, raised, starts}
use Rattle.book_model.specs.declared.counts.Counts.{Counts}
use Rattle.book_model.specs.declared.counts.Kind.{Kind}
use Rattle.book_model.specs.declared.counts.Kind.TheVariants.{Arrival, ArrivalRefused, Asking, AskRefused, Grant, TicketLost, Return, Loss, FailedStart, Leaving, Ticking, Limiting, Pausing, Resuming, Closing, Keying, Cancelling, LeaseEnding, HangUp, Reconnecting}
use Rattle.book_model.specs.Kept.{KeptCounts, total}
use Rattle.book_model.proofs.KeepingLists.{length_left}

pub total_raised : (k : Kind) (c : Counts) → total (raised k c) ≡ suc (total c)
total_raised Arrival c = omega arith
total_raised ArrivalRefused c = omega arith
total_raised Asking c = omega arith
total_raised AskRefused c = omega arith
total_raised Grant c = omega arith
total_raised TicketLost c = omega arith
total_raised Return c = omega arith
total_raised Loss c = omega arith
total_raised FailedStart c = omega arith
total_raised Leaving c = omega arith
total_raised Ticking c = omega arith
total_raised Limiting c = omega arith
total_raised Pausing c = omega arith
total_raised Resuming c = omega arith
total_raised Closing c = omega arith
total_raised Keying c = omega arith
total_raised Cancelling c = omega arith
total_raised LeaseEnding c = omega arith
total_raised HangUp c = omega arith
total_raised Reconnecting c = omega arith

-- the counts that others depend on, and the numbers of the book that depend on them
abbrev pub telling : Counts → ℕ × ℕ × ℕ × ℕ × ℕ
telling c = (c.arrived, c.granted, c.given_back, c.lost, c.starts_failed)

abbrev told : Book → ℕ × ℕ × ℕ × ℕ × ℕ × ℕ × ℕ × ℕ
told b = (b.decisions, b.next_client, b.next_link, b.starts, b.reuses, b.evictions, b.losses, length b.lent)

-- an event that none of these speak of
pub counts_stay : (k : Kind) (b n : Book) → n.counts ≡ b.counts → telling (raised k n.counts) ≡ telling b.counts → told n ≡ told b → KeptCounts b → KeptCounts (counted n (Some k))
counts_stay k b n e t o h = record {
  all = total_raised k n.counts ∙ ap suc (ap total e ∙ (h.all ∙ sym (ap (λ v. v.0) o)));
  clients = omega (arith, h.clients, ap (λ v. v.0) t, ap (λ v. v.1) o);
  links = omega (arith, h.links, ap (λ v. v.2) o, ap (λ v. v.3) o);
  grants = omega (arith, h.grants, ap (λ v. v.1) t, ap (λ v. v.3) o, ap (λ v. v.4) o);
  evicted = omega (arith, h.evicted, ap (λ v. v.5) o, ap (λ v. v.3) o);
  losses = omega (arith, h.losses, ap (λ v. v.3) t, ap (λ v. v.4) t, ap (λ v. v.6) o);
  lent = omega (arith, h.lent, ap (λ v. v.1) t, ap (λ v. v.2) t, ap (λ v. v.6) o, ap (λ v. v.7) o);
}

pub arrival_counts : (b : Book) (cs : List Client) → KeptCounts b → KeptCounts (counted (record b { clients = cs; next_client = suc b.next_client }) (Some Arrival))
arrival_counts b cs h = record {
  all = total_raised Arrival b.counts ∙ ap suc h.all;
  clients = ap suc h.clients;
  links = h.links;
  grants = h.grants;
  evicted = h.evicted;
  losses = h.losses;
  lent = h.lent;
}

pub start_counts : (b : Book) (t : Ticket) (idle : List Link) (evicted : Option ℕ) (evictions : ℕ) → evictions ≤ suc b.evictions → KeptCounts b → KeptCounts (counted (starts (record b { evictions = evictions }) t idle evicted).book (Some Grant))
start_counts b t idle evicted evictions l h = record {
  all = total_raised Grant b.counts ∙ ap suc h.all;
  clients = h.clients;
  links = ap suc h.links;
  grants = omega (arith, h.grants);
  evicted = omega (arith, l, h.evicted);
  losses = h.losses;
  lent = omega (arith, h.lent, length_push b.lent (record { number = b.next_link; key = t.key; started_at = b.clock; since = b.clock }));
}

pub reuse_counts : (b : Book) (t : Ticket) (link : Link) → KeptCounts b → KeptCounts (counted (lends b t link).book (Some Grant))
reuse_counts b t link h = record {
  all = total_raised Grant b.counts ∙ ap suc h.all;
  clients = h.clients;
  links = h.links;
  grants = omega (arith, h.grants);
  evicted = h.evicted;
  losses = h.losses;
  lent = omega (arith, h.lent, length_push b.lent link);
}

-- a lent link goes: one of the list
one_lent_less : (n : ℕ) (links : List Link) → count_by (is_link n) links ≡ 1 → suc (length (without n links)) ≡ length links
one_lent_less n links one = omega (arith, one, length_left (is_link n) links)

pub return_counts : (b : Book) (n : ℕ) (idle : List Link) → count_by (is_link n) b.lent ≡ 1 → KeptCounts b → KeptCounts (counted (record (loses b n) { idle = idle }) (Some Return))
return_counts b n idle one h = record {
  all = total_raised Return b.counts ∙ ap suc h.all;
  clients = h.clients;
  links = h.links;
  grants = h.grants;
  evicted = h.evicted;
  losses = h.losses;
  lent = omega (arith, h.lent, one_lent_less n b.lent one);
}

pub loss_counts : (b : Book) (n : ℕ) → count_by (is_link n) b.lent ≡ 1 → KeptCounts b → KeptCounts (counted (record (loses b n) { losses = suc b.losses }) (Some Loss))
loss_counts b n one h = record {
  all = total_raised Loss b.counts ∙ ap suc h.all;
  clients = h.clients;
  links = h.links;
  grants = h.grants;
  evicted = h.evicted;
  losses = omega (arith, h.losses);
  lent = omega (arith, h.lent, one_lent_less n b.lent one);
}

pub failure_counts : (b : Book) (n : ℕ) → count_by (is_link n) b.lent ≡ 1 → KeptCounts b → KeptCounts (counted (record (loses b n) { losses = suc b.losses }) (Some FailedStart))
failure_counts b n one h = record {
  all = total_raised FailedStart b.counts ∙ ap suc h.all;
  clients = h.clients;
  links = h.links;
  grants = h.grants;
  evicted = h.evicted;
  losses = omega (arith, h.losses);
  lent = omega (arith, h.lent, one_lent_less n b.lent one);
}

-- no number of the book goes beyond its decisions
pub record Within (b : Book) : Type 0 where
  pub starts : b.starts ≤ b.decisions
  pub reuses : b.reuses ≤ b.decisions
  pub evictions : b.evictions ≤ b.decisions
  pub losses : b.losses ≤ b.decisions
  pub clients : b.next_client ≤ suc b.decisions
  pub links : b.next_link ≤ suc b.decisions

pub numbers_fit : (b : Book) → KeptCounts b → Within b
numbers_fit b h = record {
  starts = omega (arith, granted, h.grants);
  reuses = omega (arith, granted, h.grants);
  evictions = omega (arith, granted, h.grants, h.evicted);
  losses = omega (arith, h.losses, lost);
  clients = omega (arith, h.clients, arrived);
  links = omega (arith, granted, h.grants, h.links);
}
  where
    granted : b.counts.granted ≤ b.decisions
    granted = omega (arith, h.all)

    lost : b.counts.lost + b.counts.starts_failed ≤ b.decisions
    lost = omega (arith, h.all)

    arrived : b.counts.arrived ≤ b.decisions
    arrived = omega (arith, h.all)
