-- What the steps make of a client and of a link, by name.
use Rattle.std.proofs.Common.{ℕ, Bool, List, [], ◌∷◌, ◌++◌, Some, None, false}
use Rattle.message_view.specs.declared.views.KeyView.{KeyView}
use Rattle.message_view.specs.Refusals.{joined_pieces}
use Rattle.session_values.specs.State.{StartKeyOf}
use Rattle.world_steps.specs.Clients.{Client, Phase}
use Rattle.world_steps.specs.Clients.Phase.{LoggingIn, Waiting, Finishing, Refusing}
use Rattle.world_steps.specs.Links.{Link, Role}

abbrev pub sends_bytes : Client → List ℕ → Client
sends_bytes x bytes = record x { sent = x.sent ++ bytes; unread = x.unread ++ bytes }

abbrev pub has_read : Client → List ℕ → List ℕ → List (List ℕ) → Client
has_read x read rest pieces = record x { phase = LoggingIn read; unread = rest; for_client = x.for_client ++ joined_pieces pieces }

abbrev pub has_passed : Client → StartKeyOf → List ℕ → Client
has_passed x key left = record x { phase = Waiting key; for_link = left }

abbrev pub in_phase : Client → Phase → Client
in_phase x phase = record x { phase = phase }

abbrev pub numbered : Client → ℕ → Client
numbered x n = record x { number = Some n }

abbrev pub gets_start_error : Client → List ℕ → Client
gets_start_error x piece = record x { phase = Finishing; for_client = x.for_client ++ piece }

abbrev pub in_role : Link → Role → Link
in_role y role = record y { role = role }

abbrev pub took_in : Client → List ℕ → List ℕ → Client
took_in x bytes rest = record x { unread = rest; for_link = x.for_link ++ bytes }

abbrev pub took_out : Client → List ℕ → List ℕ → Client
took_out x bytes rest = record x { for_client = rest; out = x.out ++ bytes }

abbrev pub forwarded : Client → List ℕ → Client
forwarded x rest = record x { for_link = rest }

abbrev pub link_gets : Link → List ℕ → Link
link_gets y bytes = record y { inbox = y.inbox ++ bytes; sent = y.sent ++ bytes }

abbrev pub link_gives : Link → List ℕ → List ℕ → Link
link_gives y bytes rest = record y { outbox = rest; received = y.received ++ bytes }

abbrev pub holds_more : Client → List ℕ → Client
holds_more x bytes = record x { for_client = x.for_client ++ bytes }

abbrev pub begins_refusal : Client → List ℕ → Client
begins_refusal x text = record x { phase = Refusing text; for_client = [] }

abbrev pub refused_more : Client → List ℕ → List ℕ → Client
refused_more x bytes rest = record x { phase = Refusing rest; refusal = x.refusal ++ bytes }

abbrev pub at_clean_point : Link → Role → Link
at_clean_point y role = record y { role = role; sent = []; received = []; struck = [] }

abbrev pub dies : Link → List ℕ → Link
dies y kept = record y { alive = false; outbox = kept }

-- a cancel came, or passed
abbrev pub due_for : Link → KeyView → Link
due_for y client = record y { due = Some client }

abbrev pub spared : Link → Link
spared y = record y { due = None }

abbrev pub noted : Client → Bool → Client
noted x mark = record x { struck = x.struck ++ mark ∷ [] }
