-- What may be given to a client at a piece's end.
use Rattle.std.proofs.Common.{◌≡◌, inl, inr, ℕ, List, [], ◌∷◌, ◌++◌, sym, ap, ◌∙◌, append_assoc, append-nil, subst}
use Rattle.std.proofs.lemmas.Grind.{flat_map-append}
use Rattle.message_view.specs.declared.KeyWord.{KeyWord}
use Rattle.message_view.specs.declared.refusal.Refusal.{Refusal}
use Rattle.message_view.specs.Refusals.{Allowed, joined_pieces, refusal}
use Rattle.session_values.specs.State.{StartKeyOf}
use Rattle.login_core.specs.Talk.End.{Passed}
use Rattle.login_core.specs.Dialogue.{Dialogue, ToLink, login_among}
use Rattle.login_core.specs.Solo.{after_login, service_pieces}
use Rattle.login_core.proofs.Owning.{its_row}
use Rattle.act_client.specs.Acts.{Sender}
use Rattle.act_client.specs.Clients.{ActClientOf, given_more}
use Rattle.memory_pool.specs.MemoryPools.{MemoryPoolOf}
use Rattle.play.specs.Players.{IsAtPiece, IsDone, own, rows_of, word_of}

pub joined_both : (ps qs : List (List ℕ)) → joined_pieces (ps ++ qs) ≡ joined_pieces ps ++ joined_pieces qs
joined_both ps qs = flat_map-append (λ (p : List ℕ). p) ps qs

-- a piece more
pub joined_one : (ps : List (List ℕ)) (p : List ℕ) → joined_pieces ps ++ p ≡ joined_pieces (ps ++ p ∷ [])
joined_one ps p = sym (joined_both ps (p ∷ []) ∙ ap (λ (l : List ℕ). joined_pieces ps ++ l) (append-nil p))

-- what its own server answers, by what the login says
pub own_is : (h : MemoryPoolOf) (word : KeyWord) (bytes : List ℕ) (d : Dialogue) → login_among (rows_of h) word bytes ≡ d → own h word bytes ≡ d.pieces ++ after_login h.catalogue word [] d.ended
own_is h word bytes d e = ap (λ (x : Dialogue). x.pieces ++ after_login h.catalogue word [] x.ended) (sym (its_row (rows_of h) word bytes) ∙ e)

-- some first pieces of the login
pub login_piece : (h : MemoryPoolOf) (word : KeyWord) (c : ActClientOf) (d : Dialogue) (pieces rest : List (List ℕ)) → login_among (rows_of h) word c.input ≡ d → pieces ++ rest ≡ d.pieces → c.given ≡ joined_pieces pieces → IsAtPiece h word c
login_piece h word c d pieces rest e p g = record {
  pieces = pieces;
  kept = rest ++ after_login h.catalogue word [] d.ended;
  pieces_are = sym (append_assoc pieces rest (after_login h.catalogue word [] d.ended)) ∙ (ap (λ (l : List (List ℕ)). l ++ after_login h.catalogue word [] d.ended) p ∙ sym (own_is h word c.input d e));
  given = g;
}

-- all of the login's, and some first of the service's
pub service_piece : (h : MemoryPoolOf) (word : KeyWord) (c : ActClientOf) (key : StartKeyOf) (pieces some kept : List (List ℕ)) (left : List ℕ) → login_among (rows_of h) word c.input ≡ record { pieces = pieces; ended = Passed (ToLink key) left }
    → some ++ kept ≡ service_pieces h.catalogue key word [] left → c.given ≡ joined_pieces (pieces ++ some) → IsAtPiece h word c
service_piece h word c key pieces some kept left e p g = record {
  pieces = pieces ++ some;
  kept = kept;
  pieces_are = append_assoc pieces some kept ∙ (ap (λ (l : List (List ℕ)). pieces ++ l) p ∙ sym (own_is h word c.input (record { pieces = pieces; ended = Passed (ToLink key) left }) e));
  given = g;
}

-- ---- there it may stop, or be refused

pub piece_done : (h : MemoryPoolOf) (word : KeyWord) (c : ActClientOf) → IsAtPiece h word c → IsDone h word c
piece_done h word c x = inl (record {
  more = joined_pieces x.kept;
  both = ap (λ (l : List ℕ). l ++ joined_pieces x.kept) x.given ∙ (sym (joined_both x.pieces x.kept) ∙ ap joined_pieces x.pieces_are);
})

pub refused_done : (h : MemoryPoolOf) (word : KeyWord) (c : ActClientOf) (r : Refusal) → IsAtPiece h word c → IsDone h word (given_more c (refusal r))
refused_done h word c r x = inr (record {
  given = x.pieces;
  kept = x.kept;
  pieces_are = x.pieces_are;
  cause = r;
  last = refusal r;
  begins = record { more = []; both = append-nil (refusal r) };
  out_is = ap (λ (l : List ℕ). l ++ refusal r) x.given;
})

-- at the end of a play
pub finished : (h : MemoryPoolOf) (s : Sender) (word : KeyWord) (c : ActClientOf) (out : List ℕ) → word ≡ word_of s.number → (c.input ≡ s.bytes) × IsDone h word c → out ≡ c.given → Allowed out (own h (word_of s.number) s.bytes)
finished h s word c out e d o =
    subst (λ (w : KeyWord). Allowed out (own h w s.bytes)) e
    (subst (λ (i : List ℕ). Allowed out (own h word i)) d.0 (subst (λ (g : List ℕ). Allowed g (own h word c.input)) (sym o) d.1))
