-- What was given, once the last word was told.
use Rattle.std.proofs.Common.{◌≡◌, inl, inr, ℕ, Bool, true, List, [], ◌++◌, take, drop, refl, sym, ap, ◌∙◌, subst, arith, append_assoc, append-nil, take_all, take-append-drop}
use Rattle.std.proofs.lemmas.Grind.{flat_map-append}
use Rattle.message_view.specs.Refusals.{joined_pieces, refusal}
use Rattle.session_values.specs.State.{Address, CatalogueOf}
use Rattle.link_model.specs.Standing.{ClientFacts}
use Rattle.link_desk.specs.Passes.{PassOf}
use Rattle.login_core.specs.Logins.{LoginView}
use Rattle.login_run.specs.Laws.{AllowedBy, IsRefusedByLogin, own}
use Rattle.pool_serve.specs.FinalMessages.{HasGiven, last_bytes}
use Rattle.pool_serve.specs.Causes.{AtArrival, HasCause, IsFaultyWord, WordHasTrace}
use Rattle.link_desk.specs.Homes.{HomeOf}
use Rattle.pool_serve.specs.Serving.{IsServed, IsServedUnder, MayEnd, Serves}
use Rattle.pool_serve.specs.Stays.{IsAllowed, MayHaveAskedAgain}
use Rattle.pool_serve.specs.declared.final_message.FinalMessage.{FinalMessage}
use Rattle.pool_serve.specs.declared.final_message.FinalMessage.TheVariants as last

by_login : (v : LoginView) (p q : PassOf) (taken out : List ℕ) (pieces : List (List ℕ)) → AllowedBy (IsRefusedByLogin v taken) out pieces → AllowedBy (HasCause v taken p q) out pieces
by_login v p q taken out pieces (inl b) = inl b
by_login v p q taken out pieces (inr x) = inr (x.0, inl x.1)

-- a client that was told nothing more
pub untold_client : (home : HomeOf) (v : LoginView) (c : ClientFacts) (p q : PassOf) → IsServed home v c last.Nothing → IsAllowed home v p q c
untold_client home v c p q a = record { last = p; again = inl refl; marks = a.0; are_marks = a.1.0; allowed = by_login v p q c.taken c.given (own home.catalogue v a.0 c.taken) a.1.1 }

-- a beginning of the last word behind what was given
told_allowed : (catalogue : Address → CatalogueOf) (v : LoginView) (c : ClientFacts) (p q : PassOf) (marks : List Bool) (word : FinalMessage) (n : ℕ) → WordHasTrace AtArrival p q word → IsServedUnder marks catalogue v c word
    → AllowedBy (HasCause v c.taken p q) (c.given ++ take n (last_bytes word)) (own catalogue v marks c.taken)
told_allowed catalogue v c p q marks last.Nothing n w a =
    subst (λ (l : List ℕ). AllowedBy (HasCause v c.taken p q) l (own catalogue v marks c.taken)) (sym (ap (λ (l : List ℕ). c.given ++ l) (take_all n [] (omega arith)) ∙ append-nil c.given)) (by_login v p q c.taken c.given (own catalogue v marks c.taken) a)
told_allowed catalogue v c p q marks (last.Refusal r) n w a = inr (
  record {
    given = a.0.given;
    kept = a.0.kept;
    pieces_are = a.0.pieces_are;
    cause = r;
    last = take n (refusal r);
    begins = record { more = drop n (refusal r); both = take-append-drop n (refusal r) };
    out_is = ap (λ (l : List ℕ). l ++ take n (refusal r)) a.0.out_is;
  },
  inr (w, a.1),
)
told_allowed catalogue v c p q marks (last.Error error) n w a = inl (record {
  more = drop n error ++ a.more;
  both =
      append_assoc c.given (take n error) (drop n error ++ a.more)
      ∙ (ap (λ (l : List ℕ). c.given ++ l) (sym (append_assoc (take n error) (drop n error) a.more) ∙ ap (λ (l : List ℕ). l ++ a.more) (take-append-drop n error))
      ∙ (sym (append_assoc c.given error a.more) ∙ a.both));
})

-- a client that was told its last word, from where it asked last
pub told_client : (home : HomeOf) (v : LoginView) (before after : ClientFacts) (p q since : PassOf) (word : FinalMessage) → MayHaveAskedAgain home v p since → HasGiven before after (last_bytes word) → before.tells ≡ true → WordHasTrace AtArrival since q word → IsServed home v before word → IsAllowed home v p q after
told_client home v before after p q since word again h t w a = record {
  last = since;
  again = again;
  marks = a.0;
  are_marks = a.1.0;
  allowed = subst (λ (l : List ℕ). AllowedBy (HasCause v after.taken since q) l (own home.catalogue v a.0 after.taken)) (sym (h.given t))
      (subst (λ (l : List ℕ). AllowedBy (HasCause v l since q) (before.given ++ take h.count (last_bytes word)) (own home.catalogue v a.0 l)) (sym (h.taken t)) (told_allowed home.catalogue v before since q a.0 word h.count w a.1.1));
}

-- ---- a login's pieces, and then what is owed behind them

joined_both : (ps qs : List (List ℕ)) → joined_pieces (ps ++ qs) ≡ joined_pieces ps ++ joined_pieces qs
joined_both ps qs = flat_map-append (λ (p : List ℕ). p) ps qs

pub behind : (ps qs : List (List ℕ)) (out more : List ℕ) (word : FinalMessage) → out ≡ joined_pieces ps ++ more → MayEnd more qs word → MayEnd out (ps ++ qs) word
behind ps qs out more last.Nothing e m = record {
  more = m.more;
  both = ap (λ (o : List ℕ). o ++ m.more) e ∙ (append_assoc (joined_pieces ps) more m.more ∙ (ap (λ (l : List ℕ). joined_pieces ps ++ l) m.both ∙ sym (joined_both ps qs)));
}
behind ps qs out more (last.Refusal r) e m = record {
  given = ps ++ m.given;
  kept = m.kept;
  pieces_are = append_assoc ps m.given m.kept ∙ ap (λ (l : List (List ℕ)). ps ++ l) m.pieces_are;
  out_is = e ∙ (ap (λ (l : List ℕ). joined_pieces ps ++ l) m.out_is ∙ sym (joined_both ps m.given));
}
behind ps qs out more (last.Error error) e m = record {
  more = m.more;
  both =
      ap (λ (l : List ℕ). (l ++ error) ++ m.more) e
      ∙ (ap (λ (l : List ℕ). l ++ m.more) (append_assoc (joined_pieces ps) more error)
      ∙ (append_assoc (joined_pieces ps) (more ++ error) m.more ∙ (ap (λ (l : List ℕ). joined_pieces ps ++ l) m.both ∙ sym (joined_both ps qs))));
}

-- ---- where nothing was taken or given since

pub nothing_more : (limit : ℕ) (strikable : Bool) (c : ClientFacts) (owed : List Bool → List ℕ → List (List ℕ)) (word : FinalMessage) → IsFaultyWord limit [] word → MayEnd [] (owed [] []) word → Serves limit strikable c c owed word
nothing_more limit strikable c owed word f m = record { marks = []; are_marks = λ e. refl; took = []; gave = []; taken = sym (append-nil c.taken); given = sym (append-nil c.given); ends = m; fault = f }

pub none_ends : (pieces : List (List ℕ)) → MayEnd [] pieces last.Nothing
none_ends pieces = record { more = joined_pieces pieces; both = refl }

pub refusal_ends : (pieces : List (List ℕ)) (r : _) → MayEnd [] pieces (last.Refusal r)
refusal_ends pieces r = record { given = []; kept = pieces; pieces_are = refl; out_is = refl }
