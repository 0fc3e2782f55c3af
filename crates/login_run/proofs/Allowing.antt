-- What a client was given in its login is allowed.
use Rattle.std.proofs.Common.{◌≡◌, inl, inr, ℕ, Bool, true, List, [], ◌++◌, take, drop, sym, ap, ◌∙◌, subst, append_assoc, append-nil, take-append-drop, take_all, arith}
use Rattle.std.proofs.lemmas.Grind.{flat_map-append}
use Rattle.message_view.specs.declared.refusal.Refusal.{Refusal}
use Rattle.message_view.specs.Refusals.{Begins, joined_pieces, refusal}
use Rattle.session_values.specs.State.{Address, CatalogueOf, StartKeyOf, address_of}
use Rattle.login_core.specs.Talk.End.{Passed as PassedWith}
use Rattle.login_core.specs.Dialogue.{Dialogue, ToLink, login_among}
use Rattle.login_core.specs.Laws.{LoginIsOfItsRow}
use Rattle.login_core.specs.Logins.{LoginView, rows_of}
use Rattle.login_core.specs.Solo.{after_in, service_pieces}
use Rattle.login_run.specs.declared.login_reply.LoginReply.{LoginReply}
use Rattle.login_run.specs.declared.login_reply.LoginReply.TheVariants as said
use Rattle.login_run.specs.Runs.{PhaseOf, Passed, RunView, said_bytes, said_pieces, IsPiece, IsBegun, HasEnded, IsCutOff, StandsAt, Runs, Awaits}
use Rattle.login_run.specs.Laws.{own, AllowedBy, CancellingRunsHaveAsked, IsRefusedByLogin, RunsAreAllowed, RunsStandAtPieces, PassedRunsAreLetIn, PassedRunsHavePassed}
use Rattle.login_run.proofs.Running.{joined_said, settled, stands_begun, stands_cut}

joined_both : (ps qs : List (List ℕ)) → joined_pieces (ps ++ qs) ≡ joined_pieces ps ++ joined_pieces qs
joined_both ps qs = flat_map-append (λ (p : List ℕ). p) ps qs

-- the pieces, as the login under all rows says them, and what follows them
own_by : LoginIsOfItsRow → (catalogue : Address → CatalogueOf) (v : LoginView) (marks : List Bool) (bytes : List ℕ) → own catalogue v marks bytes ≡ (login_among (rows_of v) v.word bytes).pieces ++ after_in catalogue v.word marks (login_among (rows_of v) v.word bytes).ended
own_by law catalogue v marks bytes = ap (λ (d : Dialogue). d.pieces ++ after_in catalogue v.word marks d.ended) (sym (law (rows_of v) v.word bytes))

-- these are the first pieces
record Continues (pieces all : List (List ℕ)) : Type 0 where
  more : List (List ℕ)
  all_is : all ≡ pieces ++ more

begun_own : LoginIsOfItsRow → (catalogue : Address → CatalogueOf) (v : LoginView) (marks : List Bool) (bytes : List ℕ) (pieces : List (List ℕ)) → IsBegun (rows_of v) v.word bytes pieces → Continues pieces (own catalogue v marks bytes)
begun_own law catalogue v marks bytes pieces b =
    let x = b [] in
    let d : Dialogue = login_among (rows_of v) v.word bytes in
    record {
      more = x.0 ++ after_in catalogue v.word marks d.ended;
      all_is = own_by law catalogue v marks bytes
          ∙ (ap (λ (ps : List (List ℕ)). ps ++ after_in catalogue v.word marks d.ended) (ap (λ (l : List ℕ). (login_among (rows_of v) v.word l).pieces) (sym (append-nil bytes)) ∙ sym x.1)
          ∙ append_assoc pieces x.0 (after_in catalogue v.word marks d.ended));
    }

-- a part of the last piece
part_allowed : (given : List ℕ) (done : List (List ℕ)) (s : LoginReply) (sent : ℕ) (all : List (List ℕ)) → IsPiece s → given ≡ joined_pieces done ++ take sent (said_bytes s) → Continues (done ++ said_pieces s) all → Begins given (joined_pieces all)
part_allowed given done s sent all p g c = record {
  more = drop sent (said_bytes s) ++ joined_pieces c.more;
  both =
      ap (λ (l : List ℕ). l ++ (drop sent (said_bytes s) ++ joined_pieces c.more)) g
      ∙ (append_assoc (joined_pieces done) (take sent (said_bytes s)) (drop sent (said_bytes s) ++ joined_pieces c.more)
      ∙ (ap (λ (l : List ℕ). joined_pieces done ++ l) (sym (append_assoc (take sent (said_bytes s)) (drop sent (said_bytes s)) (joined_pieces c.more)) ∙ ap (λ (l : List ℕ). l ++ joined_pieces c.more) (take-append-drop sent (said_bytes s) ∙ sym (joined_said s p)))
      ∙ (sym (append_assoc (joined_pieces done) (joined_pieces (said_pieces s)) (joined_pieces c.more))
      ∙ (ap (λ (l : List ℕ). l ++ joined_pieces c.more) (sym (joined_both done (said_pieces s)))
      ∙ (sym (joined_both (done ++ said_pieces s) c.more) ∙ ap joined_pieces (sym c.all_is))))));
}

-- or of a refusal
refusal_allowed : (cause : Refusal → Type 0) (given : List ℕ) (done : List (List ℕ)) (r : Refusal) (sent : ℕ) (all : List (List ℕ)) → given ≡ joined_pieces done ++ take sent (refusal r) → Continues (done ++ []) all → cause r → AllowedBy cause given all
refusal_allowed cause given done r sent all g c h = inr (
  record {
    given = done;
    kept = c.more;
    pieces_are = ap (λ (ps : List (List ℕ)). ps ++ c.more) (sym (append-nil done)) ∙ sym c.all_is;
    cause = r;
    last = take sent (refusal r);
    begins = record { more = drop sent (refusal r); both = take-append-drop sent (refusal r) };
    out_is = g;
  },
  h,
)

-- the cause of a refusal that was said
refused_by : (v : LoginView) (taken : List ℕ) (pieces : List (List ℕ)) (r : Refusal) → IsCutOff (rows_of v) v.word taken pieces (said.Refusal r) → IsRefusedByLogin v taken r
refused_by v taken pieces r (inl h) = inl (ap (λ (l : List ℕ). (login_among (rows_of v) v.word l).ended) (sym (append-nil taken)) ∙ ap (λ (d : Dialogue). d.ended) (h []))
refused_by v taken pieces r (inr h) = inr h.0

said_allowed : (v : LoginView) (taken given : List ℕ) (done : List (List ℕ)) (s : LoginReply) (sent : ℕ) (all : List (List ℕ)) → given ≡ joined_pieces done ++ take sent (said_bytes s) → Continues (done ++ said_pieces s) all → IsCutOff (rows_of v) v.word taken (done ++ said_pieces s) s
    → AllowedBy (IsRefusedByLogin v taken) given all
said_allowed v taken given done said.Nothing sent all g c h = inl (part_allowed given done said.Nothing sent all tt g c)
said_allowed v taken given done (said.Question q) sent all g c h = inl (part_allowed given done (said.Question q) sent all tt g c)
said_allowed v taken given done (said.LetIn told) sent all g c h = inl (part_allowed given done (said.LetIn told) sent all tt g c)
said_allowed v taken given done (said.Proof told) sent all g c h = inl (part_allowed given done (said.Proof told) sent all tt g c)
said_allowed v taken given done (said.Failure f) sent all g c h = inl (part_allowed given done (said.Failure f) sent all tt g c)
said_allowed v taken given done (said.Refusal r) sent all g c h = refusal_allowed (IsRefusedByLogin v taken) given done r sent all g c (refused_by v taken (done ++ []) r h)

continues : LoginIsOfItsRow → (v : RunView) (catalogue : Address → CatalogueOf) (marks : List Bool) (x : Runs v) → v.client.tells ≡ true → Continues (x.done ++ said_pieces v.said) (own catalogue v.login marks v.client.taken)
continues law v catalogue marks x t =
    subst (λ (l : List ℕ). Continues (x.done ++ said_pieces v.said) (own catalogue v.login marks l)) (sym (x.taken t))
    (begun_own law catalogue v.login marks x.heard (x.done ++ said_pieces v.said) (stands_begun v.phase v.said v.login x.heard (x.done ++ said_pieces v.said) x.stands))

cut_off : (v : RunView) (x : Runs v) → Awaits v.phase v.said v.login → v.client.tells ≡ true → IsCutOff (rows_of v.login) v.login.word v.client.taken (x.done ++ said_pieces v.said) v.said
cut_off v x a t =
    subst (λ (l : List ℕ). IsCutOff (rows_of v.login) v.login.word l (x.done ++ said_pieces v.said) v.said) (sym (x.taken t))
    (stands_cut v.phase v.said v.login x.heard (x.done ++ said_pieces v.said) a x.stands)

pub runs_allowed : LoginIsOfItsRow → RunsAreAllowed
runs_allowed law v catalogue marks x t = said_allowed v.login v.client.taken v.client.given x.2.done v.said v.sent (own catalogue v.login marks v.client.taken) (x.2.given t) (continues law v catalogue marks x.2 t) (cut_off v x.2 x.1 t)

pub runs_at_pieces : LoginIsOfItsRow → RunsStandAtPieces
runs_at_pieces law v catalogue marks x t p n =
    let c = continues law v catalogue marks x.2 t in
    record { given = x.2.done ++ said_pieces v.said; kept = c.more; pieces_are = sym c.all_is; out_is = settled v.client.given x.2.done v.said v.sent p n (x.2.given t) }

-- ---- a client that was let in

ended_of : (v : RunView) (key : StartKeyOf) (taken : List ℕ) (pieces : List (List ℕ)) → v.phase ≡ Passed key → StandsAt v.phase v.said v.login taken pieces → HasEnded (rows_of v.login) v.login.word taken pieces (λ more. PassedWith (ToLink key) more)
ended_of v key taken pieces e h = subst (λ (p : PhaseOf). StandsAt p v.said v.login taken pieces) e h

-- the same of the bytes that were taken
taken_ended : (v : RunView) (key : StartKeyOf) (x : Runs v) → v.phase ≡ Passed key → v.client.tells ≡ true → HasEnded (rows_of v.login) v.login.word v.client.taken (x.done ++ said_pieces v.said) (λ more. PassedWith (ToLink key) more)
taken_ended v key x e t =
    subst (λ (l : List ℕ). HasEnded (rows_of v.login) v.login.word l (x.done ++ said_pieces v.said) (λ more. PassedWith (ToLink key) more)) (sym (x.taken t))
    (ended_of v key x.heard (x.done ++ said_pieces v.said) e x.stands)

own_passed : LoginIsOfItsRow → (catalogue : Address → CatalogueOf) (v : LoginView) (key : StartKeyOf) (marks : List Bool) (bytes : List ℕ) (pieces : List (List ℕ)) (left : List ℕ) → login_among (rows_of v) v.word bytes ≡ record { pieces = pieces; ended = PassedWith (ToLink key) left }
    → own catalogue v marks bytes ≡ pieces ++ service_pieces (catalogue (address_of key)) key v.word marks left
own_passed law catalogue v key marks bytes pieces left e = own_by law catalogue v marks bytes ∙ ap (λ (d : Dialogue). d.pieces ++ after_in catalogue v.word marks d.ended) e

pub passed_let_in : LoginIsOfItsRow → PassedRunsAreLetIn
passed_let_in law v catalogue key x t e n =
    let p : IsPiece v.said = (subst (λ (q : PhaseOf). Awaits q v.said v.login) e x.1).0 in
    let h = taken_ended v key x.2 e t in
    record {
      pieces = x.2.done ++ said_pieces v.said;
      given = settled v.client.given x.2.done v.said v.sent p n (x.2.given t);
      passed = λ more. ap (λ (d : Dialogue). d.ended) (h more);
      owed = λ marks more. own_passed law catalogue v.login key marks (v.client.taken ++ more) (x.2.done ++ said_pieces v.said) more (h more);
    }

pub passed_passed : PassedRunsHavePassed
passed_passed v key x e =
    let h = ended_of v key x.2.heard (x.2.done ++ said_pieces v.said) e x.2.stands in
    (x.2.heard ++ [], ap (λ (d : Dialogue). d.ended) (h []))

-- ---- a client that asks to cancel

-- nothing was said last, so all of it was given
none_left : (given : List ℕ) (done : List (List ℕ)) (s : LoginReply) (sent : ℕ) → s ≡ said.Nothing → given ≡ joined_pieces done ++ take sent (said_bytes s) → given ≡ joined_pieces (done ++ said_pieces s)
none_left given done s sent n g =
    g ∙ (ap (λ (r : LoginReply). joined_pieces done ++ take sent (said_bytes r)) n ∙ (ap (λ (l : List ℕ). joined_pieces done ++ l) (none_of sent) ∙ (append-nil (joined_pieces done)
    ∙ (ap joined_pieces (sym (append-nil done)) ∙ ap (λ (r : LoginReply). joined_pieces (done ++ said_pieces r)) (sym n)))))
  where
    none_of : (n : ℕ) → take {A = ℕ} n [] ≡ []
    none_of n = take_all {A = ℕ} n [] (omega arith)

pub cancelling_asked : CancellingRunsHaveAsked
cancelling_asked v key x e = record {
  heard = x.2.heard;
  pieces = x.2.done ++ said_pieces v.said;
  asked = subst (λ (p : PhaseOf). StandsAt p v.said v.login x.2.heard (x.2.done ++ said_pieces v.said)) e x.2.stands;
  taken = x.2.taken;
  given = λ tells. none_left v.client.given x.2.done v.said v.sent (subst (λ (p : PhaseOf). Awaits p v.said v.login) e x.1) (x.2.given tells);
}
