-- A link's server reads the pairs of its key again.
use Rattle.std.proofs.Common.{◌≡◌, ℕ, List, [], Result, Ok, refl, sym, ap, ◌∙◌, append-nil}
use Rattle.message_view.specs.declared.ViewError.{ViewError}
use Rattle.message_view.specs.Reading.{Part, alone, ended_at, pair_at, startup_of}
use Rattle.message_laws.proofs.EndTrips.{pairs_read}
use Rattle.session_run_laws.specs.declared.cause.Cause.{Cause}
use Rattle.session_run_laws.specs.Lawful.{IsLawfulKey}
use Rattle.session_run_laws.specs.State.{StartKeyOf, fresh, bound}
use Rattle.session_run_laws.proofs.SessionsByName.{fresh_by_names}
use Rattle.key_laws.specs.StartPairs.{Pair}
use Rattle.key_laws.specs.StubKeys.{stub}
use Rattle.key_laws.specs.Keys.{key_pairs}
use Rattle.key_laws.proofs.ByName.{key_pairs_fit, stubs_of_client_keys}
use Rattle.link_model.specs.Stages.{key_of}
use Rattle.link_model.specs.Starts.{start_body, StartsAreOfTheirKeys}

-- the pairs of a lawful key are read again
pairs-again : (key : StartKeyOf) → IsLawfulKey key → startup_of (start_body key) ≡ Ok (key_pairs key)
unfolding startup_of
pairs-again key k =
    ap (λ (b : List ℕ). alone (ended_at pair_at b)) (sym (append-nil (start_body key)))
    ∙ ap (λ (p : Part (List Pair)). alone p) (pairs_read (key_pairs key) [] (key_pairs_fit key k))

pub started-of : StartsAreOfTheirKeys
started-of cat key k d =
    ap (λ (r : Result (List Pair) ViewError). bound (key_of r) (λ x. fresh cat x)) (pairs-again key k.lawful)
    ∙ ap (λ (r : Result StartKeyOf Cause). bound r (λ x. fresh cat x)) (stubs_of_client_keys key k d)
    ∙ fresh_by_names cat (stub key.dbname key.user key.parameters) key refl refl
