-- The server's key, as the welcome of a session tells it.
use Rattle.std.proofs.Common.{◌≡◌, ℕ, ◌^◌, ◌<◌, List, [], ◌∷◌, ◌++◌, refl, sym, ap, ◌∙◌, append-nil, Result, Ok, Err, Option, Some, None}
use Rattle.frame_view.specs.Frames.{FrameOf}
use Rattle.message_view.specs.declared.ViewError.{ViewError}
use Rattle.message_view.specs.declared.kinds.TheConstants.{IDLE}
use Rattle.message_view.specs.declared.views.KeyView.{KeyView}
use Rattle.message_view.specs.Bodies.{int32}
use Rattle.message_view.specs.Messages.{backend_key_data, ready_for_query}
use Rattle.message_view.specs.Reading.{alone, int32_at, key_at, key_of}
use Rattle.message_laws.proofs.PartTrips.{key_reads}
use Rattle.session_values.specs.declared.parameter.Parameter.{Parameter}
use Rattle.session_values.specs.Parameters.{reported_parameters}
use Rattle.session_values.specs.State.{State, all_reports_from}
use Rattle.session_values.specs.Service.{welcome}
use Rattle.start_keys.specs.StartPairs.{Text}
use Rattle.link_model.specs.Stages.{Server}
use Rattle.link_run.specs.Dialogues.{TellsKey, key_read, keyed_next, keyed_all}
use Rattle.link_start.specs.Starts.{IsOwnKey}

-- a BackendKeyData can be read
some_key : (pid secret : ℕ) → (k : ℕ × ℕ) × (key_of (backend_key_data pid secret).body ≡ Ok k)
unfolding key_of int32_at
some_key pid secret = (_, refl)

-- where its words fit their fields, they are read again
same_key : (pid secret : ℕ) → pid < 2 ^ 32 → secret < 2 ^ 32 → key_of (backend_key_data pid secret).body ≡ Ok (pid, secret)
unfolding key_of
same_key pid secret p s = ap alone (ap key_at (sym (append-nil (int32 pid ++ int32 secret))) ∙ key_reads (pid, secret) [] (p, s))

-- no report tells it
reports_tell_none : (ps : List Parameter) (vs : List Text) (more : List FrameOf) → keyed_all None (all_reports_from ps vs ++ more) ≡ keyed_all None more
reports_tell_none [] vs more = refl
reports_tell_none (p ∷ ps) [] more = refl
reports_tell_none (p ∷ ps) (v ∷ vs) more = reports_tell_none ps vs more

-- the key that is told, and that it is the server's own
pub record TellsOwnKey (v : Server) (replies : List FrameOf) : Type 0 where
  pub key : Option KeyView
  pub told : TellsKey replies key
  pub own : IsOwnKey v key

key_in : Result (ℕ × ℕ) ViewError → Option KeyView
key_in (Ok k) = Some (record { pid = k.0; secret = k.1 })
key_in (Err fault) = None

pub welcome_tells_key : (v : Server) (s : State) → TellsOwnKey v (welcome s v.pid v.secret)
unfolding key_in
welcome_tells_key v s =
    let k = some_key v.pid v.secret in
    record {
      key = Some (record { pid = k.0.0; secret = k.0.1 });
      told = reports_tell_none reported_parameters s.reported (backend_key_data v.pid v.secret ∷ ready_for_query IDLE ∷ [])
          ∙ ap (λ (r : Result (ℕ × ℕ) ViewError). keyed_next (key_read r) (λ key. keyed_all key (ready_for_query IDLE ∷ []))) k.1;
      own = λ p q. ap key_in (sym k.1 ∙ same_key v.pid v.secret p q);
    }

-- frames before it that tell no key
pub behind_none : (v : Server) (f : FrameOf) (replies : List FrameOf) → keyed_all None (f ∷ replies) ≡ keyed_all None replies → TellsOwnKey v replies → TellsOwnKey v (f ∷ replies)
behind_none v f replies e x = record { key = x.key; told = e ∙ x.told; own = x.own }
