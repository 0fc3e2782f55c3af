-- A stand-in server that asks for nothing can be started.
use Rattle.std.proofs.Common.{◌≡◌, ℕ, List, Option, refl, sym, subst}
use Rattle.message_view.specs.Reading.{authentication_of, int32_at}
use Rattle.session_values.specs.Lawful.{IsLawfulCatalogue}
use Rattle.credentials.specs.Credentials.{CredentialOf}
use Rattle.link_model.specs.Stages.{Server, let_in, no_auth}
use Rattle.memory_ends.specs.Servers.{ServerOf, new_server}
use Rattle.link_start.specs.declared.start_reply.StartProgress.TheVariants.{Nothing, LetIn}
use Rattle.link_start.specs.StartReply.{heard_by}
use Rattle.link_start.specs.Starts.{IsStartable}

trusts : (c : CredentialOf) → heard_by c Nothing let_in ≡ LetIn
unfolding authentication_of int32_at
trusts c = refl

pub startable : (credential : CredentialOf) (user : List ℕ) (v : Server) (cut : ℕ) (left : Option ℕ) (s : ServerOf) → IsLawfulCatalogue v.catalogue → s ≡ new_server v no_auth cut left → IsStartable credential user s.standing
startable credential user v cut left s c e = subst (λ (x : ServerOf). IsStartable credential user x.standing) (sym e) (record {
  is_new = record { stage = refl; inbox = refl; outbox = refl; lawful = c };
  in_frame = (tt, tt);
  questions = trusts credential;
})
