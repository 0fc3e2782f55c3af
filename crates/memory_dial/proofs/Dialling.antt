-- What is dialled in memory.
use Rattle.std.proofs.Common.{◌≡◌, ℕ, List, Option, Some, None, Result, Ok, Err, refl, sym, subst}
use Rattle.std.specs.Prelude.{IfOk, MatchOption}
use Rattle.std.specs.Result.{result_ok}
use Rattle.session_values.specs.Lawful.{IsLawfulCatalogue}
use Rattle.session_values.specs.State.{Address, StartKeyOf, address_of}
use Rattle.credentials.specs.Credentials.{CredentialOf}
use Rattle.link_model.specs.Stages.{Server, no_auth}
use Rattle.memory_ends.specs.declared.memory_server.ServerAuth.TheVariants.{Trust}
use Rattle.memory_ends.specs.Servers.{ServerOf, new_server}
use Rattle.memory_start_laws.specs.Starts.{MemoryServersCanStart}
use Rattle.link_desk.specs.Homes.{HomeOf, IsDialled}

-- a server that was just made, and asks for nothing
pub new_dialled : (home : HomeOf) (key : StartKeyOf) (credential : CredentialOf) (v : Server) (cut : ℕ) (s : ServerOf) → ((address : Address) → v.catalogue ≡ home.catalogue address) → v.strikable ≡ home.strikable → IsLawfulCatalogue v.catalogue → MemoryServersCanStart
    → s ≡ new_server v no_auth cut None → IsDialled home key credential s.standing
new_dialled home key credential v cut s c f lawful can e = subst (λ (x : ServerOf). IsDialled home key credential x.standing) (sym e) (record {
  start = can v Trust cut None lawful tt credential key.user;
  follows = λ _. refl;
  catalogue = λ _. c (address_of key);
  strikable = λ _. f;
  lets_in = λ _. refl;
})

pub some_or : {A E : Type 0} (N : Type 0) (P Q : A → Type 0) (r : Result A E) (o : Option A) → o ≡ result_ok r → IfOk r P → N → ((x : A) → P x → Q x) → MatchOption o N Q
some_or N P Q (Ok x) o e p n f = subst (λ (y : Option _). MatchOption y N Q) (sym e) (f x p)
some_or N P Q (Err y) o e p n f = subst (λ (z : Option _). MatchOption z N Q) (sym e) n
