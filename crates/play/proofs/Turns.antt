-- A turn of a login.
use Rattle.std.proofs.Common.{◌≡◌, ◌⊎◌, inl, inr, ℕ, zero, suc, ◌≤◌, List, [], ◌++◌, refl, sym, ◌∙◌, append-nil, subst, take, length, min, take_all}
use Rattle.std.proofs.lemmas.List.{take_min}
use Rattle.message_view.specs.declared.KeyWord.{KeyWord}
use Rattle.server_end.specs.declared.Moved.{Moved}
use Rattle.server_end.specs.declared.Moved.TheVariants.{Ended, Fault}
use Rattle.server_end.specs.Moves.{moved}
use Rattle.login_core.specs.declared.steps.LoginStep.{LoginStep}
use Rattle.login_core.specs.declared.steps.LoginStep.TheVariants as step
use Rattle.login_core.specs.Logins.{StepMeans, LoginView, Tells}
use Rattle.act_client.specs.Clients.{ActClientOf, SameGiven, taken}
use Rattle.memory_pool.specs.MemoryPools.{MemoryPoolOf}
use Rattle.play.specs.Players.{LogsIn, Steps}
use Rattle.play.proofs.Logins.{goes_arrived, takes}

-- all that was read is heard
heard_all : (l m : LoginView) (s : LoginStep) (b : List ℕ) (n : ℕ) → length b ≤ n → StepMeans l (take (min n (length b)) b) s m → StepMeans l b s m
heard_all l m s b n le x = subst (λ (t : List ℕ). StepMeans l t s m) (take_min n b ∙ take_all n b le) x

pub reads_on : (h : MemoryPoolOf) (word : KeyWord) (c d : ActClientOf) (s : LoginStep) (l m : LoginView) (b : List ℕ) (n used : ℕ) → LogsIn h word c l → taken d ≡ taken c ++ b → SameGiven c d → length b ≤ n → used ≡ min n (length b) → StepMeans l (take used b) s m → Steps h word d s m
reads_on h word c d s l m b n used x t g le u k = takes h word c d s l m b x t g.1 (heard_all l m s b n le (subst (λ (i : ℕ). StepMeans l (take i b) s m) u k))

-- nothing was read
pub stays : (h : MemoryPoolOf) (word : KeyWord) (c d : ActClientOf) (l : LoginView) → LogsIn h word c l → taken d ≡ taken c ++ [] → SameGiven c d → LogsIn h word d l
stays h word c d l x t g = record {
  settings = x.settings;
  users = x.users;
  word_is = x.word_is;
  pieces = x.pieces;
  tells = subst (λ (b : List ℕ). Tells l b x.pieces) (sym (t ∙ append-nil (taken c))) x.tells;
  given = g.1 ∙ x.given;
}

-- nor was where the end ended or faulted
pub over_stays : (h : MemoryPoolOf) (word : KeyWord) (c d : ActClientOf) (l : LoginView) (m : Moved) (b : List ℕ) → LogsIn h word c l → taken d ≡ taken c ++ moved m b → SameGiven c d → (m ≡ Ended) ⊎ (m ≡ Fault) → LogsIn h word d l
over_stays h word c d l m b x t g (inl e) = stays h word c d l x (subst (λ (k : Moved). taken d ≡ taken c ++ moved k b) e t) g
over_stays h word c d l m b x t g (inr e) = stays h word c d l x (subst (λ (k : Moved). taken d ≡ taken c ++ moved k b) e t) g

nothing : (n : ℕ) → ◌≡◌ {A = List ℕ} (take n []) []
nothing zero = refl
nothing (suc n) = refl

-- the login of a client that has arrived goes on
pub arrived_steps : (h : MemoryPoolOf) (word : KeyWord) (c : ActClientOf) (key : _) (s : LoginStep) (l m : LoginView) (n : ℕ) → Steps h word c (step.Arrived key) l → StepMeans l (take n []) s m → Steps h word c s m
arrived_steps h word c key s l m n x k = takes h word c c s l m [] (goes_arrived h word c key l x) (sym (append-nil (taken c))) refl (subst (λ (b : List ℕ). StepMeans l b s m) (nothing n) k)
