-- A server that asks for SCRAM-SHA-256 (RFC 5802, section 3; PostgreSQL manual, "SASL Authentication").
use Rattle.std.specs.Prelude.{◌≡◌, ℕ, true, List, [], ◌∷◌, Option, Some}
use Rattle.message_view.specs.Bodies.{Text}
use Rattle.credentials.specs.Credentials.{CredentialOf, first_response}
use Rattle.credentials.specs.Exchanges.{ExchangeOf, exchange_of}
use Rattle.session_values.specs.Lawful.{IsLawfulCatalogue}
use Rattle.session_values.specs.State.{StartKeyOf}
use Rattle.link_model.specs.Dialogues.{AsksInFrame}
use Rattle.link_model.specs.Stages.{Server as TheServer, Auth, Question, Round}
use Rattle.memory_ends.specs.Servers.{new_server}
use Rattle.link_run.specs.Dialogues.{offers_scram}
use Rattle.link_run.specs.declared.sasl.TheConstants.{ASKS_SASL, SASL_CONTINUES, SASL_ENDS}
use Rattle.link_start.specs.Starts.{CanStart, IsLetIn}

abbrev pub round : (kind : ℕ) → (more answer : Text) → Round
round kind more answer = record { question = record { kind = kind; more = more }; answer = answer }

abbrev pub tells : (kind : ℕ) → Text → Question
tells kind more = record { kind = kind; more = more }

-- It names its mechanisms; challenges whoever begins as this user does; and proves itself to who gives the answer that is right by its
-- own password.
abbrev pub asks_scram : CredentialOf → (names challenge : Text) → ExchangeOf → Auth
asks_scram c names challenge own = record {
  rounds = round ASKS_SASL names (first_response c).body ∷ (round SASL_CONTINUES challenge own.last ∷ []);
  told = tells SASL_ENDS own.proof ∷ [];
}

-- A new one can be started by this user, where SCRAM-SHA-256 is among its mechanisms, its challenge continues the user's nonce, and its
-- password is the user's own, or another by which another answer is right.
abbrev pub ScramServersCanStart : Type 0
ScramServersCanStart = (v : TheServer) (cut : ℕ) (left : Option ℕ) (c : CredentialOf) (user names challenge : Text) (own servers : ExchangeOf) → IsLawfulCatalogue v.catalogue → AsksInFrame (asks_scram c names challenge servers)
    → offers_scram names ≡ true → exchange_of c challenge ≡ Some own → (own.last ≡ servers.last → own.proof ≡ servers.proof) → CanStart c user (new_server v (asks_scram c names challenge servers) cut left).standing

-- And it lets the user in, where that is the user's own.
abbrev pub ScramServersLetIn : Type 0
ScramServersLetIn = (v : TheServer) (cut : ℕ) (left : Option ℕ) (c : CredentialOf) (names challenge : Text) (own : ExchangeOf) (key : StartKeyOf) → offers_scram names ≡ true → exchange_of c challenge ≡ Some own
    → IsLetIn (new_server v (asks_scram c names challenge own) cut left).standing key c
