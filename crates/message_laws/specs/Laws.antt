-- What is written is cut out and read again, and what is read is spelled so.
use Rattle.std.specs.Prelude.{◌≡◌, ℕ, ◌+◌, ◌^◌, ◌<◌, ◌≤◌, List, [], ◌∷◌, ◌++◌, length, Result, Ok, codes}
use Rattle.frame_view.specs.declared.Side.TheVariants.{Client, Server}
use Rattle.frame_view.specs.declared.first.TheConstants.{MAX_FIRST_PACKET}
use Rattle.frame_view.specs.Frames.{AreBytes, FrameOf, spelling, before, frames, Cancels, Start, AFirst, first_front}
use Rattle.message_view.specs.declared.kinds.TheConstants.{ASKS_NOTHING, ASKS_CLEARTEXT, ASKS_MD5, IDLE, IN_TRANSACTION, FAILED, STATEMENT, PORTAL, SEVERITY, SEVERITY_UNTRANSLATED, SQLSTATE, MESSAGE, TEXT_TYPE}
use Rattle.message_view.specs.declared.ViewError.{ViewError}
use Rattle.message_view.specs.Bodies.{Text, startup_body}
use Rattle.message_view.specs.Messages.{cancel_request, password_message, query, startup_message}

-- Numbers and letters inside bodies are these.
pub record NamesAreTheStandards : Type 0 where
  pub authentication : ASKS_NOTHING ∷ ASKS_CLEARTEXT ∷ ASKS_MD5 ∷ [] ≡ 0 ∷ 3 ∷ 5 ∷ []
  pub statuses : IDLE ∷ IN_TRANSACTION ∷ FAILED ∷ [] ≡ codes "ITE"
  pub targets : STATEMENT ∷ PORTAL ∷ [] ≡ codes "SP"
  pub fields : SEVERITY ∷ SEVERITY_UNTRANSLATED ∷ SQLSTATE ∷ MESSAGE ∷ [] ≡ codes "SVCM"
  pub text_type : TEXT_TYPE ≡ 25

-- Parts that fit are read again from the body that they spell, and a body is read as parts only
-- where they fit and spell it.
pub record IsReaderOf {A : Type 0} (read : List ℕ → Result A ViewError) (spell : A → List ℕ) (Fits : A → Type 0) : Type 0 where
  pub again : (parts : A) → Fits parts → read (spell parts) ≡ Ok parts
  pub only : (body : List ℕ) (parts : A) → AreBytes body → read body ≡ Ok parts → Fits parts × (body ≡ spell parts)

-- A server's frame is the first of the frames, whatever follows it, under a limit not below its length.
abbrev pub ServerFrameIsCut : Type 0
ServerFrameIsCut = (limit : ℕ) (f : FrameOf) (rest : List ℕ) → limit < 2 ^ 32 → 4 + length f.body ≤ limit → frames Server limit (spelling f ++ rest) ≡ before f (frames Server limit rest)

-- So is a client's Query, and its PasswordMessage.
abbrev pub QueryIsCut : Type 0
QueryIsCut = (limit : ℕ) (t : Text) (rest : List ℕ) → limit < 2 ^ 32 → 4 + length (query t).body ≤ limit → frames Client limit (spelling (query t) ++ rest) ≡ before (query t) (frames Client limit rest)

abbrev pub PasswordMessageIsCut : Type 0
PasswordMessageIsCut = (limit : ℕ) (t : Text) (rest : List ℕ) → limit < 2 ^ 32 → 4 + length (password_message t).body ≤ limit
    → frames Client limit (spelling (password_message t) ++ rest) ≡ before (password_message t) (frames Client limit rest)

-- A StartupMessage is the first packet, whatever follows it, where it has a first packet's length.
abbrev pub StartupMessageIsCut : Type 0
StartupMessageIsCut = (pairs : List (Text × Text)) (rest : List ℕ) → length (startup_message pairs) ≤ MAX_FIRST_PACKET → first_front (startup_message pairs ++ rest) ≡ AFirst (Start (startup_body pairs)) rest

-- So is a CancelRequest, with its words.
abbrev pub CancelRequestIsCut : Type 0
CancelRequestIsCut = (pid secret : ℕ) (rest : List ℕ) → pid < 2 ^ 32 → secret < 2 ^ 32 → first_front (cancel_request pid secret ++ rest) ≡ AFirst (Cancels pid secret) rest
