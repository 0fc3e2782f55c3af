-- A client with its worker: how far it is, what it sent and was given, and what its worker holds.
use Rattle.std.specs.Prelude.{◌≡◌, ℕ, Bool, false, List, [], ◌++◌, Option, None}
use Rattle.std.specs.List.{flat_map, AllByRecursion}
use Rattle.frame_view.specs.declared.Side.TheVariants.{Server}
use Rattle.frame_view.specs.declared.frames.TheConstants.{MAX_FRAME}
use Rattle.frame_view.specs.Frames.{FrameOf, IsFrame, spelling}
use Rattle.message_view.specs.declared.KeyWord.{KeyWord}
use Rattle.message_view.specs.declared.views.KeyView.{KeyView}
use Rattle.message_view.specs.Refusals.{joined_pieces}
use Rattle.session_values.specs.State.{StartKeyOf}
use Rattle.session_values.specs.Step.{has_mark}
use Rattle.login_core.specs.Dialogue.{LoginRow, login}

pub data Phase : Type 0 where
  Absent : Phase
  -- its login has read these bytes
  LoggingIn : (read : List ℕ) → Phase
  -- its login has passed with this key
  Waiting : (key : StartKeyOf) → Phase
  -- a link is to be started for it
  Starting : (key : StartKeyOf) → (link : ℕ) → Phase
  Served : (link : ℕ) → Phase
  -- it may still be given what is held for it, and nothing more comes
  Finishing : Phase
  -- it is given a refusal, of which this is left
  Refusing : (left : List ℕ) → Phase
  Closed : Phase

pub record Client : Type 0 where
  pub phase : Phase
  -- the book's number for it, from its Arrive on
  pub number : Option ℕ
  -- what its login goes by, and the key word that it is told
  pub row : LoginRow
  pub word : KeyWord
  -- all bytes that it sent, and those that its worker hasn't read yet
  pub sent : List ℕ
  pub unread : List ℕ
  -- the bytes that its worker holds, for the link and for the client
  pub for_link : List ℕ
  pub for_client : List ℕ
  -- the bytes that it was given, and behind them those of a refusal
  pub out : List ℕ
  pub refusal : List ℕ
  -- for each of its frames that a server took while it was served, whether a cancel struck it
  pub struck : List Bool

-- a client that has come, and has sent nothing yet
abbrev pub newcomer : LoginRow → KeyWord → Client
newcomer row word = record { phase = LoggingIn []; number = None; row = row; word = word; sent = []; unread = []; for_link = []; for_client = []; out = []; refusal = []; struck = [] }

abbrev pub given : Client → List ℕ
given x = x.out ++ x.refusal

-- the key word that its welcome tells it, by which a cancel names it
abbrev pub key_of : Client → KeyView
key_of x = record { pid = x.word.pid; secret = x.word.secret }

-- no frame is struck
abbrev pub IsUnstruck : List Bool → Type 0
IsUnstruck marks = has_mark marks ≡ false

-- it is given what is held for it
pub data MayWrite : Phase → Type 0 where
  logging_in : {read : List ℕ} → MayWrite (LoggingIn read)
  waiting : {key : StartKeyOf} → MayWrite (Waiting key)
  starting : {key : StartKeyOf} {link : ℕ} → MayWrite (Starting key link)
  served : {link : ℕ} → MayWrite (Served link)
  last_bytes : MayWrite Finishing

abbrev pub HasCome : Phase → Type 0
HasCome Absent = ⊥
HasCome _ = Unit {0}

-- it uses no link any more
pub data HasEnded : Phase → Type 0 where
  finishing : HasEnded Finishing
  refusing : {left : List ℕ} → HasEnded (Refusing left)
  closed : HasEnded Closed

-- what it was given ends at a border: some first pieces of its login, or all of them and then whole frames
pub data AtBorder (x : Client) : Type 0 where
  in_login : (told kept : List (List ℕ)) → told ++ kept ≡ (login x.row x.word x.sent).pieces → x.out ≡ joined_pieces told → AtBorder x
  past_login : (told : List FrameOf) → AllByRecursion (IsFrame Server MAX_FRAME) told → x.out ≡ joined_pieces (login x.row x.word x.sent).pieces ++ flat_map spelling told → AtBorder x
