-- The messages of a client of the console, what it is told, and what is done for it.
use Rattle.std.specs.Prelude.{◌≡◌, ◌⊎◌, ℕ, Bool, true, false, List, [], ◌∷◌, Option, Some, None, if◌then◌else◌}
use Rattle.std.specs.List.{flat_map}
use Rattle.frame_view.specs.declared.Side.TheVariants.{Client}
use Rattle.frame_view.specs.Frames.{FrameOf, IsFrame, spelling}
use Rattle.message_view.specs.declared.KeyWord.{KeyWord}
use Rattle.message_view.specs.declared.kinds.TheConstants.{ASKS_NOTHING}
use Rattle.message_view.specs.Bodies.{Text}
use Rattle.message_view.specs.Messages.{authentication}
use Rattle.session_values.specs.declared.cause.Cause.TheVariants.{InvalidValue}
use Rattle.ini_config.specs.declared.option_values.ConsoleStyle.{ConsoleStyle}
use Rattle.ini_config.specs.declared.option_values.Settings.{Settings}
use Rattle.ini_config.specs.OptionValues.{is_admin}
use Rattle.book_model.specs.Book.{Book}
use Rattle.book_model.specs.Kept.{Kept}
use Rattle.book_register.specs.Views.{View, has_stale, view_of}
use Rattle.pool_figures.specs.Seen.{SeenOf}
use Rattle.link_desk.specs.Counts.{AtMost, class_counts}
use Rattle.console_core.specs.declared.commands.Action.{Action}
use Rattle.console_core.specs.declared.commands.Action.TheVariants.{Reload}
use Rattle.console_core.specs.Commands.{CommandOf, Act, Await, command_of, tag}
use Rattle.console_core.specs.Replies.{ReplyOf, Awaits, ShutsDown, answer, done, frames_of, not_allowed, refused}
use Rattle.console_core.specs.Messages.{Response, Frames, Answer, Leave, response_to}
use Rattle.monitor_core.specs.declared.asking.Asked.{Asked}
use Rattle.monitor_core.specs.Asking.{asked}
use Rattle.monitor_core.specs.Replies as monitor
use Rattle.monitor_core.specs.Replies.{welcome_of}
use Rattle.console_run.specs.Passing.{Pass, after_doing}

-- who asks: a user, under the settings of its arrival
pub record Asker : Type 0 where
  pub settings : Settings
  pub user : Text

abbrev pub asker : Settings → Text → Asker
asker settings user = record { settings = settings; user = user }

-- admin users may have something done; every other may but look
abbrev pub may_act : Asker → Bool
may_act a = is_admin a.settings a.user

-- what a client is given first
abbrev pub greeting : ConsoleStyle → KeyWord → List FrameOf
greeting style word = authentication ASKS_NOTHING [] ∷ welcome_of style word.pid word.secret

-- a message of the client's, what it was told, and what was done for it
pub record Exchange : Type 0 where
  pub asks : FrameOf
  pub told : List FrameOf
  pub does : Option Action

-- An action is done, which is a decision of the book, and told so; of files that are read again it decides the limits. A fault in one may
-- refuse that: then nothing was done.
abbrev pub IsActed : Action → List FrameOf → Option Action → Type 0
IsActed Reload told does = ((told ≡ done (tag Reload)) × (does ≡ Some Reload)) ⊎ ((told ≡ refused InvalidValue) × (does ≡ None))
IsActed action told does = (told ≡ done (tag action)) × (does ≡ Some action)

-- what WAIT_CLOSE is answered over a book: nothing, as long as a link of the database is stale there and the book isn't shut down
abbrev pub closing : View → Option Text → Option ReplyOf
closing v database = if has_stale v database then (if v.is_shut then Some ShutsDown else None) else Some Awaits

-- It is answered over some book, in which all that was made through the pass is counted.
pub record IsAwaited (p : Pass) (database : Option Text) (told : List FrameOf) : Type 0 where
  pub book : Book
  pub kept : Kept book
  pub counted : AtMost p.counted.made (class_counts book.counts)
  pub reply : ReplyOf
  pub closes : closing (view_of book) database ≡ Some reply
  pub told_is : told ≡ frames_of reply

abbrev pub IsClosed : Pass → Option Text → List FrameOf → Option Action → Type 0
IsClosed p database told does = IsAwaited p database told × (does ≡ None)

-- what is for admin users alone: it isn't done for another, who is told so
abbrev pub ForAdmins : Bool → (List FrameOf → Option Action → Type 0) → List FrameOf → Option Action → Type 0
ForAdmins true answers = answers
ForAdmins false answers = λ told does. (told ≡ not_allowed) × (does ≡ None)

-- what a text is told that has nothing done: what monitors ask for by what is known beside the book, and all else as the console answers it
abbrev pub shown : View → SeenOf → Settings → Text → Option Asked → List FrameOf
shown v known s text (Some what) = monitor.frames_of (monitor.reply_to v known s what)
shown v known s text None = frames_of (answer v s text)

-- It is told over some book, in which all that was made through the pass is counted; nothing is claimed of what is known beside it.
pub record IsShown (s : Settings) (p : Pass) (text : Text) (told : List FrameOf) : Type 0 where
  pub book : Book
  pub kept : Kept book
  pub counted : AtMost p.counted.made (class_counts book.counts)
  pub known : SeenOf
  pub told_is : told ≡ shown (view_of book) known s text (asked s.console_style text)

abbrev pub IsSeen : Settings → Pass → Text → List FrameOf → Option Action → Type 0
IsSeen s p text told does = IsShown s p text told × (does ≡ None)

abbrev pub IsAnswer : Asker → Pass → Text → Option CommandOf → List FrameOf → Option Action → Type 0
IsAnswer a p text (Some (Act action)) = ForAdmins (may_act a) (IsActed action)
IsAnswer a p text (Some (Await database)) = ForAdmins (may_act a) (IsClosed p database)
IsAnswer a p text command = IsSeen a.settings p text

abbrev pub IsResponse : Asker → Pass → Response → List FrameOf → Option Action → Type 0
IsResponse a p (Frames frames drops) = λ told does. (told ≡ frames) × (does ≡ None)
IsResponse a p (Answer text) = IsAnswer a p text (command_of text)
IsResponse a p Leave = λ told does. ⊥

-- whether messages are dropped behind one that is answered
abbrev pub drops_after : Response → Bool
drops_after (Frames frames drops) = drops
drops_after _ = false

-- Each message is a frame under the limit and is answered as it is defined, where messages are dropped before the first of them or not, and the pass stands so. None is a Terminate.
abbrev pub AreAnswered : Asker → Bool → Pass → List Exchange → Type 0
AreAnswered a drops p [] = Unit {0}
AreAnswered a drops p (x ∷ xs) = IsFrame Client a.settings.max_packet_size x.asks × IsResponse a p (response_to drops x.asks) x.told x.does × AreAnswered a (drops_after (response_to drops x.asks)) (after_doing x.does p) xs

-- ---- one after the other

abbrev pub drops_behind : Bool → List Exchange → Bool
drops_behind drops [] = drops
drops_behind drops (x ∷ xs) = drops_behind (drops_after (response_to drops x.asks)) xs

abbrev pub asked_bytes : List Exchange → List ℕ
asked_bytes xs = flat_map (λ x. spelling x.asks) xs

abbrev pub told_bytes : List Exchange → List ℕ
told_bytes xs = flat_map (λ x. flat_map spelling x.told) xs

abbrev pub after_exchanges : List Exchange → Pass → Pass
after_exchanges [] p = p
after_exchanges (x ∷ xs) p = after_exchanges xs (after_doing x.does p)
