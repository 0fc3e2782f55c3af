-- What values of the code stand for.
use Rattle.std.specs.Prelude.{ℕ, Bool, true, false, List, [], ◌∷◌, decimal, map}
use Rattle.std.specs.Borrow.{Bor}
use Rattle.message_view.specs.Parts.{shown_value}
use Rattle.mini_sql.specs.Words.{Text}
use Rattle.session_values.specs.declared.cause.Cause.TheVariants.{MalformedMessage, NotSupported}
use Rattle.session_values.specs.Errors.{error}
use Rattle.console_core.specs.declared.commands.Command.{Command}
use Rattle.console_core.specs.declared.commands.Command.TheVariants as command
use Rattle.console_core.specs.declared.messages.Response as its
use Rattle.console_core.specs.declared.messages.Response.TheVariants as response
use Rattle.console_core.specs.declared.reply.ConsoleReply.{ConsoleReply}
use Rattle.console_core.specs.declared.reply.ConsoleReply.TheVariants as reply
use Rattle.console_core.specs.declared.config.Value.{Value}
use Rattle.console_core.specs.declared.config.Value.TheVariants as value
use Rattle.console_core.specs.Commands.{CommandOf, Act, Show, Await}
use Rattle.console_core.specs.Messages.{Response, Frames, Answer, Leave}
use Rattle.console_core.specs.Replies.{ReplyOf, Rows, Acts, Awaits, NotAllowed, ShutsDown, Unknown, ready, refused}
use Rattle.console_core.specs.Config.{auth_name, flag, octal, joined, setting, style_name}

abbrev pub texts_of : List (Bor (List ℕ)) → List Text
texts_of texts = map (λ t. t.now) texts

abbrev pub command_view : Command → CommandOf
command_view (command.Act a) = Act a
command_view (command.Show t) = Show t
command_view (command.Await database) = Await (shown_value database)

abbrev pub reply_view : ConsoleReply → ReplyOf
reply_view (reply.Rows table rows) = Rows table rows.items
reply_view (reply.Act a) = Acts a
reply_view reply.Await = Awaits
reply_view reply.NotAllowed = NotAllowed
reply_view reply.ShuttingDown = ShutsDown
reply_view reply.Unknown = Unknown

-- a message's response, where messages were dropped or not before
abbrev pub response_view : Bool → its.Response → Response
response_view drops (response.Answer command) = Answer command.now
response_view drops response.Malformed = Frames (refused MalformedMessage) false
response_view drops response.NotServed = Frames (error NotSupported ∷ []) true
response_view drops response.Ready = Frames (ready ∷ []) false
response_view drops response.Nothing = Frames [] drops
response_view drops response.Leave = Leave

abbrev pub value_view : Value → Text
value_view (value.Fixed text) = text.now
value_view (value.Auth kind) = auth_name kind
value_view (value.Number n) = decimal n
value_view (value.Flag is_on) = flag is_on
value_view (value.Text text) = text.now
value_view (value.Mode mode) = octal mode
value_view (value.Names names) = joined names.now
value_view (value.Style style) = style_name style

-- a key with its value
abbrev pub setting_view : Bor (List ℕ) × Value → List Text
setting_view s = setting s.0.now (value_view s.1)
