-- What values of the code stand for.
use Rattle.std.specs.Prelude.{ℕ, List, map}
use Rattle.std.specs.Borrow.{Bor}
use Rattle.frame_view.specs.Frames.{FrameOf}
use Rattle.message_view.specs.Messages.{parameter_status}
use Rattle.monitor_core.specs.declared.columns.Group.{Group}
use Rattle.monitor_core.specs.declared.reply.MonitorReply.{MonitorReply}
use Rattle.monitor_core.specs.declared.reply.MonitorReply.TheVariants as reply
use Rattle.monitor_core.specs.Columns.{GroupOf}
use Rattle.monitor_core.specs.Replies.{ReplyOf, Help, Rows, Set, Unknown}
use Rattle.console_core.specs.Views.{texts_of}

abbrev pub group_of : Group → GroupOf
group_of g = record { kind = g.kind; names = texts_of g.names.now }

abbrev pub groups_of : List Group → List GroupOf
groups_of groups = map group_of groups

abbrev pub reply_view : MonitorReply → ReplyOf
reply_view (reply.Rows table rows) = Rows table rows.items
reply_view reply.Set = Set
reply_view reply.Help = Help
reply_view reply.Unknown = Unknown

abbrev pub status_of : Bor (List ℕ) × Bor (List ℕ) → FrameOf
status_of s = parameter_status s.0.now s.1.now
