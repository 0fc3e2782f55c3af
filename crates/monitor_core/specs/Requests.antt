-- What a text comes to at the console, which is read once.
use Rattle.std.specs.Prelude.{Option, Some, None}
use Rattle.mini_sql.specs.Words.{Text}
use Rattle.ini_config.specs.declared.option_values.ConsoleStyle.{ConsoleStyle as Style}
use Rattle.console_core.specs.Commands.{CommandOf, command_of}
use Rattle.console_core.specs.Views.{command_view}
use Rattle.monitor_core.specs.declared.asking.Asked.{Asked}
use Rattle.monitor_core.specs.declared.asking.Request.{Request}
use Rattle.monitor_core.specs.declared.asking.Request.TheVariants as request
use Rattle.monitor_core.specs.Asking.{asked}

pub data RequestOf : Type 0 where
  -- a command of the console's own, or none of anybody's
  Own : Option CommandOf → RequestOf
  -- what monitors ask for
  Asks : Asked → RequestOf

abbrev pub request_in : Option CommandOf → Option Asked → RequestOf
request_in command None = Own command
request_in command (Some what) = Asks what

abbrev pub request_of : Style → Text → RequestOf
request_of style text = request_in (command_of text) (asked style text)

abbrev pub request_view : Request → RequestOf
request_view (request.Own c) = Own (Some (command_view c))
request_view (request.Asked what) = Asks what
request_view request.Unknown = Own None
