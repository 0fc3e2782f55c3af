-- Each law by its name. A proof in another crate imports it so:
--     use Rattle.session_run_laws.proofs.ByName.{runs_stay_reached}
use Rattle.session_run_laws.specs.Runs.{RunsGoOn, RunsEnd, RunsByMarks, RunsStayReached, ClientFramesAreSent, RunRepliesAreFrames, RunReportsTellValues}
use Rattle.session_run_laws.specs.Settling.{SettledIsQuiet}
use Rattle.session_run_laws.proofs.GoesOn.{runs-go_on, runs-end, runs-by_marks}
use Rattle.session_run_laws.proofs.Running.{runs-reached, client_frames-sent, run-are_frames, run-told}
use Rattle.session_run_laws.proofs.Settling.{settled-quiet}

pub runs_go_on : RunsGoOn
runs_go_on = runs-go_on

pub runs_end : RunsEnd
runs_end = runs-end

pub runs_by_marks : RunsByMarks
runs_by_marks = runs-by_marks

pub runs_stay_reached : RunsStayReached
runs_stay_reached = runs-reached

pub client_frames_are_sent : ClientFramesAreSent
client_frames_are_sent = client_frames-sent

pub run_replies_are_frames : RunRepliesAreFrames
run_replies_are_frames = run-are_frames

pub run_reports_tell_values : RunReportsTellValues
run_reports_tell_values = run-told

pub settled_is_quiet : SettledIsQuiet
settled_is_quiet = settled-quiet
