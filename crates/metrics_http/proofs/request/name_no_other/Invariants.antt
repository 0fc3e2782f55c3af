use Rattle.std.proofs.Common.{All, take}
use Rattle.httparse.specs.Spans.{header_bytes}
use Rattle.metrics_http.specs.Requests.{NamesNoOther}
use Rattle.metrics_http.proofs.request.name_no_other.Given as goal

abbrev pub invariant-loop-field : goal.invariant-loop-field
invariant-loop-field l = All (λ s. NamesNoOther (header_bytes l.bytes s)) (take l.field-index l.fields)
