use Rattle.std.proofs.Common.{◌≡◌, drop, map}
use Rattle.std.specs.List.{list_any}
use Rattle.httparse.specs.Spans.{header_bytes}
use Rattle.metrics_http.specs.Requests.{is_host}
use Rattle.metrics_http.proofs.request.has_host.Given as goal

abbrev pub invariant-loop-field : goal.invariant-loop-field
invariant-loop-field l = list_any is_host (map (header_bytes l.bytes) (drop l.field-index l.fields)) ≡ list_any is_host (map (header_bytes l.bytes) l.fields)
