use Rattle.std.proofs.Common.{arith, rules}
use Rattle.httparse.specs.Spans.{IsRequestOf}
use Rattle.metrics_http.proofs.Fronts.{longer, too_long}
use Rattle.metrics_http.proofs.request.read_request.Goals as goal

pub returns-in-Ok-Partial : goal.returns-in-Ok-Partial
returns-in-Ok-Partial c = too_long c.args.bytes.now (search rules) c.if-bytes-ge-MAX_HEAD.true

pub returns-in-Ok-Complete : goal.returns-in-Ok-Complete
returns-in-Ok-Complete c =
    let found : IsRequestOf c.args.bytes.now c.parse_request.new.headers c.in-Ok-Complete.head = search rules in
    longer c.args.bytes.now found.0 _ found.1.reads (omega (arith, found.1.len, c.if-head-gt-MAX_HEAD.true))
