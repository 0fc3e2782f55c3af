use Rattle.std.proofs.Common.{ℕ, List, ◌∙◌, subst}
use Rattle.std.specs.Prelude.{All, IfOk}
use Rattle.tcp_reach.specs.Streams.{IsSentTo}
use Rattle.pool_run.proofs.surroundings.send.Goals as goal

-- the clause of the call, in the words of the strike
pub returns-clause-own : goal.returns-clause-own
returns-clause-own g c =
    let strike = c.args.strike.now in
    let own = subst (λ (hosts : List ℕ). IfOk c.send_to_hosts.result (λ v. All (IsSentTo hosts strike.port c.as_slice.result.now) v.items)) c.as_bytes.ensures c.send_to_hosts.ensures.own in
    subst (λ (message : List ℕ). IfOk c.send_to_hosts.result (λ v. All (IsSentTo strike.host strike.port message) v.items)) (c.as_slice.ensures ∙ c.in_ok-request.ensures) own
