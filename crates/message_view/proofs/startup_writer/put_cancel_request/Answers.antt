use Rattle.std.proofs.Common.{ℕ, List, [], ◌++◌, ◌≡◌, OnOk, subst}
use Rattle.message_view.proofs.startup_writer.put_cancel_request.Goals as goal

pub returns-clause-ok : goal.returns-clause-ok
returns-clause-ok c =
    subst (λ (bytes : List ℕ). OnOk c.put_parts.result (c.put_parts.new.out.items ≡ c.args.out.now.items ++ bytes))
    (λ i. c.to_be_bytes.ensures i ++ (c.to_be_bytes-2.ensures i ++ (c.to_be_bytes-3.ensures i ++ (c.to_be_bytes-4.ensures i ++ []))))
    c.put_parts.ensures.ok
