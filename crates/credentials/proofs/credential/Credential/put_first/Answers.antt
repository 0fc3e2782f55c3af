use Rattle.std.proofs.Common.{rules, ◌≡◌, ℕ, List, ◌∷◌, ◌++◌, length, ap₂, ◌∙◌, subst, append-nil}
use Rattle.std.specs.Prelude.{codes}
use Rattle.std.specs.Int.{w32, to_be_bytes}
use Rattle.frame_view.specs.declared.client.TheConstants.{PASSWORD_MESSAGE}
use Rattle.message_view.specs.Messages.{message}
use Rattle.message_view.specs.Parts.{Puts}
use Rattle.scram.specs.Messages.{first}
use Rattle.credentials.proofs.credential.Credential.put_first.Goals as goal

pub returns : goal.returns
returns c =
    let text : c.as_bytes-text.result.now ≡ first c.args.self.now.nonce = search rules in
    let counted : c.to_be_bytes-length.result ≡ to_be_bytes w32 (length (first c.args.self.now.nonce)) = search rules in
    subst (λ (l : List ℕ). Puts c.put_message.result c.args.out.now c.put_message.new.out (message PASSWORD_MESSAGE (codes "SCRAM-SHA-256" ++ (0 ∷ l))))
    (ap₂ (λ (n t : List ℕ). n ++ t) counted (append-nil c.as_bytes-text.result.now ∙ text))
    c.put_message.ensures
