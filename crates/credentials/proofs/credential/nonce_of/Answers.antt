use Rattle.std.proofs.Common.{◌≡◌, ℕ, List, ◌++◌, ap, ap₂, ◌∙◌}
use Rattle.std.specs.Prelude.{codes}
use Rattle.scram.specs.Messages as scram
use Rattle.credentials.proofs.credential.nonce_of.Goals as goal

-- one text behind another
then : {a b c d : List ℕ} → a ≡ b → c ≡ d → a ++ c ≡ b ++ d
then e f = ap₂ (λ (x y : List ℕ). x ++ y) e f

pub returns : goal.returns
returns c = c.nonce.ensures ∙ ap scram.nonce_of (c.as_bytes.ensures ∙ (c.push-5.ensures.text ∙ then (c.push-4.ensures.text ∙ ap (λ (x : List ℕ). x ++ c.args.word.now.salt) (c.push-3.ensures.text ∙ then (c.push-2.ensures.text ∙ then (c.push.ensures.text ∙ ap (λ (x : List ℕ). x ++ codes "link") c.new-seed.ensures.text) c.to_be_bytes.ensures) c.to_be_bytes-2.ensures)) c.to_be_bytes-3.ensures))
