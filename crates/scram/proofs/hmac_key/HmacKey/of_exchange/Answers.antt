use Rattle.std.proofs.Common.{◌≡◌, ◌++◌, ◌∷◌, [], List, ℕ, append_assoc, ap, sym, subst, ◌∙◌}
use Rattle.sha2.specs.Hashers.{Holds256}
use Rattle.sha2.specs.Sha256.{sha256}
use Rattle.sha2.specs.declared.Sha256.{Sha256}
use Rattle.scram.specs.Hmac.{hmac_under, inner_pad, outer_pad}
use Rattle.scram.specs.Keys.{auth_message}
use Rattle.scram.proofs.hmac_key.HmacKey.of_exchange.Goals as goal

five : (p a b d e f : List ℕ) → ((((p ++ a) ++ b) ++ d) ++ e) ++ f ≡ p ++ (a ++ (b ++ (d ++ (e ++ f))))
five p a b d e f = simp append_assoc

pub returns : goal.returns
returns c =
    let block : List ℕ = c.self.inside.block in
    let auth : List ℕ = auth_message c.args.bare.now c.args.challenge.now c.args.unproved.now in
    let began : Holds256 c.copied-inner.result (inner_pad block) = subst (λ (s : Sha256). Holds256 s (inner_pad block)) (sym c.copied-inner.ensures) c.self.invariant.0 in
    let all = c.update-5.ensures _ (c.update-4.ensures _ (c.update-3.ensures _ (c.update-2.ensures _ (c.update.ensures _ began)))) in
    let inner : c.finalize.result ≡ sha256 (inner_pad block ++ auth) = c.finalize.ensures _ all ∙ ap sha256 (five (inner_pad block) c.args.bare.now (44 ∷ []) c.args.challenge.now (44 ∷ []) c.args.unproved.now) in
    let outside : Holds256 c.copied-outer.result (outer_pad block) = subst (λ (s : Sha256). Holds256 s (outer_pad block)) (sym c.copied-outer.ensures) c.self.invariant.1 in
    c.finalize-2.ensures _ (c.update-6.ensures _ outside) ∙ ap (λ (t : List ℕ). sha256 (outer_pad block ++ t)) inner ∙ ap (λ (b : List ℕ). hmac_under b auth) c.self.view_is
