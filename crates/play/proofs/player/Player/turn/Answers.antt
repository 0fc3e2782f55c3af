use Rattle.std.proofs.Common.{◌∙◌, refl, sym, ap, subst}
use Rattle.play.specs.declared.player.Player.{Player}
use Rattle.play.specs.declared.stage.Stage.{Stage}
use Rattle.play.specs.Players.{IsAt}
use Rattle.play.proofs.Tables.{same_at}
use Rattle.play.proofs.player.Player.turn.Goals.{in-LoggingIn+in_ok-log_in-in-LoggingIn, in-Waiting+in_ok-wait-in-Waiting, in-Served+in_ok-serve-in-Served, in-Closed}
use Rattle.play.proofs.player.Player.turn.Goals as goal

pub returns-clause-player : goal.returns-clause-player
returns-clause-player c = elim c.match-replace.branch [
  | in-LoggingIn+in_ok-log_in-in-LoggingIn w ↦
      let was = subst (λ (s : Stage). IsAt c.args.pool.now c.args.self.now.word c.args.script.now.bytes s) (sym c.replace.ensures.value ∙ w.in-LoggingIn.is) c.requires.1 in
      let word = ap (λ (p : Player). p.word) w.self-is in
      (word ∙ c.requires.0, same_at c.args.pool.now c.args.pool.now _ c.args.self.now.word w.in-LoggingIn.client.input c.args.script.now.bytes w.in_ok-log_in-in-LoggingIn.stage c.match-replace.stage.0 refl (sym word) was.0 (ap (λ r. r.0) w.stage-is) w.in_ok-log_in-in-LoggingIn.ensures.at)
  | in-Waiting+in_ok-wait-in-Waiting w ↦
      let was = subst (λ (s : Stage). IsAt c.args.pool.now c.args.self.now.word c.args.script.now.bytes s) (sym c.replace.ensures.value ∙ w.in-Waiting.is) c.requires.1 in
      let word = ap (λ (p : Player). p.word) w.self-is in
      (word ∙ c.requires.0, same_at c.args.pool.now c.args.pool.now _ c.args.self.now.word w.in-Waiting.client.input c.args.script.now.bytes w.in_ok-wait-in-Waiting.stage c.match-replace.stage.0 refl (sym word) was.0 (ap (λ r. r.0) w.stage-is) w.in_ok-wait-in-Waiting.ensures.at)
  | in-Served+in_ok-serve-in-Served w ↦
      let word = ap (λ (p : Player). p.word) w.self-is in
      (word ∙ c.requires.0, same_at c.args.pool.now c.args.pool.now _ c.args.self.now.word c.args.script.now.bytes c.args.script.now.bytes w.in_ok-serve-in-Served.stage c.match-replace.stage.0 refl (sym word) refl (ap (λ r. r.0) w.stage-is) w.in_ok-serve-in-Served.ensures.at)
  | in-Closed w ↦
      let word = ap (λ (p : Player). p.word) w.self-is in
      (word ∙ c.requires.0, same_at c.args.pool.now c.args.pool.now _ c.args.self.now.word c.args.script.now.bytes c.args.script.now.bytes c.args.self.now.stage c.match-replace.stage.0 refl (sym word) refl (ap (λ r. r.0) w.stage-is ∙ (sym w.in-Closed.is ∙ c.replace.ensures.value)) c.requires.1)
]
