use Rattle.std.proofs.Common.{ℕ, sym, ap, ◌∙◌, subst}
use Rattle.ini_config.specs.declared.option_values.Settings.{Settings}
use Rattle.link_model.specs.Standing.{ClientFacts}
use Rattle.login_core.specs.Solo.{service_pieces}
use Rattle.message_view.specs.declared.refusal.Refusal.TheVariants.{OutOfMemory}
use Rattle.relay_model.specs.Leases.{IsLease, place}
use Rattle.pool_serve.specs.FinalMessages.{or_nothing}
use Rattle.pool_serve.specs.Serving.{Serves, limit_of}
use Rattle.pool_serve.specs.declared.final_message.FinalMessage.TheVariants as last
use Rattle.pool_serve.proofs.Answering.{relay_serves}
use Rattle.pool_serve.proofs.Freeing.{keyed_has}
use Rattle.pool_serve.proofs.Homing.{back_own}
use Rattle.pool_serve.proofs.Telling.{nothing_more, refusal_ends}
use Rattle.pool_serve.proofs.worker.Worker.relay.Goals as goal

pub returns-clause-ended : goal.returns-clause-ended
returns-clause-ended g c =
    let limit = c.max_packet_size-limit.ensures ∙ ap (λ (x : Settings). x.max_packet_size) (c.deref.ensures ∙ c.settings.ensures) in
    record {
      view = c.pumped-refusal.new.relay;
      lease = subst (λ (n : ℕ). IsLease (place (g.C.ClientEnd.facts c.args.client) c.args.link c.args.logged_in.now.word n) c.pumped-refusal.new.relay) limit (c.pumped-refusal.ensures.keeps (place (g.C.ClientEnd.facts c.args.client) c.args.link c.args.logged_in.now.word c.max_packet_size-limit.result) c.in-Ok.ensures.begun);
      client = c.close_over-client.ensures.client;
      told = c.pumped-refusal.ensures.told;
    }

pub returns-in-Err-clause-serves : goal.returns-in-Err-clause-serves
returns-in-Err-clause-serves g c = λ t f.
    subst (λ (d : ClientFacts). Serves (limit_of c.args.logged_in.now) c.args.link.stands.server.strikable (g.C.ClientEnd.facts c.args.client) d (service_pieces c.args.link.stands.server.catalogue c.args.link.key c.args.logged_in.now.word) (last.Refusal OutOfMemory)) (sym (ap g.C.ClientEnd.facts c.in-Err.ensures.back.0))
    (nothing_more (limit_of c.args.logged_in.now) c.args.link.stands.server.strikable (g.C.ClientEnd.facts c.args.client) (service_pieces c.args.link.stands.server.catalogue c.args.link.key c.args.logged_in.now.word) (last.Refusal OutOfMemory) tt (refusal_ends _ OutOfMemory))

pub returns-clause-serves : goal.returns-clause-serves
returns-clause-serves g c = λ t f.
    subst (λ (limit : ℕ). Serves limit c.args.link.stands.server.strikable (g.C.ClientEnd.facts c.args.client) (g.C.ClientEnd.facts c.close_over-client.result.0) (service_pieces c.args.link.stands.server.catalogue c.args.link.key c.args.logged_in.now.word) (or_nothing c.pumped-refusal.result.0)) (c.max_packet_size-limit.ensures ∙ ap (λ (x : Settings). x.max_packet_size) (c.deref.ensures ∙ c.settings.ensures))
    (relay_serves c.leases_are_allowed.ensures c.service_is_its_pieces.ensures (g.C.ClientEnd.facts c.args.client) (g.C.ClientEnd.facts c.close_over-client.result.0) c.args.link c.args.logged_in.now.word c.max_packet_size-limit.result c.in-Ok.relay c.pumped-refusal.new.relay c.pumped-refusal.result.0 c.in-Ok.ensures.begun c.pumped-refusal.ensures.keeps c.close_over-client.ensures.client c.pumped-refusal.ensures.refused t f)

pub hand_back-requires-clause-own : goal.hand_back-requires-clause-own
hand_back-requires-clause-own g c =
    let began = place (g.C.ClientEnd.facts c.args.client) c.args.link c.args.logged_in.now.word c.max_packet_size-limit.result in
    back_own g.D.LinkDesk.home (g.C.ClientEnd.facts c.args.client) c.args.link c.args.logged_in.now.word c.max_packet_size-limit.result c.pumped-refusal.new.relay (c.pumped-refusal.ensures.keeps began c.in-Ok.ensures.begun) _ _ c.close_over-client.result.1 c.close_over-client.ensures.link
    (keyed_has _ c.args.link c.args.logged_in.now.word _ c.requires.keyed)
