use Rattle.std.proofs.Common.{refl, ap, ◌∙◌}
use Rattle.console_run.specs.Turns.{TalkView}
use Rattle.console_run.proofs.Talking.{heard_early, heard_faulty, heard_left, heard_refused, heard_told, read_turned}
use Rattle.console_run.proofs.talk.Talk.hear.Goals as goal

pub returns-in-Need : goal.returns-in-Need
returns-in-Need g c = read_turned _ _ _ _ _ c.read.result c.requires c.read.ensures refl

pub returns-in-Bad : goal.returns-in-Bad
returns-in-Bad g c = heard_faulty _ _ _ c.in-Bad.fault _ _ _ c.requires c.max_packet_size-limit.ensures (c.as_slice-2.ensures ∙ ap (λ (v : TalkView). v.held) c.self.view_is) c.in-Bad.ensures.tells c.refused_by.ensures

pub returns-in-Told : goal.returns-in-Told
returns-in-Told g c = heard_told c.front_is_spelled.ensures _ _ _ _ _ c.as_slice.result.now _ _ _ _ c.in-Whole.frame _ _ c.answer.result _ _ c.self.view_is c.requires c.max_packet_size-limit.ensures c.as_slice.ensures c.are_bytes.ensures c.as_slice-2.ensures c.in-Whole.ensures.tells c.answer.ensures c.in-Told.is c.advance.ensures.items

pub returns-in-Left : goal.returns-in-Left
returns-in-Left g c = heard_left c.front_is_spelled.ensures _ _ c.as_slice.result.now _ _ c.in-Whole.frame _ c.answer.result _ _ (ap (λ (v : TalkView). v.drops) c.self.view_is) c.requires c.max_packet_size-limit.ensures (c.as_slice.ensures ∙ ap (λ (v : TalkView). v.held) c.self.view_is) c.are_bytes.ensures (c.as_slice-2.ensures ∙ ap (λ (v : TalkView). v.held) c.self.view_is) c.in-Whole.ensures.tells c.answer.ensures c.in-Left.is

pub returns-in-Refused : goal.returns-in-Refused
returns-in-Refused g c = heard_refused _ _ _ _ c.answer.result _ _ c.requires c.answer.ensures c.in-Refused.is

pub returns-in-NotYet : goal.returns-in-NotYet
returns-in-NotYet g c = heard_early _ _ _ _ c.answer.result _ _ c.read_early.result c.requires c.answer.ensures c.in-NotYet.is c.read_early.ensures
