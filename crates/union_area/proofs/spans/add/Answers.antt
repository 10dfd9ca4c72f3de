use Rattle.union_area.proofs.SpanLaws.{gains_behind, gains_first, gains_joined}
use Rattle.union_area.proofs.spans.add.Goals as goal

pub returns-in_default : goal.returns-in_default
returns-in_default c = gains_first _ _ _ _ c.in_default.ensures.items c.in_ok-push.ensures.items

pub returns-in_ok-push-in-Some-both_of : goal.returns-in_ok-push-in-Some-both_of
returns-in_ok-push-in-Some-both_of c = gains_joined _ _ _ _ _ _ c.in-Some.ensures.items c.in_ok-push-in-Some-both_of.ensures.items c.in-Some-both_of.ensures

pub returns-in_ok-push-in-None-2 : goal.returns-in_ok-push-in-None-2
returns-in_ok-push-in-None-2 c = gains_behind _ _ _ _ _ _ c.in-Some.ensures.items c.in_ok-push-in-None.ensures.items c.in_ok-push-in-None-2.ensures.items
