use Rattle.std.proofs.Common.{Global, Vec}
use Rattle.lists.proofs.Words.{IfOk-weaker}
use Rattle.geo_core.specs.declared.plane.Labelled.{Labelled}
use Rattle.net_pairs.proofs.WholeLaws.{alike_twice}
use Rattle.net_pairs.proofs.whole.zones_of_part.Goals as goal

pub returns : goal.returns
returns c = IfOk-weaker c.lean.result _ _ (λ (kept : Vec Labelled Global). alike_twice c.args.part c.args.zones.now c.in_ok-inside.inside.items kept.items c.in_ok-inside.ensures) c.lean.ensures
