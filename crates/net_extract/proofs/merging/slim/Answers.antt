use Rattle.std.proofs.Common.{List, Vec, subst}
use Rattle.lists.proofs.Words.{IfOk-weaker}
use Rattle.std.specs.Global.{Global}
use Rattle.geo_core.specs.declared.plane.Labelled.{Labelled}
use Rattle.net_extract.specs.inside.LabelledCells.{HaveSameLabelled}
use Rattle.net_extract.proofs.SlimLaws.{same_in_order, same_after_same}
use Rattle.net_extract.proofs.merging.slim.Goals as goal

pub returns : goal.returns
returns c =
    let given = c.args.rects.items in
    let sorted = c.sort_by_key.new.self.items in
    let moved = same_in_order given sorted c.in_ok-sort_by_key.ensures.permutation in
    IfOk-weaker _ _ _ (λ (slim : Vec Labelled Global) same. same_after_same given sorted slim.items moved (subst (λ (xs : List Labelled). HaveSameLabelled xs slim.items) c.deref.ensures.value same))
    c.slim_in_order.ensures
