use Rattle.std.proofs.Common.{◌≡◌, length, Option, Some, arith, subst, sym}
use Rattle.half_boxes.specs.declared.boxes.HalfBox.{HalfBox}
use Rattle.remnants.specs.Remnants.{RemnantLists}
use Rattle.remnants.specs.inside.Parting.{IsSettled}
use Rattle.remnants.proofs.CutLaws.{is_settled, leaders_settled}
use Rattle.remnants.proofs.unjoined.Unjoined.settle.Goals as goal

pub invariant_of-result : goal.invariant_of-result
invariant_of-result c =
    let inside = c.self.inside in
    let old : RemnantLists = record { fixed = inside.fixed.items; loose = inside.loose.items; marks = inside.marks.items; terminals = inside.terminals.items } in
    let count : c.len-leader.result ≡ length inside.fixed.items = omega (arith, inside.fixed.ok.0) in
    leaders_settled old c.self.invariant c.in-Some.part c.args.terminal c.len-leader.result c.push.new.self.items c.in_ok-marks.marks.items count c.in_ok-push.ensures.items c.in_ok-marks.ensures

pub returns-clause-settled : goal.returns-clause-settled
returns-clause-settled c =
    let inside = c.self.inside in
    let old : RemnantLists = record { fixed = inside.fixed.items; loose = inside.loose.items; marks = inside.marks.items; terminals = inside.terminals.items } in
    let new : RemnantLists = record { fixed = c.push.new.self.items; loose = inside.loose.items; marks = c.in_ok-marks.marks.items; terminals = inside.terminals.items } in
    let count : c.len-leader.result ≡ length inside.fixed.items = omega (arith, inside.fixed.ok.0) in
    let settled : IsSettled (Some c.in-Some.part) c.args.terminal old new =
    is_settled old c.self.invariant c.in-Some.part c.args.terminal c.len-leader.result c.push.new.self.items c.in_ok-marks.marks.items count c.in_ok-push.ensures.items c.in_ok-marks.ensures in
    subst (λ (r : RemnantLists). IsSettled c.args.part c.args.terminal r new) c.self.view_is
    (subst (λ (o : Option HalfBox). IsSettled o c.args.terminal old new) (sym c.in-Some.is) settled)
