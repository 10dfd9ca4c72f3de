use Rattle.lists.proofs.Words.{nat_tests}
use Rattle.std.proofs.Common.{◌<◌, ◌≡◌, get_or, length, sym, subst, arith}
use Rattle.flatten.specs.inside.Marks.{IsTopFault}
use Rattle.flatten.specs.declared.fault.PlaceFault.TheVariants.{ManyTops}
use Rattle.flatten.proofs.LimitLaws.{at_offset}
use Rattle.flatten.proofs.TopLaws.{none_is, only_is, second_is, second_there}
use Rattle.flatten.proofs.tops.only_top.Goals as goal

pub returns-then-is_empty-clause-fault : goal.returns-then-is_empty-clause-fault
returns-then-is_empty-clause-fault c =
    let none : length c.args.tops.now ≡ 0 = let h = c.if-is_empty.ensures in grind (arith, nat_tests) in
    none_is c.args.structures.now c.args.tops.now c.requires none

pub bounds-structures-tops : goal.bounds-structures-tops
bounds-structures-tops c = second_there c.args.structures.now c.args.tops.now c.requires c.if-tops-gt1.true

pub bounds-structures-tops-then-tops-gt1 : goal.bounds-structures-tops-then-tops-gt1
bounds-structures-tops-then-tops-gt1 c structure = second_there c.args.structures.now c.args.tops.now c.requires c.if-tops-gt1.true

pub returns-then-tops-gt1-clause-fault : goal.returns-then-tops-gt1-clause-fault
returns-then-tops-gt1-clause-fault c =
    let tops = c.args.tops.now in
    subst (λ at. IsTopFault c.args.structures.now (ManyTops at))
    (sym (at_offset c.args.structures.now (get_or tops 1 0) c.index-structures-tops.result (second_there c.args.structures.now tops c.requires c.if-tops-gt1.true)))
    (second_is c.args.structures.now tops c.requires c.if-tops-gt1.true)

pub returns-clause-only : goal.returns-clause-only
returns-clause-only c =
    let some : 0 < length c.args.tops.now = let h = c.if-is_empty.ensures in grind (arith, nat_tests) in
    only_is c.args.structures.now c.args.tops.now c.requires some c.if-tops-gt1.false
