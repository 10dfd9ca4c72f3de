-- what is written is what the part's columns have by the count and by what its halves have
use Rattle.std.proofs.Common.{arith, rules, FitsSigned, w64}
use Rattle.lists.proofs.Words.{ints, to_z-of_z}
use Rattle.cover_tree.proofs.PartLaws.{number_fits}
use Rattle.cover_tree.proofs.WidthLaws.{widths_written}
use Rattle.cover_tree.proofs.below.settle.Goals as goal

pub returns-clause-widths : goal.returns-clause-widths
returns-clause-widths g c =
    let columns = c.args.columns.now in
    let n = number_fits columns.height c.args.part c.requires.part in
    let row = c.requires.row in let wide = c.requires.width in
    let a : FitsSigned w64 c.widths_of-widths.result.once = search rules in
    let b : FitsSigned w64 c.widths_of-widths.result.twice = search rules in
    let written = simp to_z-of_z at c.set.ensures.node in
    widths_written columns.height columns.places.items c.args.part c.requires.part _ _ c.args.count c.args.halves c.widths_of-widths.result _ (omega arith) written c.requires.halves
    (omega (arith, ints, wide))
    c.widths_of-widths.ensures.once c.widths_of-widths.ensures.twice
