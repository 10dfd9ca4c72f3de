use Rattle.std.proofs.Common.{arith}
use Rattle.lists.proofs.Words.{ints}
use Rattle.near_index.proofs.DistanceLaws.{gap_before, gap_behind, gap_within}
use Rattle.near_index.proofs.distances.gap.Goals as goal

pub returns-then-place-others : goal.returns-then-place-others
returns-then-place-others c =
    let f = c.args.others.within in let a = f.some in let b = f.least in let d = f.most in
    gap_before c.args.others.low c.args.others.high c.args.place c.abs_diff.result a (omega (arith, ints)) (omega (arith, ints))

pub returns-then-place-last : goal.returns-then-place-last
returns-then-place-last c =
    let f = c.args.others.within in let a = f.some in let b = f.least in let d = f.most in
    gap_behind c.args.others.low c.args.others.high c.args.place c.abs_diff-then-place-last.result a (omega (arith, ints)) (omega (arith, ints))

pub returns : goal.returns
returns c =
    let f = c.args.others.within in let a = f.some in let b = f.least in let d = f.most in
    gap_within c.args.others.low c.args.others.high c.args.place (omega (arith, ints)) (omega (arith, ints))
