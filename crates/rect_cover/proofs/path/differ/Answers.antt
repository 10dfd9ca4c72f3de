use Rattle.std.proofs.Common.{◌≡◌, get_or, refl, rules, arith}
use Rattle.lists.proofs.Words.{Contains-get_or}
use Rattle.rect_cover.proofs.DifferLaws.{no_point, none_differ}
use Rattle.rect_cover.proofs.path.differ.Goals as goal

pub returns-then-ne : goal.returns-then-ne
returns-then-ne c =
    let points = c.args.points.now in
    let k = c.loop-point.point-index in
    let apart : get_or points k no_point ≡ get_or points 0 no_point → ⊥ = search rules in (
      λ _. (get_or points k no_point, get_or points 0 no_point, Contains-get_or points k no_point c.loop-point-test.true, Contains-get_or points 0 no_point c.requires, apart),
      λ _. refl,
    )

pub returns : goal.returns
returns c = (
  λ no. absurd (search rules),
  λ differ. absurd (none_differ c.args.points.now (record { same = λ k h. c.loop-point.invariant.same k (omega arith) }) differ),
)
