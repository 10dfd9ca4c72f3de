use Rattle.std.proofs.Common.{arith, refl}
use Rattle.lists.proofs.Words.{ints, false≢true}
use Rattle.geo_core.proofs.IntervalLaws.{in_ends}
use Rattle.geo_core.proofs.RectLaws.{all_in}
use Rattle.union_area.proofs.CutLaws.{ends_across, ends_up}
use Rattle.union_area.proofs.parts.fills.Goals as goal

pub returns-then-window-rect : goal.returns-then-window-rect
returns-then-window-rect c = (
  λ t. absurd (false≢true t),
  λ all. let far = (ends_across c.args.window c.args.rect all).0 in absurd (omega (arith, ints)),
)

pub returns-then-window-rect-2 : goal.returns-then-window-rect-2
returns-then-window-rect-2 c = (
  λ t. absurd (false≢true t),
  λ all. let far = (ends_across c.args.window c.args.rect all).1 in absurd (omega (arith, ints)),
)

pub returns-then-window-rect-3 : goal.returns-then-window-rect-3
returns-then-window-rect-3 c = (
  λ t. absurd (false≢true t),
  λ all. let far = (ends_up c.args.window c.args.rect all).0 in absurd (omega (arith, ints)),
)

pub returns-then-window-rect-4 : goal.returns-then-window-rect-4
returns-then-window-rect-4 c = (
  λ t. absurd (false≢true t),
  λ all. let far = (ends_up c.args.window c.args.rect all).1 in absurd (omega (arith, ints)),
)

pub returns : goal.returns
returns c = (
  λ t.
      let window = c.args.window in let rect = c.args.rect in
      all_in window rect (in_ends window.x0 window.x1 rect.x0 rect.x1 (omega (arith, ints)) (omega (arith, ints)))
      (in_ends window.y0 window.y1 rect.y0 rect.y1 (omega (arith, ints)) (omega (arith, ints))),
  λ all. refl,
)
