use Rattle.std.proofs.Common.{arith}
use Rattle.lists.proofs.Words.{ints}
use Rattle.skyline_runs.proofs.Commons.{all_common, common_done, common_more}
use Rattle.skyline_runs.proofs.Looking.{from_on_few, met_more}
use Rattle.skyline_runs.proofs.skyline.Skyline.common.Goals as goal

pub returns-in_default-clause-cells : goal.returns-in_default-clause-cells
returns-in_default-clause-cells c = all_common c.args.self.now c.args.rect _ c.loop-column.parts.items c.requires.below
    c.loop-column.invariant.common c.in_default.ensures.none

pub loop-column-preserved : goal.loop-column-preserved
loop-column-preserved c =
    let before = c.in-Some.ensures.before in let h = c.loop-column.invariant in record {
      common = common_more c.args.self.now c.args.rect c.in-Some.active _ _ c.loop-column.parts.items c.push_common.new.parts.items
          c.requires.sound c.requires.below h.common c.in-Some.ensures.is_active c.in-Some.ensures.behind c.in_ok-push_common.ensures (omega (arith, ints));
      sides = λ xs s left right. c.in_ok-push_common.ensures.sides xs (h.sides xs s left right)
          (s.begins c.in-Some.active c.in-Some.ensures.is_active) (s.ends c.in-Some.active c.in-Some.ensures.is_active) left right;
      few = λ xs s x up_to.
          let one = c.in_ok-push_common.ensures.one in
          met_more xs _ _ c.loop-column.column c.in-Some.active.x0 x (h.few xs s c.loop-column.column (omega (arith, ints)))
          (s.begins c.in-Some.active c.in-Some.ensures.is_active) (omega (arith, ints)) (omega (arith, ints)) one;
      looks = λ xs s x up_to.
          let more = c.saturating_add-met.ensures in
          met_more xs _ _ c.loop-column.column c.in-Some.active.x0 x (h.looks xs s c.loop-column.column (omega (arith, ints)))
          (s.begins c.in-Some.active c.in-Some.ensures.is_active) (omega (arith, ints)) (omega (arith, ints)) (omega arith);
    }

pub returns-clause-cells : goal.returns-clause-cells
returns-clause-cells c = common_done c.args.self.now c.args.rect _ c.loop-column.parts.items c.loop-column.invariant.common (omega (arith, ints))

pub returns-in_default-clause-few : goal.returns-in_default-clause-few
returns-in_default-clause-few c = λ xs s.
    let few = c.loop-column.invariant.few xs s c.loop-column.column (omega (arith, ints)) in
    let all = from_on_few c.loop-column.column xs in omega arith

pub returns-in_default-clause-looks : goal.returns-in_default-clause-looks
returns-in_default-clause-looks c = λ xs s.
    let few = c.loop-column.invariant.looks xs s c.loop-column.column (omega (arith, ints)) in
    let all = from_on_few c.loop-column.column xs in omega arith

pub returns-clause-few : goal.returns-clause-few
returns-clause-few c = λ xs s.
    let few = c.loop-column.invariant.few xs s c.loop-column.column (omega (arith, ints)) in
    let all = from_on_few c.loop-column.column xs in omega arith

pub returns-clause-looks : goal.returns-clause-looks
returns-clause-looks c = λ xs s.
    let few = c.loop-column.invariant.looks xs s c.loop-column.column (omega (arith, ints)) in
    let all = from_on_few c.loop-column.column xs in omega arith
