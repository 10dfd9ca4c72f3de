use Rattle.std.proofs.Common.{rules, arith, inl, inr, sym, subst, ◌∙◌, ℤ, w32, FitsSigned, to_z, of_z, Contains}
use Rattle.lists.proofs.Words.{ints, to_z-of_z}
use Rattle.depth_sweep.proofs.BarLaws.{no_part, bar_is}
use Rattle.depth_sweep.proofs.PlaceLaws.{moved_at, less_by_place}
use Rattle.depth_sweep.proofs.bars.bar_of.Goals as goal
use Rattle.depth_sweep.proofs.bars.bar_of.Goals.{then-left-right-via-then-left-right, then-left-right-via-else-left-right+then-bottom-top}

pub returns-then-left-right-clause-none : goal.returns-then-left-right-clause-none
returns-then-left-right-clause-none c =
    let window = c.args.window in let rect = c.args.rect in
    let x0 : FitsSigned w32 c.args.rect.x0 = search rules in
    let left = moved_at window.x0 window.x1 rect.x0 c.columns.result.low c.columns.result.high (to_z w32 (of_z w32 c.args.rect.x0))
    c.moved_into-left.result c.moved_into-left.ensures c.columns.ensures.low c.columns.ensures.high (to_z-of_z w32 rect.x0 x0) in
    let x1 : FitsSigned w32 c.args.rect.x1 = search rules in
    let right = moved_at window.x0 window.x1 rect.x1 c.columns-2.result.low c.columns-2.result.high (to_z w32 (of_z w32 c.args.rect.x1))
    c.moved_into-right.result c.moved_into-right.ensures c.columns-2.ensures.low c.columns-2.ensures.high (to_z-of_z w32 rect.x1 x1) in
    let y0 : FitsSigned w32 c.args.rect.y0 = search rules in
    let bottom = moved_at window.y0 window.y1 rect.y0 c.rows.result.low c.rows.result.high (to_z w32 (of_z w32 c.args.rect.y0))
    c.moved_into-bottom.result c.moved_into-bottom.ensures c.rows.ensures.low c.rows.ensures.high (to_z-of_z w32 rect.y0 y0) in
    let y1 : FitsSigned w32 c.args.rect.y1 = search rules in
    let top = moved_at window.y0 window.y1 rect.y1 c.rows-2.result.low c.rows-2.result.high (to_z w32 (of_z w32 c.args.rect.y1))
    c.moved_into-top.result c.moved_into-top.ensures c.rows-2.ensures.low c.rows-2.ensures.high (to_z-of_z w32 rect.y1 y1) in
    elim c.then-left-right.branch [
      | then-left-right-via-then-left-right w ↦ let empty = w.if-left-right.true in no_part window rect (inl (omega (arith, ints, empty, left, right)))
      | then-left-right-via-else-left-right+then-bottom-top w ↦ let empty = w.if-bottom-top.true in no_part window rect (inr (omega (arith, ints, empty, bottom, top)))
    ]

pub number_of-requires-clause-found : goal.number_of-requires-clause-found
number_of-requires-clause-found c =
    let fits : FitsSigned w32 c.moved_into-left.result = search rules in let x0 : FitsSigned w32 c.args.rect.x0 = search rules in
    let left = moved_at c.args.window.x0 c.args.window.x1 c.args.rect.x0 c.columns.result.low c.columns.result.high (to_z w32 (of_z w32 c.args.rect.x0)) c.moved_into-left.result
    c.moved_into-left.ensures c.columns.ensures.low c.columns.ensures.high (to_z-of_z w32 c.args.rect.x0 x0) in
    subst (λ (x : ℤ). Contains c.args.places.now x) (sym (to_z-of_z w32 c.moved_into-left.result fits ∙ left)) c.requires.left

pub number_of-requires-2-clause-found : goal.number_of-requires-2-clause-found
number_of-requires-2-clause-found c =
    let fits : FitsSigned w32 c.moved_into-right.result = search rules in let x1 : FitsSigned w32 c.args.rect.x1 = search rules in
    let right = moved_at c.args.window.x0 c.args.window.x1 c.args.rect.x1 c.columns-2.result.low c.columns-2.result.high (to_z w32 (of_z w32 c.args.rect.x1)) c.moved_into-right.result
    c.moved_into-right.ensures c.columns-2.ensures.low c.columns-2.ensures.high (to_z-of_z w32 c.args.rect.x1 x1) in
    subst (λ (x : ℤ). Contains c.args.places.now x) (sym (to_z-of_z w32 c.moved_into-right.result fits ∙ right)) c.requires.right

pub invariant_of-result : goal.invariant_of-result
invariant_of-result c =
    let some = c.if-left-right.false in let high = c.if-bottom-top.false in
    let p = c.number_of.ensures.place in let q = c.number_of-2.ensures.place in
    record {
      across = less_by_place c.args.places.now c.requires.rising c.number_of.result c.number_of-2.result (omega (arith, ints, some, p, q));
      up = omega (arith, ints, high);
    }

pub returns-clause-some : goal.returns-clause-some
returns-clause-some c =
    let window = c.args.window in let rect = c.args.rect in
    let fits_left : FitsSigned w32 c.moved_into-left.result = search rules in let fits_right : FitsSigned w32 c.moved_into-right.result = search rules in
    let fits_bottom : FitsSigned w32 c.moved_into-bottom.result = search rules in let fits_top : FitsSigned w32 c.moved_into-top.result = search rules in
    let x0 : FitsSigned w32 c.args.rect.x0 = search rules in
    let left = moved_at window.x0 window.x1 rect.x0 c.columns.result.low c.columns.result.high (to_z w32 (of_z w32 c.args.rect.x0))
    c.moved_into-left.result c.moved_into-left.ensures c.columns.ensures.low c.columns.ensures.high (to_z-of_z w32 rect.x0 x0) in
    let x1 : FitsSigned w32 c.args.rect.x1 = search rules in
    let right = moved_at window.x0 window.x1 rect.x1 c.columns-2.result.low c.columns-2.result.high (to_z w32 (of_z w32 c.args.rect.x1))
    c.moved_into-right.result c.moved_into-right.ensures c.columns-2.ensures.low c.columns-2.ensures.high (to_z-of_z w32 rect.x1 x1) in
    let y0 : FitsSigned w32 c.args.rect.y0 = search rules in
    let bottom = moved_at window.y0 window.y1 rect.y0 c.rows.result.low c.rows.result.high (to_z w32 (of_z w32 c.args.rect.y0))
    c.moved_into-bottom.result c.moved_into-bottom.ensures c.rows.ensures.low c.rows.ensures.high (to_z-of_z w32 rect.y0 y0) in
    let y1 : FitsSigned w32 c.args.rect.y1 = search rules in
    let top = moved_at window.y0 window.y1 rect.y1 c.rows-2.result.low c.rows-2.result.high (to_z w32 (of_z w32 c.args.rect.y1))
    c.moved_into-top.result c.moved_into-top.ensures c.rows-2.ensures.low c.rows-2.ensures.high (to_z-of_z w32 rect.y1 y1) in
    bar_is window rect c.args.places.now c.requires.rising _ c.number_of-2.ensures.within (record {
      left = c.number_of.ensures.place ∙ to_z-of_z w32 c.moved_into-left.result fits_left ∙ left;
      right = c.number_of-2.ensures.place ∙ to_z-of_z w32 c.moved_into-right.result fits_right ∙ right;
      bottom = to_z-of_z w32 c.moved_into-bottom.result fits_bottom ∙ bottom;
      top = to_z-of_z w32 c.moved_into-top.result fits_top ∙ top;
    })
