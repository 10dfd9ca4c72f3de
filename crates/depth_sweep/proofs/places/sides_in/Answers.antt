use Rattle.std.proofs.Common.{rules, sym, ap₂, ◌∙◌, [], ◌∷◌, ℤ, w32, FitsSigned, to_z, of_z}
use Rattle.lists.proofs.Words.{to_z-of_z}
use Rattle.depth_sweep.specs.inside.SweepPlaces.{moved_sides}
use Rattle.depth_sweep.proofs.PlaceLaws.{moved_at}
use Rattle.depth_sweep.proofs.Sums.{pushed_two}
use Rattle.depth_sweep.proofs.places.sides_in.Goals as goal

pub loop-rect-preserved : goal.loop-rect-preserved
loop-rect-preserved c =
    let low : FitsSigned w32 c.moved_into.result = search rules in
    let high : FitsSigned w32 c.moved_into-in-loop-rect.result = search rules in
    let x0 : FitsSigned w32 c.rect-item.result.x0 = search rules in
    let x1 : FitsSigned w32 c.rect-item.result.x1 = search rules in
    let left = moved_at c.args.window.x0 c.args.window.x1 c.rect-item.result.x0 c.columns.result.low c.columns.result.high (to_z w32 (of_z w32 c.rect-item.result.x0))
    c.moved_into.result
    c.moved_into.ensures c.columns.ensures.low c.columns.ensures.high (to_z-of_z w32 c.rect-item.result.x0 x0) in
    let right = moved_at c.args.window.x0 c.args.window.x1 c.rect-item.result.x1 c.columns-in-loop-rect.result.low c.columns-in-loop-rect.result.high (to_z w32 (of_z w32 c.rect-item.result.x1))
    c.moved_into-in-loop-rect.result
    c.moved_into-in-loop-rect.ensures c.columns-in-loop-rect.ensures.low c.columns-in-loop-rect.ensures.high (to_z-of_z w32 c.rect-item.result.x1 x1) in
    pushed_two (moved_sides c.args.window) c.args.rects.now c.loop-rect.rect-index c.rect-item.result _ _ c.loop-rect.sides.items c.push.new.self.items c.push-in-loop-rect.new.self.items
    c.loop-rect-test.true c.rect-item.is
    (ap₂ (λ (a b : ℤ). a ∷ b ∷ []) (sym (to_z-of_z w32 c.moved_into.result low ∙ left)) (sym (to_z-of_z w32 c.moved_into-in-loop-rect.result high ∙ right)))
    c.loop-rect.invariant c.in_ok-push.ensures.items c.in_ok-push-2.ensures.items
