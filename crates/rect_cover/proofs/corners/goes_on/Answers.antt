use Rattle.std.proofs.Common.{◌+◌, ◌-◌, ◌≤◌, ◌≡◌, ◌↔◌, length, drop, pos, refl, sym, ap, subst, ◌∙◌, arith, rules, true, false, All}
use Rattle.lists.proofs.Words.{length-drop}
use Rattle.lists.proofs.Reading.{left_fails, left_holds, none_left}
use Rattle.geo_core.specs.declared.plane.Point.{Point}
use Rattle.rect_cover.specs.ShapeChecks.{GoesOn}
use Rattle.rect_cover.specs.PathPieces.{opposite}
use Rattle.rect_cover.proofs.ReversalLaws.{pairs_of, pairs_parted, no_pair}
use Rattle.rect_cover.proofs.corners.goes_on.Goals as goal

pub returns-then-eq : goal.returns-then-eq
returns-then-eq c =
    let i = c.loop-i.i in
    let h : c.between.result ≡ c.opposite.result = search rules in
    let back = sym c.between.ensures ∙ h ∙ c.opposite.ensures ∙ ap opposite c.between-before.ensures in
    let none : Point = record { x = pos 0; y = pos 0 } in
    let next = pairs_parted c.args.corners.now (i - 2) (i - 1) i none (omega arith) (omega arith) c.loop-i-test.true in (
      λ no. let f : false ≡ true = no in cc,
      λ all. absurd (left_fails GoesOn _ _ c.loop-i.invariant _ _ next (λ on. on back) all),
    )

pub loop-i-preserved : goal.loop-i-preserved
loop-i-preserved c =
    let corners = c.args.corners.now in
    let i = c.loop-i.i in
    let h : c.between.result ≡ c.opposite.result → ⊥ = search rules in
    let none : Point = record { x = pos 0; y = pos 0 } in
    let next = pairs_parted corners (i - 2) (i - 1) i none (omega arith) (omega arith) c.loop-i-test.true in
    let behind : i - 1 ≡ i + 1 - 2 = omega arith in
    subst (λ n. All GoesOn (pairs_of (drop n corners)) ↔ All GoesOn (pairs_of corners)) behind (left_holds GoesOn _ _ c.loop-i.invariant _ _ next
    (λ e. h (c.between.ensures ∙ e ∙ sym (c.opposite.ensures ∙ ap opposite c.between-before.ensures))))

pub returns : goal.returns
returns c =
    let few : length (drop (c.loop-i.i - 2) c.args.corners.now) ≤ 2 = simp length-drop (omega arith) in
    ((λ _. none_left GoesOn _ _ c.loop-i.invariant (no_pair _ few)), λ _. refl)
