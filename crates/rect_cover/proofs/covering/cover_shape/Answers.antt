use Rattle.std.proofs.Common.{inl, inr, subst, w16, w32, rules, FitsSigned}
use Rattle.first_refusal.specs.Answers.{Answers}
use Rattle.rect_cover.specs.declared.fault.CoverFault.TheVariants.{Memory}
use Rattle.rect_cover.specs.Coverings.{CoverComesTo, with_items}
use Rattle.rect_cover.proofs.PlacedLaws.{style_kept}
use Rattle.rect_cover.proofs.covering.cover_shape.Goals as goal

pub returns-in-Boundary : goal.returns-in-Boundary
returns-in-Boundary c = elim c.in-Boundary.is [ inl is ↦ rw is c.cover_closed.ensures | inr is ↦ rw is c.cover_closed.ensures ]

pub returns-in-Path : goal.returns-in-Path
returns-in-Path c =
    let path = c.in-Path in
    let p : FitsSigned w16 path.pathtype = search rules in
    let w : FitsSigned w32 path.width = search rules in
    let b : FitsSigned w32 path.begin = search rules in
    let e : FitsSigned w32 path.end = search rules in
    subst (λ kind. Answers Memory (λ outcome. CoverComesTo kind c.args.points.now c.args.at (with_items outcome)) c.cover_path.result)
    (style_kept c.args.kind path.pathtype path.width path.begin path.end p w b e path.is) c.cover_path.ensures
