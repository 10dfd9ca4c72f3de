use Rattle.std.proofs.Common.{refl, rules, ◌≡◌}
use Rattle.lists.proofs.Words.{zip}
use Rattle.std.proofs.lemmas.Iterator.{cases_from_all, YieldsList-from_slice, YieldsList-from_zip}
use Rattle.std.proofs.lemmas.Iterator.Search.{true_from_All}
use Rattle.std.proofs.lemmas.List.Elements.{All-from_all_within}
use Rattle.outlines.specs.Outlines.{Edge, IsAlongAxis, edges_of}
use Rattle.outlines.proofs.EdgeLaws.{edges_begun}
use Rattle.outlines.proofs.edges.are_along_axes.Goals as goal

pub returns : goal.returns
returns c =
    let points = c.args.points.now in
    let others = c.in-Some.others.now in
    let Slanted : Edge → Type 0 = λ e. IsAlongAxis e → ⊥ in
    let edges : zip points others ≡ edges_of points = edges_begun points others points others c.in-Some.field-0-0.now c.in-Some.ensures.cases.0 refl refl in
    let ran = rw edges at (cases_from_all c.all.new.self _ c.all.result IsAlongAxis Slanted c.all.ensures.ran
    (YieldsList-from_zip (YieldsList-from_slice points (cc)) (YieldsList-from_slice others (cc))) (λ x q k. search rules) (λ x q k. search rules)) in (
      λ t. All-from_all_within IsAlongAxis (edges_of points) (rw t at ran),
      true_from_All IsAlongAxis Slanted c.all.result (edges_of points) (λ e yes no. no yes) ran,
    )
