use Rattle.std.proofs.Common.{◌∙◌, sym, subst}
use Rattle.rayon.proofs.ListFacts.{IfOk-then}
use Rattle.rayon.proofs.ToStd.{slice-AllZip}
use Rattle.rect_cover.specs.Coverings.{IsWellPlaced}
use Rattle.rect_cover.specs.inside.ShapeAnswers.{IsAnswerFor}
use Rattle.rect_cover.proofs.covering_all.cover_each.Goals as goal

pub collect-requires-clause-ready : goal.collect-requires-clause-ready
collect-requires-clause-ready g c κs within =
    rw (c.map.ensures.base, c.map.ensures.f, c.with_min_len.ensures.base, c.par_iter.ensures)
    (λ k d below one is. (subst (IsWellPlaced c.args.library.now.structures) (sym is) (c.requires.placed k d below), λ answer h. tt))

pub returns : goal.returns
returns g c =
    let collected = rw (c.map.ensures.base, c.map.ensures.f, c.with_min_len.ensures.base) at c.collect.ensures in
    IfOk-then c.collect.result _ _ collected (λ v h.
    rw h.2 (slice-AllZip h.1.0 c.args.placed.now (h.1.1 ∙ c.par_iter.ensures) (IsAnswerFor c.args.library.now.structures) h.0 h.1.2))
