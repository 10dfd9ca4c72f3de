use Rattle.std.proofs.Common.{IfOk, List, subst}
use Rattle.geo_core.specs.declared.plane.Rect.{Rect}
use Rattle.skyline_runs.specs.Runs.{AreApart, HaveSameCells}
use Rattle.joined_rects.proofs.gathered.Gathered.finish.Goals as goal

pub returns-clause-same : goal.returns-clause-same
returns-clause-same c = subst (λ (rects : List Rect). IfOk c.joined.result (λ all. HaveSameCells rects all.items))
    c.self.view_is c.joined.ensures.same

pub returns-clause-apart : goal.returns-clause-apart
returns-clause-apart c = subst (λ (rects : List Rect). AreApart rects → IfOk c.joined.result (λ all. AreApart all.items))
    c.self.view_is c.joined.ensures.apart
