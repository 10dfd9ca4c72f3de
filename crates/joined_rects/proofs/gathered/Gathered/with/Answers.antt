use Rattle.std.proofs.Common.{ap, subst, ◌∙◌, List, ◌++◌}
use Rattle.geo_core.specs.declared.plane.Rect.{Rect}
use Rattle.skyline_runs.specs.Runs.{HaveSameCells}
use Rattle.joined_rects.proofs.gathered.Gathered.with.Goals as goal

pub returns-then-len-most-clause-apart : goal.returns-then-len-most-clause-apart
returns-then-len-most-clause-apart c apart =
    let is = c.in_ok-extend_from_slice.ensures.items ∙ ap (λ (old : List Rect). old ++ c.args.more.now) c.self.view_is in
    rw is apart

pub returns-clause-same : goal.returns-clause-same
returns-clause-same c =
    let is = c.in_ok-extend_from_slice.ensures.items ∙ ap (λ (old : List Rect). old ++ c.args.more.now) c.self.view_is in
    subst (λ (grown : List Rect). HaveSameCells grown c.in_ok-rects.rects.items) is c.in_ok-rects.ensures.same

pub returns-clause-apart : goal.returns-clause-apart
returns-clause-apart c apart =
    let is = c.in_ok-extend_from_slice.ensures.items ∙ ap (λ (old : List Rect). old ++ c.args.more.now) c.self.view_is in
    c.in_ok-rects.ensures.apart (rw is apart)
