use Rattle.std.proofs.Common.{refl, subst, sym, ◌∙◌}
use Rattle.library_model.proofs.laws.SameParts.{same_shape}
use Rattle.library_model.specs.Ranges.{ArePoints}
use Rattle.region_out.specs.RegionFits.{outline_fits}
use Rattle.region_out.specs.RegionLibraries.{region_boundary}
use Rattle.region_out.proofs.library.boundary.Goals as goal

pub invariant_of-result-clause-points_fit : goal.invariant_of-result-clause-points_fit
invariant_of-result-clause-points_fit c =
    subst ArePoints (sym (c.from_vec.ensures ∙ c.in_ok-points.ensures.items ∙ c.outline_of.ensures)) (outline_fits c.args.rect)

pub returns : goal.returns
returns c = same_shape _ (region_boundary c.args.rect) refl refl refl refl (c.from_vec.ensures ∙ c.in_ok-points.ensures.items ∙ c.outline_of.ensures)
