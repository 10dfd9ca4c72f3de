use Rattle.std.proofs.Common.{refl, subst, sym}
use Rattle.lists.specs.ByteLists.{AreBytes}
use Rattle.library_model.proofs.laws.SameParts.{same_structure}
use Rattle.region_out.specs.RegionFits.{name_fits}
use Rattle.region_out.specs.RegionLibraries.{region_structure}
use Rattle.region_out.proofs.library.region_structure.Goals as goal

pub invariant_of-result : goal.invariant_of-result
invariant_of-result c = record { name_fits = subst AreBytes (sym c.in_ok-region_name.ensures) name_fits }

pub returns : goal.returns
returns c = same_structure _ (region_structure c.args.rects.now) refl c.in_ok-region_name.ensures c.in_ok-boundaries.ensures
