use Rattle.std.proofs.Common.{rules, refl, subst, sym, ◌∙◌}
use Rattle.lists.specs.ByteLists.{AreBytes}
use Rattle.library_model.proofs.laws.SameParts.{same_library}
use Rattle.gds_write.specs.WellFormed.{IsWellFormed}
use Rattle.region_out.specs.RegionFits.{name_fits}
use Rattle.region_out.specs.RegionLibraries.{AreUnits, region_library_of}
use Rattle.region_out.proofs.FormLaws.{same_cons, is_well_formed}
use Rattle.region_out.proofs.library.region_library.Goals as goal

pub invariant_of-result-clause-name_fits : goal.invariant_of-result-clause-name_fits
invariant_of-result-clause-name_fits c = subst AreBytes (sym c.in_ok-region_name.ensures) name_fits

pub invariant_of-result-clause-units_fit : goal.invariant_of-result-clause-units_fit
invariant_of-result-clause-units_fit c = c.tell_bytes.ensures

pub returns-clause-exact : goal.returns-clause-exact
returns-clause-exact c =
    let fit : AreUnits c.args.units = record { count = search rules; bytes = c.tell_bytes.ensures } in
    let structures = c.from_vec.ensures ∙ c.in_ok-structures.ensures.items ∙ same_cons c.in_ok-region_structure.ensures refl in
    (fit, same_library _ (region_library_of c.args.rects.now c.args.units fit) c.in_ok-region_name.ensures refl structures)

pub returns-clause-well_formed : goal.returns-clause-well_formed
returns-clause-well_formed c =
    let made = returns-clause-exact c in subst IsWellFormed (sym made.1) (is_well_formed c.args.rects.now c.args.units made.0)
