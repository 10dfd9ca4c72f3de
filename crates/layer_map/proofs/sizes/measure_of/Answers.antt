use Rattle.std.proofs.Common.{ap, sym, ◌∙◌}
use Rattle.layer_map.specs.DocumentSizes.{measured_by}
use Rattle.layer_map.proofs.FindLaws.{found, none_found}
use Rattle.layer_map.proofs.VersionLaws.{are_radii, are_sides}
use Rattle.layer_map.proofs.sizes.measure_of.Goals as goal

pub returns-in-Some-whole_in : goal.returns-in-Some-whole_in
returns-in-Some-whole_in c = sym (are_sides _ _ (found c.in-Some-whole_in.ensures)) ∙ ap measured_by c.in-Some.ensures

pub returns-in-None : goal.returns-in-None
returns-in-None c = sym (are_radii _ (none_found c.in-None.ensures)) ∙ ap measured_by c.in-Some.ensures
