use Rattle.std.proofs.Common.{refl, ◌∙◌}
use Rattle.library_model.proofs.laws.SameParts.{same_library}
use Rattle.layout_gen.proofs.GeneratedLaws.{same_cons}
use Rattle.layout_gen.specs.Generated as generated
use Rattle.layout_gen.proofs.library.library_of.Goals as goal

pub returns : goal.returns
returns c =
    same_library _ (generated.generated_library c.args.columns) c.in_ok-name.ensures refl
    (c.from_vec.ensures ∙ c.in_ok-structures.ensures.items ∙ same_cons c.in_ok-cell.ensures (same_cons c.in_ok-top.ensures refl))
