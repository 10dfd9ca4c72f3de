use Rattle.std.proofs.Common.{refl, ◌∙◌}
use Rattle.library_model.proofs.laws.SameParts.{same_shape}
use Rattle.layout_gen.proofs.GeneratedLaws.{same_cons}
use Rattle.layout_gen.specs.Generated as generated
use Rattle.layout_gen.proofs.library.boundary.Goals as goal

pub returns : goal.returns
returns c small =
    same_shape _ (generated.boundary c.args.layer c.args.right c.args.bottom c.args.top small) refl refl refl refl
    (c.from_vec.ensures ∙ c.in_ok-points.ensures.items
    ∙ same_cons c.corner.ensures (same_cons c.corner-2.ensures (same_cons c.corner-3.ensures (same_cons c.corner-4.ensures (same_cons c.corner-5.ensures refl)))))
