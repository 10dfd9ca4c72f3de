use Rattle.std.proofs.Common.{refl, ap, Some}
use Rattle.library_model.proofs.laws.SameParts.{same_reference, same_turn}
use Rattle.layout_gen.specs.Generated as generated
use Rattle.layout_gen.proofs.library.cell_array.Goals as goal

pub returns : goal.returns
returns c =
    let array = generated.cell_array c.args.columns in
    same_reference _ array refl c.in_ok-name.ensures (same_turn _ array.turn refl refl) c.corner.ensures (ap Some c.lattice.ensures)
