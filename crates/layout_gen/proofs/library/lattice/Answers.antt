use Rattle.std.proofs.Common.{refl}
use Rattle.library_model.proofs.laws.SameParts.{same_lattice}
use Rattle.layout_gen.proofs.GeneratedLaws.{as_many}
use Rattle.layout_gen.specs.Generated as generated
use Rattle.layout_gen.proofs.library.lattice.Goals as goal

pub returns : goal.returns
returns c =
    let same = as_many c.args.columns c.requires.some c.requires.few in
    same_lattice _ (generated.lattice c.args.columns) same same refl refl
