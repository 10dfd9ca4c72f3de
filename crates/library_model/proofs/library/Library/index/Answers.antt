use Rattle.library_model.proofs.NameLaws.{next_name}
use Rattle.library_model.proofs.library.Library.index.Goals as goal

pub loop-structure-preserved : goal.loop-structure-preserved
loop-structure-preserved c =
    let next = rw c.as_slice-structures.ensures at c.structure-item.is in
    let more = rw c.as_slice-structures.ensures at c.loop-structure-test.true in
    next_name c.args.self.now.structures c.loop-structure.structure-index c.structure-item.result c.requires.differ more next c.loop-structure.index c.add.new.self c.in_ok-add.field-0
    c.loop-structure.invariant (rw c.as_slice.ensures at c.in_ok-add.ensures.fresh) (rw c.as_slice.ensures at c.in_ok-add.ensures.names)
