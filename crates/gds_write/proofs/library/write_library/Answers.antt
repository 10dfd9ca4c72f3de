use Rattle.std.proofs.Common.{[], sym}
use Rattle.lists.proofs.Words.{flat_map, append-nil}
use Rattle.gds_records.specs.declared.kinds.TheConstants as kind
use Rattle.gds_write.specs.Bodies.{bare}
use Rattle.gds_write.specs.WellFormed.{IsWritableStructure}
use Rattle.gds_write.specs.Written.{written_head, written_structure}
use Rattle.gds_write.proofs.WriteLaws.{enclosed, all_written, of_next, part_written}
use Rattle.gds_write.proofs.library.write_library.Goals as goal

pub loop-structure-init : goal.loop-structure-init
loop-structure-init c = sym (append-nil c.write_library_head.new.out.items)

pub write_structure-requires : goal.write_structure-requires
write_structure-requires c =
    let more = rw c.as_slice-structure-items.ensures at c.loop-structure-test.true in
    let next = rw c.as_slice-structure-items.ensures at c.structure-item.is in
    of_next IsWritableStructure c.args.library.now.structures c.loop-structure.structure-index c.structure-item.result c.requires.structures more next

pub loop-structure-preserved : goal.loop-structure-preserved
loop-structure-preserved c =
    let more = rw c.as_slice-structure-items.ensures at c.loop-structure-test.true in
    let next = rw c.as_slice-structure-items.ensures at c.structure-item.is in
    part_written written_structure c.args.library.now.structures c.loop-structure.structure-index c.structure-item.result c.write_library_head.new.out.items
    c.loop-structure.out.items c.write_structure.new.out.items more next c.loop-structure.invariant c.in_ok-write_structure.ensures

pub returns : goal.returns
returns c =
    let library = c.args.library.now in
    let whole = rw c.as_slice-structure-items.ensures at c.loop-structure-test.false in
    enclosed [] c.write_library_head.new.out.items c.loop-structure.out.items c.write_bare.new.out.items (written_head library)
    (flat_map written_structure library.structures) (bare kind.ENDLIB) (rw c.new-out.ensures.items at c.in_ok-write_library_head.ensures)
    (all_written written_structure library.structures c.loop-structure.structure-index c.write_library_head.new.out.items c.loop-structure.out.items whole c.loop-structure.invariant)
    c.in_ok-write_bare.ensures
