use Rattle.std.proofs.Common.{sym}
use Rattle.lists.proofs.Words.{append-nil, IfOk-weaker, flat_map}
use Rattle.gds_records.specs.declared.kinds.TheConstants as kind
use Rattle.gds_write.specs.Bodies.{bare, date_entry, text_entry}
use Rattle.gds_write.specs.WellFormed.{IsWritableElement}
use Rattle.gds_write.specs.Written.{written_element}
use Rattle.gds_write.proofs.WriteLaws.{enclosed_by_two, all_written, of_next, part_written}
use Rattle.gds_write.proofs.library.write_structure.Goals as goal

pub loop-element-init : goal.loop-element-init
loop-element-init c = sym (append-nil c.write_text.new.out.items)

pub write_element-requires : goal.write_element-requires
write_element-requires c =
    let more = rw c.as_slice-element-items.ensures at c.loop-element-test.true in
    let next = rw c.as_slice-element-items.ensures at c.element-item.is in
    of_next IsWritableElement c.args.structure.now.elements c.loop-element.element-index c.element-item.result c.requires.elements more next

pub loop-element-preserved : goal.loop-element-preserved
loop-element-preserved c =
    let more = rw c.as_slice-element-items.ensures at c.loop-element-test.true in
    let next = rw c.as_slice-element-items.ensures at c.element-item.is in
    part_written written_element c.args.structure.now.elements c.loop-element.element-index c.element-item.result c.write_text.new.out.items
    c.loop-element.out.items c.write_element.new.out.items more next c.loop-element.invariant c.in_ok-write_element.ensures

pub returns : goal.returns
returns c =
    let structure = c.args.structure.now in
    let whole = rw c.as_slice-element-items.ensures at c.loop-element-test.false in
    let all = all_written written_element structure.elements c.loop-element.element-index c.write_text.new.out.items c.loop-element.out.items whole c.loop-element.invariant in
    IfOk-weaker c.write_bare.result _ _
    (λ (u : Unit {0}) h.
    enclosed_by_two c.args.out.now.items c.write_date.new.out.items c.write_text.new.out.items c.loop-element.out.items c.write_bare.new.out.items
    (date_entry kind.BGNSTR) (text_entry kind.STRNAME structure.name) (bare kind.ENDSTR) (flat_map written_element structure.elements)
    c.in_ok-write_date.ensures (rw c.as_slice.ensures at c.in_ok-write_text.ensures) all h)
    c.write_bare.ensures
