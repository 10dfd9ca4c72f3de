use Rattle.std.proofs.Common.{[], ◌∷◌}
use Rattle.lists.proofs.Words.{IfOk-weaker}
use Rattle.gds_records.specs.declared.forms.TheConstants as form
use Rattle.gds_records.specs.declared.kinds.TheConstants as kind
use Rattle.gds_write.specs.Bodies.{entry, date_entry, text_entry, unsigned_entry}
use Rattle.gds_write.proofs.WriteLaws.{appended, two_written}
use Rattle.gds_write.proofs.library.write_library_head.Goals as goal

pub returns : goal.returns
returns c =
    let library = c.args.library.now in
    let version = unsigned_entry kind.HEADER 600 in
    let begin = date_entry kind.BGNLIB in
    let name = text_entry kind.LIBNAME library.name in
    let units = entry kind.UNITS form.EIGHT_BYTE_REALS library.units in
    let front = two_written c.args.out.now.items c.write_unsigned.new.out.items c.write_date.new.out.items version begin c.in_ok-write_unsigned.ensures c.in_ok-write_date.ensures in
    let named = rw c.as_slice.ensures at c.in_ok-write_text.ensures in
    IfOk-weaker c.write_record.result _ _
    (λ (u : Unit {0}) h.
    appended c.args.out.now.items c.write_date.new.out.items c.write_record.new.out.items (version ∷ begin ∷ []) (name ∷ units ∷ []) front
    (two_written c.write_date.new.out.items c.write_text.new.out.items c.write_record.new.out.items name units named h))
    c.write_record.ensures
