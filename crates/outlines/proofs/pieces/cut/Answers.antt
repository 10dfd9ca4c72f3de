use Rattle.std.proofs.Common.{◌≡◌, w32, w64, int_lt, true, false, sym, subst, rules}
use Rattle.std.specs.List.Sorted.{IsPartitionPoint}
use Rattle.std.proofs.lemmas.List.Sorted.{IsPartitionPoint-from_clause}
use Rattle.lists.proofs.Words.{to_z-of_z}
use Rattle.outlines.specs.declared.piece.Piece.{Piece}
use Rattle.outlines.proofs.PieceLaws.{IsGap, cut_kept, cut_same, gap_at, parted_left}
use Rattle.outlines.proofs.pieces.cut.Goals as goal

gap : (c : goal.In_ok-insert) → IsGap c.args.pieces.now.items c.partition_point-number.result c.args.column
gap c =
    let pieces = c.args.pieces.now.items in
    let number = c.partition_point-number.result in
    let column = c.args.column in
    let point : IsPartitionPoint (λ (p : Piece). int_lt p.column column ≡ true) (λ p. int_lt p.column column ≡ false) c.deref.result.now number =
    IsPartitionPoint-from_clause (λ (p : Piece). int_lt p.column column) c.deref.result.now number c.partition_point-number.ensures.partitioned
    (rw c.deref.ensures.value (parted_left pieces column c.requires.rising)) (λ a r q k. search rules) in
    let begins = rw (c.as_slice.ensures.value, to_z-of_z w32 column c.ranges.column) at c.begins_at.ensures in
    gap_at pieces number column c.requires.rising (rw c.deref.ensures.value at c.partition_point-number.ensures.bound) (rw c.deref.ensures.value at point)
    (λ place. let yes = begins.1 place in let no = c.if-begins_at.false in cc)

pub returns-clause-same : goal.returns-clause-same
returns-clause-same c =
    let pieces = c.args.pieces.now.items in
    let stands = rw c.as_slice-2.ensures.value at c.winding_before-winding.ensures in
    rw c.in_ok-insert.ensures.items (cut_same pieces c.partition_point-number.result _
    (subst (IsGap pieces c.partition_point-number.result) (sym (to_z-of_z w32 c.args.column c.ranges.column)) (gap c))
    (rw (to_z-of_z w64 c.winding_before-winding.result (search rules)) stands) c.requires.rising)

pub returns-clause-kept : goal.returns-clause-kept
returns-clause-kept c =
    let same = to_z-of_z w32 c.args.column c.ranges.column in
    rw c.in_ok-insert.ensures.items (cut_kept c.args.pieces.now.items c.partition_point-number.result _
    (subst (IsGap c.args.pieces.now.items c.partition_point-number.result) (sym same) (gap c)) c.args.column same)
