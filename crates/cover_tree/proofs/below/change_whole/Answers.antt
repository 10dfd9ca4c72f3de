-- the count of the highest node changes, all nodes below it stay, and it gets its widths anew
use Rattle.std.proofs.Common.{arith, rules, ap, sym, subst}
use Rattle.cover_tree.specs.TreeParts.{MayChange, IsChangedBy, row_node}
use Rattle.geo_core.specs.declared.counts.Node.{Node}
use Rattle.cover_tree.proofs.ChangeLaws.{lower_covered, settled, left_kept, right_kept_before}
use Rattle.cover_tree.proofs.CutLaws.{times_covered}
use Rattle.cover_tree.proofs.PartLaws.{halved, room_of, number_fits, first_under}
use Rattle.cover_tree.proofs.WidthLaws.{node_read, widths_read, both_lower, sum_fits, lower_nothing}
use Rattle.cover_tree.proofs.below.change_whole.Goals as goal

pub width-width-requires : goal.width-width-requires
width-width-requires g c = let r = room_of c.args.columns.now.height c.args.part c.requires.part c.args.columns.now.room in let e = r.1 in omega arith

-- ---- the count of the highest node

pub changed-count-requires : goal.changed-count-requires
changed-count-requires g c =
    let columns = c.args.columns.now in let edit = c.args.edit in let part = c.args.part in let p = c.requires.part in
    let first = first_under columns.height part p in
    let node = node_read columns.height columns.places.items c.args.row.now part p c.get-node.result c.get-node.ensures.node part.from first in
    let times = times_covered columns.height edit.low edit.high part p c.requires.begins c.requires.ends c.requires.highest part.from first in
    let may = c.requires.may part.level part.from (omega arith) first in
    subst (MayChange edit.change 1) (ap (λ (n : Node). n.count) node)
    (subst (λ n. MayChange edit.change n (row_node columns.height c.args.row.now part.level part.from).count) times may)

-- ---- a single column

pub settle-requires-clause-halves : goal.settle-requires-clause-halves
settle-requires-clause-halves g c =
    let columns = c.args.columns.now in
    lower_nothing columns.height columns.places.items c.args.row.now c.args.part c.if-part-eq0.true _ (search rules) (search rules)

pub returns-then-part-eq0-clause-changed : goal.returns-then-part-eq0-clause-changed
returns-then-part-eq0-clause-changed g c =
    let columns = c.args.columns.now in let edit = c.args.edit in let part = c.args.part in let p = c.requires.part in
    let height = columns.height in let places = columns.places.items in let row = c.args.row.now in
    let n = number_fits height part p in let long = c.requires.row in
    settled height places edit.change edit.low edit.high part p row row _ c.changed-count.result c.settle.result
    (lower_covered height places edit.change edit.low edit.high part p row c.requires.kept c.requires.begins c.requires.ends)
    (omega arith) c.settle.ensures.row c.settle.ensures.widths
    (λ column under.
    let node = node_read height places row part p c.get-node.result c.get-node.ensures.node column under in
    let times = times_covered height edit.low edit.high part p c.requires.begins c.requires.ends c.requires.highest column under in
    subst (λ n. IsChangedBy edit.change n (row_node height row part.level column).count c.changed-count.result) (sym times)
    (subst (λ m. IsChangedBy edit.change 1 m c.changed-count.result) (ap (λ (n : Node). n.count) (sym node)) c.changed-count.ensures))

-- ---- the halves

pub left-left-requires : goal.left-left-requires
left-left-requires g c =
    let height = c.args.columns.now.height in
    record { level = omega arith; number = (room_of height c.args.part c.requires.part c.args.columns.now.room).0 }

pub right-right-requires : goal.right-right-requires
right-right-requires g c =
    let room = room_of c.args.columns.now.height c.args.part c.requires.part c.args.columns.now.room in
    record { level = omega arith; number = room.0; end = room.1 }

pub get-left_node-requires : goal.get-left_node-requires
get-left_node-requires g c =
    let height = c.args.columns.now.height in let part = c.args.part in let p = c.requires.part in
    let l = c.left-left.ensures in let r = c.right-right.ensures in let left = c.left-left.result in let right = c.right-right.result in
    let h = halved height part left right p (omega arith) l.number l.level l.from l.size r.number r.level r.from r.size in
    let n = number_fits height left h.left_part in let long = c.requires.row in omega arith

pub get-right_node-requires : goal.get-right_node-requires
get-right_node-requires g c =
    let height = c.args.columns.now.height in let part = c.args.part in let p = c.requires.part in
    let l = c.left-left.ensures in let r = c.right-right.ensures in let left = c.left-left.result in let right = c.right-right.result in
    let h = halved height part left right p (omega arith) l.number l.level l.from l.size r.number r.level r.from r.size in
    let n = number_fits height right h.right_part in let long = c.requires.row in omega arith

pub both-halves-requires : goal.both-halves-requires
both-halves-requires g c =
    let height = c.args.columns.now.height in let places = c.args.columns.now.places.items in let edit = c.args.edit in let part = c.args.part in let p = c.requires.part in
    let row = c.args.row.now in
    let l = c.left-left.ensures in let r = c.right-right.ensures in let left = c.left-left.result in let right = c.right-right.result in
    let h = halved height part left right p (omega arith) l.number l.level l.from l.size r.number r.level r.from r.size in
    let a = widths_read height places row left h.left_part (left_kept height places edit.change edit.low edit.high part p left right h row c.requires.kept)
    _ c.get-left_node.ensures.node _ c.widths_in-left_widths.ensures.once c.widths_in-left_widths.ensures.twice in
    let b = widths_read height places row right h.right_part (right_kept_before height places edit.change edit.low edit.high part p left right h row c.requires.kept)
    _ c.get-right_node.ensures.node _ c.widths_in-right_widths.ensures.once c.widths_in-right_widths.ensures.twice in
    record {
      once = sum_fits height places _ 1 part left right h _ _ a.once b.once c.width-width.ensures.small;
      twice = sum_fits height places _ 2 part left right h _ _ a.twice b.twice c.width-width.ensures.small;
    }

pub settle-requires-2-clause-halves : goal.settle-requires-2-clause-halves
settle-requires-2-clause-halves g c =
    let height = c.args.columns.now.height in let places = c.args.columns.now.places.items in let edit = c.args.edit in let part = c.args.part in let p = c.requires.part in
    let row = c.args.row.now in
    let l = c.left-left.ensures in let r = c.right-right.ensures in let left = c.left-left.result in let right = c.right-right.result in
    let h = halved height part left right p (omega arith) l.number l.level l.from l.size r.number r.level r.from r.size in
    let a = widths_read height places row left h.left_part (left_kept height places edit.change edit.low edit.high part p left right h row c.requires.kept)
    _ c.get-left_node.ensures.node _ c.widths_in-left_widths.ensures.once c.widths_in-left_widths.ensures.twice in
    let b = widths_read height places row right h.right_part (right_kept_before height places edit.change edit.low edit.high part p left right h row c.requires.kept)
    _ c.get-right_node.ensures.node _ c.widths_in-right_widths.ensures.once c.widths_in-right_widths.ensures.twice in
    both_lower height places row part left right h _ _ c.both-halves.result a b c.both-halves.ensures.once c.both-halves.ensures.twice

pub returns-clause-changed : goal.returns-clause-changed
returns-clause-changed g c =
    let columns = c.args.columns.now in let edit = c.args.edit in let part = c.args.part in let p = c.requires.part in
    let height = columns.height in let places = columns.places.items in let row = c.args.row.now in
    let n = number_fits height part p in let long = c.requires.row in
    settled height places edit.change edit.low edit.high part p row row _ c.changed-count.result c.settle-2.result
    (lower_covered height places edit.change edit.low edit.high part p row c.requires.kept c.requires.begins c.requires.ends)
    (omega arith) c.settle-2.ensures.row c.settle-2.ensures.widths
    (λ column under.
    let node = node_read height places row part p c.get-node.result c.get-node.ensures.node column under in
    let times = times_covered height edit.low edit.high part p c.requires.begins c.requires.ends c.requires.highest column under in
    subst (λ n. IsChangedBy edit.change n (row_node height row part.level column).count c.changed-count.result) (sym times)
    (subst (λ m. IsChangedBy edit.change 1 m c.changed-count.result) (ap (λ (n : Node). n.count) (sym node)) c.changed-count.ensures))
