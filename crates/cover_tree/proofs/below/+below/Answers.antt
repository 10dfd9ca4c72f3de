-- a range that misses the part changes nothing, and one that has all of it changes its highest node alone; else the halves
-- are changed one after the other, and the highest node gets its widths anew
use Rattle.std.proofs.Common.{◌∙◌, ◌+◌, ◌<◌, arith, rules, inl, inr, ap, sym, subst}
use Rattle.lists.proofs.Words.{cases_lt, false≢true}
use Rattle.cover_tree.specs.TreeNodes.{node_over, times_in_cut}
use Rattle.cover_tree.specs.TreeParts.{IsChangedBy, row_node}
use Rattle.geo_core.specs.declared.counts.Node.{Node}
use Rattle.cover_tree.proofs.ChangeLaws.{changed_none, unmet, settled, left_kept, left_may, right_kept, right_may, lower_changed, left_widths}
use Rattle.cover_tree.proofs.CutLaws.{halves_highest, partly_met, partly_deep, times_partly}
use Rattle.cover_tree.proofs.PartLaws.{halved, room_of, number_fits}
use Rattle.cover_tree.proofs.WidthLaws.{node_read, widths_read, both_lower, sum_fits}
use Rattle.cover_tree.proofs.below.+below.Goals as goal

-- ---- a range that misses the part

pub below-overflow_add-end : goal.below-overflow_add-end
below-overflow_add-end g t c = let r = room_of c.args.columns.now.height c.args.part c.requires.part c.args.columns.now.room in let e = r.1 in omega arith

pub below-returns-then-misses-clause-changed : goal.below-returns-then-misses-clause-changed
below-returns-then-misses-clause-changed g t c =
    let columns = c.args.columns.now in let edit = c.args.edit in
    unmet columns.height columns.places.items edit.change edit.low edit.high c.args.part c.requires.part c.args.row.now c.requires.kept
    (elim (c.misses.ensures.0 c.if-misses.true) [ inl before ↦ inl (omega arith) | inr behind ↦ inr (omega arith) ])

pub below-returns-then-misses-clause-widths : goal.below-returns-then-misses-clause-widths
below-returns-then-misses-clause-widths g t c =
    let columns = c.args.columns.now in
    widths_read columns.height columns.places.items c.args.row.now c.args.part c.requires.part c.requires.kept _ c.get-node.ensures.node _ c.widths_in.ensures.once c.widths_in.ensures.twice

-- ---- one that meets it

pub below-change_part-requires : goal.below-change_part-requires
below-change_part-requires g t c =
    let part = c.args.part in let edit = c.args.edit in
    let before : part.from < edit.high = elim (cases_lt part.from edit.high) [
      | inl less ↦ less
      | inr past ↦ absurd (false≢true (sym c.if-misses.false ∙ c.misses.ensures.1 (inl (omega arith))))
    ] in
    let behind : edit.low < part.from + part.size = elim (cases_lt edit.low (part.from + part.size)) [
      | inl less ↦ less
      | inr past ↦ absurd (false≢true (sym c.if-misses.false ∙ c.misses.ensures.1 (inr (omega arith))))
    ] in
    λ κs lives. (omega arith, (search rules, (c.requires.row, (c.requires.part, (c.requires.kept, (c.requires.may, (c.requires.highest, (before, behind))))))))

pub below-returns-clause-apart : goal.below-returns-clause-apart
below-returns-clause-apart g t c = λ apart. absurd (false≢true (sym c.if-misses.false ∙ c.misses.ensures.1 (inl (omega arith))))

pub below-returns-clause-apart_behind : goal.below-returns-clause-apart_behind
below-returns-clause-apart_behind g t c = λ apart. absurd (false≢true (sym c.if-misses.false ∙ c.misses.ensures.1 (inr (omega arith))))

-- ---- the halves

pub change_part-overflow_add-end : goal.change_part-overflow_add-end
change_part-overflow_add-end g t c =
    let r = room_of c.args.columns.now.height c.args.part c.requires.part c.args.columns.now.room in let e = r.1 in omega arith

pub change_part-width-width-requires : goal.change_part-width-width-requires
change_part-width-width-requires g t c =
    let r = room_of c.args.columns.now.height c.args.part c.requires.part c.args.columns.now.room in let e = r.1 in omega arith

pub change_part-left-left-requires : goal.change_part-left-left-requires
change_part-left-left-requires g t c =
    let edit = c.args.edit in let part = c.args.part in let p = c.requires.part in let height = c.args.columns.now.height in
    let partly = partly_met height edit.low edit.high part p c.covers.result c.covers.ensures c.if-covers.false in
    let deep = partly_deep height edit.low edit.high part p partly c.requires.before c.requires.behind in
    record { level = deep; number = (room_of height part p c.args.columns.now.room).0 }

pub change_part-right-right-requires : goal.change_part-right-right-requires
change_part-right-right-requires g t c =
    let edit = c.args.edit in let part = c.args.part in let p = c.requires.part in let height = c.args.columns.now.height in
    let partly = partly_met height edit.low edit.high part p c.covers.result c.covers.ensures c.if-covers.false in
    let deep = partly_deep height edit.low edit.high part p partly c.requires.before c.requires.behind in
    let room = room_of height part p c.args.columns.now.room in
    record { level = deep; number = room.0; end = room.1 }

pub change_part-below-left_widths-requires : goal.change_part-below-left_widths-requires
change_part-below-left_widths-requires g t c =
    let height = c.args.columns.now.height in let places = c.args.columns.now.places.items in let edit = c.args.edit in let part = c.args.part in let p = c.requires.part in
    let partly = partly_met height edit.low edit.high part p c.covers.result c.covers.ensures c.if-covers.false in
    let deep = partly_deep height edit.low edit.high part p partly c.requires.before c.requires.behind in
    let l = c.left-left.ensures in let r = c.right-right.ensures in let left = c.left-left.result in let right = c.right-right.result in
    let h = halved height part left right p deep l.number l.level l.from l.size r.number r.level r.from r.size in
    let lower = h.levels.0 in
    let kept = left_kept height places edit.change edit.low edit.high part p left right h c.args.row.now c.requires.kept in
    let may = left_may height places edit.change edit.low edit.high part p left right h c.args.row.now c.requires.may in
    let highest = halves_highest height edit.low edit.high part p partly left right h in
    λ κs lives. (omega (arith, lower), (search rules, (c.requires.row, (h.left_part, (kept, (may, highest.0))))))

pub change_part-below-right_widths-requires : goal.change_part-below-right_widths-requires
change_part-below-right_widths-requires g t c =
    let height = c.args.columns.now.height in let places = c.args.columns.now.places.items in let edit = c.args.edit in let part = c.args.part in let p = c.requires.part in
    let partly = partly_met height edit.low edit.high part p c.covers.result c.covers.ensures c.if-covers.false in
    let deep = partly_deep height edit.low edit.high part p partly c.requires.before c.requires.behind in
    let l = c.left-left.ensures in let r = c.right-right.ensures in let left = c.left-left.result in let right = c.right-right.result in
    let h = halved height part left right p deep l.number l.level l.from l.size r.number r.level r.from r.size in
    let lower = h.levels.1 in
    let first = c.below-left_widths.ensures.changed in
    let kept = right_kept height places edit.change edit.low edit.high part p left right h c.args.row.now _ first c.requires.kept in
    let may = right_may height places edit.change edit.low edit.high part p left right h c.args.row.now _ first c.requires.may in
    let highest = halves_highest height edit.low edit.high part p partly left right h in
    λ κs lives. (omega (arith, lower), (search rules, (first.length ∙ c.requires.row, (h.right_part, (kept, (may, highest.1))))))

pub change_part-both-halves-requires : goal.change_part-both-halves-requires
change_part-both-halves-requires g t c =
    let height = c.args.columns.now.height in let places = c.args.columns.now.places.items in let edit = c.args.edit in let part = c.args.part in let p = c.requires.part in
    let partly = partly_met height edit.low edit.high part p c.covers.result c.covers.ensures c.if-covers.false in
    let deep = partly_deep height edit.low edit.high part p partly c.requires.before c.requires.behind in
    let l = c.left-left.ensures in let r = c.right-right.ensures in let left = c.left-left.result in let right = c.right-right.result in
    let h = halved height part left right p deep l.number l.level l.from l.size r.number r.level r.from r.size in
    let a = left_widths height places edit.change edit.low edit.high part p left right h
    c.args.row.now _ c.below-left_widths.ensures.changed _ c.below-right_widths.ensures.changed _ c.below-left_widths.ensures.widths in
    let b = c.below-right_widths.ensures.widths in
    record {
      once = sum_fits height places _ 1 part left right h _ _ a.once b.once c.width-width.ensures.small;
      twice = sum_fits height places _ 2 part left right h _ _ a.twice b.twice c.width-width.ensures.small;
    }

pub change_part-settle-requires-clause-halves : goal.change_part-settle-requires-clause-halves
change_part-settle-requires-clause-halves g t c =
    let height = c.args.columns.now.height in let places = c.args.columns.now.places.items in let edit = c.args.edit in let part = c.args.part in let p = c.requires.part in
    let partly = partly_met height edit.low edit.high part p c.covers.result c.covers.ensures c.if-covers.false in
    let deep = partly_deep height edit.low edit.high part p partly c.requires.before c.requires.behind in
    let l = c.left-left.ensures in let r = c.right-right.ensures in let left = c.left-left.result in let right = c.right-right.result in
    let h = halved height part left right p deep l.number l.level l.from l.size r.number r.level r.from r.size in
    let a = left_widths height places edit.change edit.low edit.high part p left right h
    c.args.row.now _ c.below-left_widths.ensures.changed _ c.below-right_widths.ensures.changed _ c.below-left_widths.ensures.widths in
    both_lower height places _ part left right h _ _ c.both-halves.result a c.below-right_widths.ensures.widths c.both-halves.ensures.once c.both-halves.ensures.twice

pub change_part-settle-requires-clause-row : goal.change_part-settle-requires-clause-row
change_part-settle-requires-clause-row g t c =
    c.below-right_widths.ensures.changed.length ∙ c.below-left_widths.ensures.changed.length ∙ c.requires.row

pub change_part-returns-clause-changed : goal.change_part-returns-clause-changed
change_part-returns-clause-changed g t c =
    let height = c.args.columns.now.height in let places = c.args.columns.now.places.items in let edit = c.args.edit in let part = c.args.part in let p = c.requires.part in
    let partly = partly_met height edit.low edit.high part p c.covers.result c.covers.ensures c.if-covers.false in
    let deep = partly_deep height edit.low edit.high part p partly c.requires.before c.requires.behind in
    let l = c.left-left.ensures in let r = c.right-right.ensures in let left = c.left-left.result in let right = c.right-right.result in
    let h = halved height part left right p deep l.number l.level l.from l.size r.number r.level r.from r.size in
    let first = c.below-left_widths.ensures.changed in let second = c.below-right_widths.ensures.changed in
    let n = number_fits height part p in
    let long = second.length ∙ first.length ∙ c.requires.row in
    let lower = lower_changed height places edit.change edit.low edit.high part p left right h c.args.row.now _ first _ second in
    settled height places edit.change edit.low edit.high part p c.args.row.now _ _ c.get-node.result.count c.settle.result lower
    (omega (arith, long, n)) c.settle.ensures.row c.settle.ensures.widths
    (λ column under.
    let node = node_read height places c.args.row.now part p c.get-node.result c.get-node.ensures.node column under in
    let none = times_partly height edit.low edit.high part p partly column under in
    subst (IsChangedBy edit.change (times_in_cut height edit.low edit.high (node_over part.level column)) (row_node height c.args.row.now part.level column).count)
    (ap (λ (n : Node). n.count) node)
    (changed_none edit.change (times_in_cut height edit.low edit.high (node_over part.level column)) (row_node height c.args.row.now part.level column).count none))

-- ---- steps

pub change_part-returns-clause-some : goal.change_part-returns-clause-some
change_part-returns-clause-some g t c =
    let e = c.get-node.ensures.step in let l = c.below-left_widths.ensures.some in let r = c.below-right_widths.ensures.some in let s = c.settle.ensures.step in omega arith

pub change_part-returns-clause-covered : goal.change_part-returns-clause-covered
change_part-returns-clause-covered g t c =
    λ begins ends. absurd (false≢true (sym c.if-covers.false ∙ c.covers.ensures.1 (omega arith, omega arith)))

pub change_part-returns-clause-from_left : goal.change_part-returns-clause-from_left
change_part-returns-clause-from_left g t c =
    let height = c.args.columns.now.height in let places = c.args.columns.now.places.items in let edit = c.args.edit in let part = c.args.part in let p = c.requires.part in
    let partly = partly_met height edit.low edit.high part p c.covers.result c.covers.ensures c.if-covers.false in
    let deep = partly_deep height edit.low edit.high part p partly c.requires.before c.requires.behind in
    let l = c.left-left.ensures in let r = c.right-right.ensures in let left = c.left-left.result in let right = c.right-right.result in
    let h = halved height part left right p deep l.number l.level l.from l.size r.number r.level r.from r.size in
    let up = h.levels.0 in let up_right = h.levels.1 in let size = h.size in let left_from = h.left_from in let right_from = h.right_from in
    let e = c.get-node.ensures.step in let s = c.settle.ensures.step in
    let first = c.below-left_widths.ensures in let second = c.below-right_widths.ensures in
    λ from_left. elim (cases_lt right.from edit.high) [
      | inl crosses ↦ let a = first.covered (omega arith) (omega arith) in let b = second.from_left (omega arith) in omega arith
      | inr short ↦ let a = first.from_left (omega arith) in let b = second.apart (omega arith) in omega arith
    ]

pub change_part-returns-clause-to_right : goal.change_part-returns-clause-to_right
change_part-returns-clause-to_right g t c =
    let height = c.args.columns.now.height in let places = c.args.columns.now.places.items in let edit = c.args.edit in let part = c.args.part in let p = c.requires.part in
    let partly = partly_met height edit.low edit.high part p c.covers.result c.covers.ensures c.if-covers.false in
    let deep = partly_deep height edit.low edit.high part p partly c.requires.before c.requires.behind in
    let l = c.left-left.ensures in let r = c.right-right.ensures in let left = c.left-left.result in let right = c.right-right.result in
    let h = halved height part left right p deep l.number l.level l.from l.size r.number r.level r.from r.size in
    let up = h.levels.0 in let up_right = h.levels.1 in let size = h.size in let left_from = h.left_from in let right_from = h.right_from in
    let e = c.get-node.ensures.step in let s = c.settle.ensures.step in
    let first = c.below-left_widths.ensures in let second = c.below-right_widths.ensures in
    λ to_right. elim (cases_lt edit.low right.from) [
      | inl crosses ↦ let a = first.to_right (omega arith) in let b = second.covered (omega arith) (omega arith) in omega arith
      | inr late ↦ let a = first.apart_behind (omega arith) in let b = second.to_right (omega arith) in omega arith
    ]

pub change_part-returns-clause-any : goal.change_part-returns-clause-any
change_part-returns-clause-any g t c =
    let height = c.args.columns.now.height in let places = c.args.columns.now.places.items in let edit = c.args.edit in let part = c.args.part in let p = c.requires.part in
    let partly = partly_met height edit.low edit.high part p c.covers.result c.covers.ensures c.if-covers.false in
    let deep = partly_deep height edit.low edit.high part p partly c.requires.before c.requires.behind in
    let l = c.left-left.ensures in let r = c.right-right.ensures in let left = c.left-left.result in let right = c.right-right.result in
    let h = halved height part left right p deep l.number l.level l.from l.size r.number r.level r.from r.size in
    let up = h.levels.0 in let up_right = h.levels.1 in let size = h.size in let left_from = h.left_from in let right_from = h.right_from in
    let e = c.get-node.ensures.step in let s = c.settle.ensures.step in
    let first = c.below-left_widths.ensures in let second = c.below-right_widths.ensures in
    elim (cases_lt right.from edit.high) [
      | inr short ↦ let a = first.any in let b = second.apart (omega arith) in omega arith
      | inl reaches ↦ elim (cases_lt edit.low right.from) [
        | inl crosses ↦ let a = first.to_right (omega arith) in let b = second.from_left (omega arith) in omega arith
        | inr late ↦ let a = first.apart_behind (omega arith) in let b = second.any in omega arith
      ]
    ]
