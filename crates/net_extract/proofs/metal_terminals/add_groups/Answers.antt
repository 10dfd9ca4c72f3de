use Rattle.std.proofs.Common.{◌+◌, ◌∙◌, refl, sym, ap, [], ◌∷◌, ◌++◌, length, take_all, arith, Some, None}
use Rattle.lists.proofs.Words.{append-nil, flat_map, enumerate_from, length-enumerate_from, slice_get_read}
use Rattle.lists.proofs.Reading.{gained_more}
use Rattle.net_extract.specs.Standing.{standing_group}
use Rattle.net_extract.proofs.StandingLaws.{first_groups, group_more, placed}
use Rattle.net_extract.proofs.metal_terminals.add_groups.Goals as goal
use Rattle.net_extract.proofs.metal_terminals.add_groups.Goals.{in-Some+in_ok-push, in_default}

pub loop-number-preserved : goal.loop-number-preserved
loop-number-preserved c =
    let groups = c.args.groups.now in
    let metal = c.args.metal in
    let ends = c.args.ends in
    let cut = c.args.cut in
    let k = c.loop-number.number in
    let group = c.index-groups-number.result in
    let at = slice_get_read groups (length groups) k group refl c.loop-number-test.true c.index-groups-number.is in
    let before = first_groups metal ends cut groups in
    elim c.match-island_of.branch [
      | in-Some+in_ok-push w ↦ rw w.terminals-is
          (gained_more _ _ _ (before k) (placed cut k w.in-Some.island ∷ []) (before (k + 1)) c.loop-number.invariant w.in_ok-push.ensures.items
          (group_more metal ends cut groups k group (Some w.in-Some.island) at (sym w.in-Some.is ∙ c.island_of.ensures)))
      | in_default w ↦ rw w.terminals-is
          (gained_more _ _ _ (before k) [] (before (k + 1)) c.loop-number.invariant (sym (append-nil _))
          (group_more metal ends cut groups k group None at (sym w.in_default.is ∙ c.island_of.ensures)))
    ]

pub returns : goal.returns
returns c =
    let groups = c.args.groups.now in
    let f = standing_group c.args.metal c.args.ends c.args.cut in
    let past = c.loop-number-test.false in
    c.loop-number.invariant ∙ ap (λ xs. c.args.terminals.now.items ++ flat_map f xs) (take_all c.loop-number.number (enumerate_from 0 groups) (omega (arith, length-enumerate_from 0 groups)))
