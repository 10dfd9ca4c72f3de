use Rattle.std.proofs.Common.{◌+◌, ◌∙◌, ap, [], ◌++◌, length, get_or, take_all, arith}
use Rattle.lists.proofs.Words.{flat_map, range_with_len, length-range_with_len, get_or_read}
use Rattle.lists.proofs.Reading.{gained_more}
use Rattle.net_extract.specs.Standing.{groups_standing}
use Rattle.net_extract.proofs.StandingLaws.{first_clusters, cluster_more, groups_at}
use Rattle.net_extract.proofs.metal_terminals.add_clusters.Goals as goal

pub loop-cut-preserved : goal.loop-cut-preserved
loop-cut-preserved c =
    let ends = c.args.ends.now in
    let groups = c.args.groups.now in
    let metal = c.args.metal in
    let k = c.loop-cut.cut in
    let list_is = c.as_slice.ensures ∙ get_or_read groups k c.index-groups-cut.result c.loop-cut-test.true c.index-groups-cut.is [] in
    gained_more _ _ _ (first_clusters ends groups metal k) (groups_at ends groups metal k) (first_clusters ends groups metal (k + 1)) c.loop-cut.invariant
    (c.in_ok-add_groups.ensures ∙ ap (λ gs. c.loop-cut.terminals.items ++ groups_standing metal (get_or ends k (0, 0)) k gs) list_is)
    (cluster_more ends groups metal k c.loop-cut-test.true)

pub returns : goal.returns
returns c =
    let groups = c.args.groups.now in
    let f = groups_at c.args.ends.now groups c.args.metal in
    let past = c.loop-cut-test.false in
    c.loop-cut.invariant ∙ ap (λ xs. c.args.terminals.now.items ++ flat_map f xs) (take_all c.loop-cut.cut (range_with_len 0 (length groups)) (omega (arith, length-range_with_len 0 (length groups))))
