use Rattle.std.proofs.Common.{◌≤◌, ◌<◌, length, take_all, refl, ap, map, ◌+◌, ◌∙◌, arith}
use Rattle.lists.proofs.Words.{slice_get_read}
use Rattle.net_extract.proofs.IslandLaws.{label_small, islands_from}
use Rattle.net_extract.proofs.SlimLaws.{islands_slim}
use Rattle.net_extract.proofs.metals.islands_among.Goals as goal

pub overflow_add-first : goal.overflow_add-first
overflow_add-first c =
    let labels = c.in_ok-labels.labels.items in
    let labelling = c.in_ok-labels.ensures.least in
    let one_each = labelling.one_each in
    let k = c.loop-k.k in
    let small : k < length labels = omega arith in
    let low : c.index.result.now ≤ k = label_small c.args.rects.now labels labelling k c.index.result.now (slice_get_read labels (length labels) k c.index.result.now refl small c.index.ensures) in
    omega arith

pub returns : goal.returns
returns c =
    let rects = c.args.rects.now in
    let labels = c.in_ok-labels.labels.items in
    let labelling = c.in_ok-labels.ensures.least in
    let one_each = labelling.one_each in
    let k = c.loop-k.k in
    let past : length labels ≤ k = omega arith in
    let islands = islands_from rects labels c.args.first _ (c.loop-k.invariant.rects ∙ take_all k rects c.loop-k-test.false)
    (c.loop-k.invariant.labels ∙ ap (map (λ n. c.args.first + n)) (take_all k labels past)) labelling c.in_ok-labels.ensures.islands in
    rw c.from_vec.ensures (islands_slim rects _ _ _ _ islands c.in_ok-slim.ensures)
