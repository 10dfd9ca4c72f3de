use Rattle.std.proofs.Common.{ℕ, ◌+◌, ◌*◌, ◌^◌, ◌≤◌, arith, length, subst, Vec}
use Rattle.lists.proofs.Words.{Global, IfOk-weaker}
use Rattle.half_boxes.specs.inside.Ranks.{TouchAlike}
use Rattle.half_boxes.specs.inside.Scans.{AreTouchingPairs}
use Rattle.half_boxes.proofs.GrowthLaws as growth
use Rattle.half_boxes.proofs.TouchLaws.{link_touches, pairs_few, pairs_join, touching_joined}
use Rattle.half_boxes.proofs.touching.links_of.Goals as goal

pub returns-in-Some-clause-touching : goal.returns-in-Some-clause-touching
returns-in-Some-clause-touching c =
    let same : TouchAlike c.args.boxes.now c.as_slice.result.now = rw c.as_slice.ensures.value (rw c.in-Some.is at c.in_ok-rects.ensures.some) in
    IfOk-weaker _ _ _ (λ (pairs : Vec (ℕ × ℕ) Global) s. link_touches c.args.boxes.now c.as_slice.result.now same pairs.items s) c.touch_links.ensures.touching

pub returns-in-Some-clause-joined : goal.returns-in-Some-clause-joined
returns-in-Some-clause-joined c =
    let same : TouchAlike c.args.boxes.now c.as_slice.result.now = rw c.as_slice.ensures.value (rw c.in-Some.is at c.in_ok-rects.ensures.some) in
    IfOk-weaker _ _ _ (λ (pairs : Vec (ℕ × ℕ) Global) s. touching_joined c.args.boxes.now c.as_slice.result.now same pairs.items s) c.touch_links.ensures.joined

pub returns-in-Some-clause-few : goal.returns-in-Some-clause-few
returns-in-Some-clause-few c =
    let same : TouchAlike c.args.boxes.now c.as_slice.result.now = rw c.as_slice.ensures.value (rw c.in-Some.is at c.in_ok-rects.ensures.some) in
    IfOk-weaker _ _ _ (λ (pairs : Vec (ℕ × ℕ) Global) s. subst (λ n. (levels : ℕ) → n ≤ 2 ^ levels → length pairs.items ≤ 51 * n * (levels + 1)) same.one_each s) c.touch_links.ensures.few

pub returns-in-None-clause-few : goal.returns-in-None-clause-few
returns-in-None-clause-few c = IfOk-weaker _ _ _ (λ (pairs : Vec (ℕ × ℕ) Global) s. growth.pairs_few (length c.args.boxes.now) (length pairs.items) s) c.grown_links.ensures.few

pub returns-then-boxes-le-SHORT_LIST-clause-touching : goal.returns-then-boxes-le-SHORT_LIST-clause-touching
returns-then-boxes-le-SHORT_LIST-clause-touching c = IfOk-weaker _ _ _ (λ (pairs : Vec (ℕ × ℕ) Global) (s : AreTouchingPairs c.args.boxes.now pairs.items). s.touching) c.touching_pairs.ensures

pub returns-then-boxes-le-SHORT_LIST-clause-joined : goal.returns-then-boxes-le-SHORT_LIST-clause-joined
returns-then-boxes-le-SHORT_LIST-clause-joined c = IfOk-weaker _ _ _ (λ (pairs : Vec (ℕ × ℕ) Global) s. pairs_join c.args.boxes.now pairs.items s) c.touching_pairs.ensures

pub returns-then-boxes-le-SHORT_LIST-clause-few : goal.returns-then-boxes-le-SHORT_LIST-clause-few
returns-then-boxes-le-SHORT_LIST-clause-few c =
    let short = c.if-boxes-le-SHORT_LIST.true in
    IfOk-weaker _ _ _ (λ (pairs : Vec (ℕ × ℕ) Global) s. pairs_few c.args.boxes.now pairs.items s (omega arith)) c.touching_pairs.ensures
