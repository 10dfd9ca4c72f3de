use Rattle.std.proofs.Common.{◌≡◌, ◌-◌, ◌<◌, ◌∙◌, refl, drop, take, length, arith}
use Rattle.lists.proofs.Words.{length-drop, slice_get_read, take_rest}
use Rattle.net_extract.proofs.ContactGroupLaws.{AreByIslands-drop, one_group, all_groups}
use Rattle.net_extract.proofs.contact_groups.groups_in.Goals as goal

pub front_of-count-requires-clause-ordered : goal.front_of-count-requires-clause-ordered
front_of-count-requires-clause-ordered c =
    rw (take_rest c.args.sorted.now c.loop-start.start) (AreByIslands-drop c.args.sorted.now c.loop-start.start c.requires)

pub loop-start-preserved : goal.loop-start-preserved
loop-start-preserved c =
    let sorted = c.args.sorted.now in
    let start = c.loop-start.start in
    let count = c.front_of-count.result in
    let first = c.index-rest-0.result in
    let rest = drop start sorted in
    let whole : take (length sorted - start) rest ≡ rest = take_rest sorted start in
    let some : 0 < length rest = let less = c.loop-start-test.true in omega (arith, length-drop start sorted) in
    let at = slice_get_read rest (length rest) 0 first refl some (rw whole at c.index-rest-0.is) in
    let rects = rw whole at c.in_ok-rects_of.ensures in
    rw c.in_ok-push.ensures.items (one_group sorted start c.loop-start.groups.items c.loop-start.invariant first.lower first.upper count first at refl refl
    (rw whole at c.front_of-count.ensures) _ refl refl (c.from_vec.ensures ∙ rects))

pub returns : goal.returns
returns c = all_groups c.args.sorted.now c.loop-start.start c.loop-start.groups.items c.loop-start-test.false c.loop-start.invariant
