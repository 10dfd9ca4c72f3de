use Rattle.std.proofs.Common.{ℕ, ◌<◌, ◌≤◌, ◌≡◌, ◌==◌, ◌∙◌, ap, arith, filter, get_or, length, subst, sym, take_all}
use Rattle.lists.proofs.Words.{AllZip, AllZip-long}
use Rattle.net_extract.specs.AnchoredIslands.{rects_of_island, IsSpotOfTerminal, IsIslandNumbered}
use Rattle.net_extract.specs.ContactGroups.{AreGroupsOf}
use Rattle.net_extract.specs.NetLists.{NetLists}
use Rattle.net_extract.specs.Standing.{standing_on, terminals_on_island}
use Rattle.net_extract.specs.inside.Anchoring.{AreDifferentCarried}
use Rattle.net_extract.specs.declared.metal_terminals.Standing.{Standing}
use Rattle.net_extract.proofs.AnchoredLaws.{all_there, as_many, each_island, is_anchored, one_island, island_more, island_left_out, all_islands, terminals_here}
use Rattle.net_extract.proofs.GroupLaws.{rects_of_part}
use Rattle.net_extract.proofs.nets.Nets.islands.Goals as goal
use Rattle.net_extract.proofs.nets.Nets.islands.Goals.{In_ok-terminals, then-here-ge2+in_ok-pieces+in_ok-anchors+in_ok-push, else-here-ge2}

pub terminals_on-requires : goal.terminals_on-requires
terminals_on-requires c =
    let inside = c.self.inside in
    rw (c.as_slice-ends.ensures, c.as_slice-groups.ensures) (c.self.invariant.nets_are.ends ∙ sym (AllZip-long AreGroupsOf inside.contacts inside.groups c.self.invariant.grouped))

-- the groups are those of the contact pieces
grouped : (c : In_ok-terminals) → AllZip AreGroupsOf c.args.self.now.contacts c.as_slice-groups.result.now
grouped c =
    subst (λ (nets : NetLists). AllZip AreGroupsOf nets.contacts c.as_slice-groups.result.now) c.self.view_is (rw c.as_slice-groups.ensures c.self.invariant.grouped)

-- the terminals are those of the metal, in the order of their islands
kept : (c : In_ok-terminals) (number : ℕ) → filter (λ standing. standing.island == number) c.in_ok-terminals.terminals.items
    ≡ filter (λ standing. standing.island == number) (standing_on c.args.self.now c.as_slice-groups.result.now c.args.metal)
kept c number =
    let here = λ (standing : Standing). standing.island == number in
    let groups = c.as_slice-groups.result.now in
    let listed = subst (λ (nets : NetLists). c.in_ok-listed.listed.items ≡ standing_on nets groups c.args.metal) c.self.view_is
    (rw (c.as_slice-anchors.ensures, c.as_slice-ends.ensures) at c.in_ok-listed.ensures) in
    c.in_ok-terminals.ensures.kept number ∙ ap (filter here) listed

pub spots_of-requires : goal.spots_of-requires
spots_of-requires c =
    let number = get_or c.deref-number-items.result.now c.loop-number.number-index 0 in
    let here = λ (standing : Standing). standing.island == number in
    let are_here = c.terminals_at-here.ensures ∙ ap (filter here) c.deref-in-loop-number.ensures.value ∙ kept (goal.at.spots_of-requires c).In_ok-terminals number in
    all_there c.args.self.now c.as_slice-groups.result.now c.args.metal c.pieces.ensures.sound number c.terminals_at-here.result.now are_here

pub invariant_of-push : goal.invariant_of-push
invariant_of-push c =
    let nets = c.args.self.now in
    let groups = c.as_slice-groups.result.now in
    let metal = c.args.metal in
    let number = get_or c.deref-number-items.result.now c.loop-number.number-index 0 in
    let here = λ (standing : Standing). standing.island == number in
    let before = (goal.at.invariant_of-push c).In_ok-terminals in
    let are_here = c.terminals_at-here.ensures ∙ ap (filter here) c.deref-in-loop-number.ensures.value ∙ kept before number in
    let spots_are = subst (λ terminals. AllZip (IsSpotOfTerminal groups) terminals c.in_ok-anchors.anchors.items)
    (terminals_here nets groups metal number c.terminals_at-here.result.now are_here) c.in_ok-anchors.ensures in
    let rects_are : c.in_ok-pieces.pieces.items ≡ rects_of_island nets metal number = rects_of_part nets metal number c.pieces.result.now c.in_ok-sorted.sorted.items
    c.deref-then-here-ge2.result.now c.part_of.result.now _ c.pieces.ensures.pieces (c.in_ok-sorted.ensures.kept number) c.deref-then-here-ge2.ensures.value c.part_of.ensures.all
    c.in_ok-pieces.ensures in
    rw (c.from_vec.ensures, rects_are, c.from_vec-then-here-ge2.ensures)
    (one_island nets groups metal c.pieces.ensures.sound (grouped before) number c.in_ok-anchors.anchors.items spots_are)

pub loop-number-preserved : goal.loop-number-preserved
loop-number-preserved c =
    let nets = c.args.self.now in
    let groups = c.as_slice-groups.result.now in
    let metal = c.args.metal in
    let numbers = c.deref-number-items.result.now in
    let k = c.loop-number.number-index in
    let number = get_or numbers k 0 in
    let here = λ (standing : Standing). standing.island == number in
    let terminals = c.terminals_at-here.result.now in
    let are_here = c.terminals_at-here.ensures ∙ ap (filter here) c.deref-in-loop-number.ensures.value ∙ kept (goal.at.loop-number-preserved c).In_ok-terminals number in
    let as_many : length terminals ≡ length (terminals_on_island nets groups metal number) = as_many nets groups metal number terminals are_here in
    elim c.if-here-ge2.branch [
      | then-here-ge2+in_ok-pieces+in_ok-anchors+in_ok-push w ↦
          let spots_are = subst (λ ts. AllZip (IsSpotOfTerminal groups) ts w.in_ok-anchors.anchors.items) (terminals_here nets groups metal number terminals are_here) w.in_ok-anchors.ensures in
          let rects_are : w.in_ok-pieces.pieces.items ≡ rects_of_island nets metal number = rects_of_part nets metal number c.pieces.result.now c.in_ok-sorted.sorted.items
          w.deref-then-here-ge2.result.now w.part_of.result.now _ c.pieces.ensures.pieces (c.in_ok-sorted.ensures.kept number) w.deref-then-here-ge2.ensures.value w.part_of.ensures.all
          w.in_ok-pieces.ensures in
          let many : 2 ≤ length (terminals_on_island nets groups metal number) = omega (arith, w.if-here-ge2.true) in
          rw (w.islands-is, w.in_ok-push.ensures.items)
          (island_more nets groups metal numbers k c.loop-number.islands.items _ c.loop-number-test.true many
          (record { pieces = w.from_vec.ensures ∙ rects_are; anchors = rw w.from_vec-then-here-ge2.ensures spots_are }) c.loop-number.invariant)
      | else-here-ge2 w ↦
          let few : length (terminals_on_island nets groups metal number) < 2 = omega (arith, w.if-here-ge2.false) in
          rw w.islands-is (island_left_out nets groups metal numbers k c.loop-number.islands.items c.loop-number-test.true few c.loop-number.invariant)
    ]

pub returns-clause-connected : goal.returns-clause-connected
returns-clause-connected c =
    each_island c.args.self.now c.as_slice-groups.result.now c.args.metal c.pieces.ensures.sound (grouped (goal.at.returns-clause-connected c).In_ok-terminals) _ c.loop-number.islands.items
    c.loop-number.invariant

pub returns-clause-islands : goal.returns-clause-islands
returns-clause-islands c =
    let nets = c.args.self.now in
    let groups = c.as_slice-groups.result.now in
    let metal = c.args.metal in
    let islands = c.loop-number.islands.items in
    let before = (goal.at.returns-clause-islands c).In_ok-terminals in
    let carried : AreDifferentCarried c.in_ok-terminals.terminals.items c.in_ok-numbers.numbers.items = rw c.deref.ensures.value at c.in_ok-numbers.ensures in
    let all = take_all c.loop-number.number-index c.deref-number-items.result.now c.loop-number-test.false ∙ c.deref-number-items.ensures.value in
    all_islands nets groups metal c.in_ok-numbers.numbers.items c.in_ok-terminals.terminals.items (kept before) carried (grouped before) islands
    (subst (λ numbers. AllZip (IsIslandNumbered nets groups metal) (filter (is_anchored nets groups metal) numbers) islands) all c.loop-number.invariant)
