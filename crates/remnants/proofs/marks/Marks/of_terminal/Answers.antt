use Rattle.std.proofs.Common.{rules, arith, true, false, length, take_all, ◌-◌, ◌≤◌, List, AllPairs, Contains, ◌↔◌, ◌≡◌, ◌∙◌, ltb, leb, drop, take, subst, sym}
use Rattle.std.specs.List.Sorted.{IsPartitionPoint}
use Rattle.lists.proofs.Words.{length-drop}
use Rattle.std.proofs.lemmas.List.Sorted.{IsNonDecreasingBy-drop, IsNonDecreasingBy-take, IsPartitionedBy-leb, IsPartitionedBy-ltb, IsPartitionPoint-from_clause}
use Rattle.remnants.specs.declared.parts.Mark.{Mark}
use Rattle.remnants.specs.inside.Marking.{IsBefore}
use Rattle.remnants.proofs.OrderLaws.{own_marks, terminals_rise}
use Rattle.remnants.proofs.marks.Marks.of_terminal.Goals as goal

pub returns : goal.returns
returns c =
    let marks = c.as_slice-all.result.now in
    let terminal = c.args.terminal in
    let from = c.partition_point-from.result in
    let count = c.partition_point-count.result in
    let of_terminal = λ (m : Mark). m.terminal in
    let rise = terminals_rise marks (subst (AllPairs IsBefore) (sym c.as_slice-all.ensures.value) c.self.invariant) in
    let low = IsPartitionPoint-from_clause (λ (m : Mark). ltb m.terminal terminal) marks from c.partition_point-from.ensures.partitioned
    (IsPartitionedBy-ltb of_terminal marks terminal rise) (λ a r q k. search rules) in
    let behind = take (length marks - from) (drop from marks) in
    let all_behind : behind ≡ drop from marks = take_all (length marks - from) (drop from marks) (omega (arith, length-drop from marks)) in
    let high = IsPartitionPoint-from_clause (λ (m : Mark). leb m.terminal terminal) behind count c.partition_point-count.ensures.partitioned
    (IsPartitionedBy-leb of_terminal behind terminal (IsNonDecreasingBy-take of_terminal (length marks - from) (drop from marks) (IsNonDecreasingBy-drop of_terminal from marks rise)))
    (λ a r q k. search rules) in
    let own = own_marks marks terminal from count low
    (subst (λ (ms : List Mark). IsPartitionPoint (λ (m : Mark). leb m.terminal terminal ≡ true) (λ (m : Mark). leb m.terminal terminal ≡ false) ms count) all_behind high)
    c.partition_point-from.ensures.bound (subst (λ (ms : List Mark). count ≤ length ms) all_behind c.partition_point-count.ensures.bound) in
    subst (λ (ms : List Mark). (mark : Mark) → Contains (take count behind) mark ↔ (Contains ms mark × (mark.terminal ≡ terminal))) (c.as_slice-all.ensures.value ∙ c.self.view_is)
    (subst (λ (ms : List Mark). (mark : Mark) → Contains (take count ms) mark ↔ (Contains marks mark × (mark.terminal ≡ terminal))) (sym all_behind) own)
