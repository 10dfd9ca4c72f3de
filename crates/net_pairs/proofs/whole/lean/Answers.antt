use Rattle.std.proofs.Common.{Global, List, Vec, subst, sym}
use Rattle.std.specs.List.Sorted.{IsPermutation}
use Rattle.lists.proofs.Words.{Contains-permutation, IfOk-weaker, IsPermutation-sym}
use Rattle.geo_core.specs.declared.plane.Labelled.{Labelled}
use Rattle.net_pairs.proofs.WholeLaws.{alike_moved}
use Rattle.net_pairs.proofs.whole.lean.Goals as goal

pub returns-then-not-has_whole : goal.returns-then-not-has_whole
returns-then-not-has_whole c cell at label = (λ h. h, λ h. h)

pub returns : goal.returns
returns c =
    let zones = c.args.zones.items in
    let sorted = c.as_slice-3.result.now in
    let moved : IsPermutation zones sorted = subst (λ (zs : List Labelled). IsPermutation zs sorted) c.as_slice-2.ensures.value (subst (IsPermutation c.as_slice-2.result.now) (sym c.as_slice-3.ensures.value) c.in_ok-sorted.ensures) in
    IfOk-weaker c.ones.result _ _ (λ (kept : Vec Labelled Global). alike_moved c.args.part zones sorted kept.items
    (λ zone. Contains-permutation zones sorted zone moved) (λ zone. Contains-permutation sorted zones zone (IsPermutation-sym zones sorted moved))) c.ones.ensures
