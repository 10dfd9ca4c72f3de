use Rattle.std.proofs.Common.{◌∙◌, List, ℕ, sym, subst, Contains}
use Rattle.lists.proofs.Words.{Decides-eqb, slice_eq-Decides}
use Rattle.std.proofs.lemmas.List.{map-id}
use Rattle.layer_map.proofs.SearchLaws.{none_before_more, not_contained}
use Rattle.layer_map.proofs.layer_items.has_name.Goals as goal

pub loop-other-preserved : goal.loop-other-preserved
loop-other-preserved c =
    none_before_more (λ (other : List ℕ). other) c.args.names.now c.args.name.now c.loop-other.other-index c.other-item.result c.loop-other-test.true
    (λ same. cc ((slice_eq-Decides Decides-eqb _ _ _ c.eq.ensures).1 (c.as_slice.ensures.name ∙ c.other-item.is ∙ same ∙ sym c.as_slice-in-loop-other.ensures.name), c.if-eq.false))
    c.loop-other.invariant

pub returns : goal.returns
returns c = (
  λ same. cc same,
  λ h. absurd (not_contained (λ (other : List ℕ). other) c.args.names.now c.args.name.now c.loop-other.other-index c.loop-other-test.false c.loop-other.invariant
      (subst (λ (names : List (List ℕ)). Contains names c.args.name.now) (sym (map-id c.args.names.now)) h)),
)
