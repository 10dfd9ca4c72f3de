-- how often the standard cut of a range has the nodes over a column
use Rattle.std.proofs.Common.{ℕ, suc, ◌+◌, ◌/◌, ◌^◌, ◌<◌, ◌≤◌, ◌≡◌, sym, ap, ◌∙◌, arith, inl, inr, ◌⊎◌, ◌↔◌, Bool, true, false, cond, ◌||◌, not, nat_le}
use Rattle.std.specs.Prelude.{IsTrue}
use Rattle.lists.proofs.Words.{le-leb, lt-leb, and_parts, and_right, cases_Bool, cases_lt, false≢true, shr-shr}
use Rattle.std.proofs.lemmas.Bool.{leb-true, leb-false, and_from, and_left, or_left, or_right, false_from_ne_true, not_from_false}
use Rattle.cover_tree.specs.TreeNodes.{TreeNode, node_over, parent_of, first_of, end_of, lies_in, times_in_cut}
use Rattle.cover_tree.specs.TreeParts.{IsPart, IsUnder, IsHighest}
use Rattle.cover_tree.specs.declared.parts.Part.{Part}
use Rattle.cover_tree.proofs.Powers.{block_of}
use Rattle.cover_tree.proofs.PartLaws.{AreHalves, block_is, node_within, left_under, right_under}

-- the parent of the node over a column is the node over it at the next level
pub parent_over : (level column : ℕ) → parent_of (node_over level column) ≡ node_over (suc level) column
parent_over level column =
    let e : level + 1 ≡ suc level = omega arith in
    let at : ℕ → TreeNode = λ place. record { level = suc level; place = place } in
    ap at (shr-shr column level 1 ∙ ap (λ n. column / 2 ^ n) e)

module _ (height low high : ℕ) where
  pub lies_true : (node : TreeNode) → low ≤ first_of node → end_of node ≤ high → lies_in low high node ≡ true
  lies_true node a b = and_from (nat_le low (first_of node)) (nat_le (end_of node) high) (le-leb low (first_of node) a) (le-leb (end_of node) high b)

  pub lies_parts : (node : TreeNode) → lies_in low high node ≡ true → (low ≤ first_of node) × (end_of node ≤ high)
  lies_parts node t = let h = and_parts (nat_le low (first_of node)) (nat_le (end_of node) high) t in (leb-true low (first_of node) h.0, leb-true (end_of node) high h.1)

  pub times_none : (node : TreeNode) → lies_in low high node ≡ false → times_in_cut height low high node ≡ 0
  times_none node f = ap (λ b. cond b 1 0) (and_left (lies_in low high node) (nat_le height node.level || not (lies_in low high (parent_of node))) f)

  -- a node whose parent lies in the range is not in the cut
  pub times_lower : (level column : ℕ) → level < height → lies_in low high (node_over (suc level) column) ≡ true → times_in_cut height low high (node_over level column) ≡ 0
  times_lower level column less t =
      let at = ap (lies_in low high) (parent_over level column) ∙ t in
      let right : (nat_le height level || not (lies_in low high (parent_of (node_over level column)))) ≡ false
      = ap (λ b. b || not (lies_in low high (parent_of (node_over level column)))) (lt-leb height level less) ∙ ap (λ b. false || not b) at in
      ap (λ b. cond b 1 0) (and_right (lies_in low high (node_over level column)) _ right)

  -- one that lies in the range is, where its parent does not or there is none
  pub times_one : (level column : ℕ) → level ≤ height → lies_in low high (node_over level column) ≡ true → (level < height → lies_in low high (node_over (suc level) column) ≡ false)
      → times_in_cut height low high (node_over level column) ≡ 1
  times_one level column low_level t outer = ap (λ b. cond b 1 0) (and_from (lies_in low high (node_over level column)) _ t top)
    where
      top : (nat_le height level || not (lies_in low high (parent_of (node_over level column)))) ≡ true
      top = elim (cases_Bool (nat_le height level)) [
        | inl at ↦ or_left (nat_le height level) _ at
        | inr f ↦ or_right (nat_le height level) _ (not_from_false _ (ap (lies_in low high) (parent_over level column) ∙ outer (leb-false height level f)))
      ]

  -- no node over a column past the range is in its cut
  outside : (level column : ℕ) → (column < low) ⊎ (high ≤ column) → lies_in low high (node_over level column) ≡ false
  outside level column away = false_from_ne_true _ (λ t.
      let h = lies_parts (node_over level column) t in
      let b = block_of level column in
      let from = h.0 in let before = h.1 in let c = b.0 in let d = b.1 in
      elim away [ inl less ↦ absurd (omega arith) | inr more ↦ absurd (omega arith) ])

  pub times_outside : (level column : ℕ) → (column < low) ⊎ (high ≤ column) → times_in_cut height low high (node_over level column) ≡ 0
  times_outside level column away = times_none (node_over level column) (outside level column away)

  module _ (part : Part) (p : IsPart height part) where
    -- over a part that the range does not meet
    pub times_apart : (high ≤ part.from) ⊎ (part.from + part.size ≤ low) → (level column : ℕ) → IsUnder part column → times_in_cut height low high (node_over level column) ≡ 0
    times_apart apart level column under =
        let a = under.from in let b = under.before in
        times_outside level column (elim apart [ inl before ↦ inr (omega arith) | inr behind ↦ inl (omega arith) ])

    -- over one that lies in the range
    covered_lies : low ≤ part.from → part.from + part.size ≤ high → (level column : ℕ) → level ≤ part.level → IsUnder part column → lies_in low high (node_over level column) ≡ true
    covered_lies from before level column low_level under =
        let w = node_within height part p level column low_level under in
        let a = w.0 in let b = w.1 in
        lies_true (node_over level column) (omega arith) (omega arith)

    pub times_covered : low ≤ part.from → part.from + part.size ≤ high → IsHighest height low high part → (column : ℕ) → IsUnder part column
        → times_in_cut height low high (node_over part.level column) ≡ 1
    times_covered from before highest column under = times_one part.level column p.level (covered_lies from before part.level column (omega arith) under) (λ less. highest column less under)

    pub times_under_covered : low ≤ part.from → part.from + part.size ≤ high → (level column : ℕ) → level < part.level → IsUnder part column → times_in_cut height low high (node_over level column) ≡ 0
    times_under_covered from before level column less under = let l = p.level in times_lower level column (omega arith) (covered_lies from before (suc level) column (omega arith) under)

    -- one that does not lie in the range
    pub partly_met : (whole : Bool) → IsTrue whole ↔ ((low ≤ part.from) × (part.from + part.size ≤ high)) → whole ≡ false → (part.from < low) ⊎ (high < part.from + part.size)
    partly_met whole tells f = elim (cases_lt part.from low) [
      | inl before ↦ inl before
      | inr from ↦ elim (cases_lt high (part.from + part.size)) [
        | inl behind ↦ inr behind
        | inr within ↦ absurd (false≢true (sym f ∙ tells.1 (from, within)))
      ]
    ]

    -- has halves, where the range meets it
    pub partly_deep : (part.from < low) ⊎ (high < part.from + part.size) → part.from < high → low < part.from + part.size → 0 < part.level
    partly_deep partly before behind = elim (cases_lt 0 part.level) [
      | inl more ↦ more
      | inr none ↦
          let e : part.level ≡ 0 = omega arith in
          let one : part.size ≡ 1 = p.size ∙ ap (λ n. 2 ^ n) e in
          elim partly [ inl less ↦ absurd (omega arith) | inr more ↦ absurd (omega arith) ]
    ]

    -- over one that lies partly in the range
    part_outside : (part.from < low) ⊎ (high < part.from + part.size) → (column : ℕ) → IsUnder part column → lies_in low high (node_over part.level column) ≡ false
    part_outside partly column under = false_from_ne_true _ (λ t.
        let h = lies_parts (node_over part.level column) t in
        let e = block_is height part p column under in
        let s = p.size in let a = h.0 in let b = h.1 in
        elim partly [ inl less ↦ absurd (omega arith) | inr more ↦ absurd (omega arith) ])

    pub times_partly : (part.from < low) ⊎ (high < part.from + part.size) → (column : ℕ) → IsUnder part column → times_in_cut height low high (node_over part.level column) ≡ 0
    times_partly partly column under = times_none (node_over part.level column) (part_outside partly column under)

    -- then its halves have no higher part in the range
    pub halves_highest : (part.from < low) ⊎ (high < part.from + part.size) → (left right : Part) → AreHalves height part left right → IsHighest height low high left × IsHighest height low high right
    halves_highest partly left right h = (
      λ column less under. at left h.levels.0 column (left_under height part left right h column under),
      λ column less under. at right h.levels.1 column (right_under height part left right h column under),
    )
      where
        at : (half : Part) → half.level + 1 ≡ part.level → (column : ℕ) → IsUnder part column → lies_in low high (node_over (suc half.level) column) ≡ false
        at half e column under = let f : suc half.level ≡ part.level = omega arith in ap (λ level. lies_in low high (node_over level column)) f ∙ part_outside partly column under
