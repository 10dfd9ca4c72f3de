-- how a range's change of a part follows from what was done below it
use Rattle.std.proofs.Common.{ℕ, ◌+◌, ◌^◌, ◌<◌, ◌≤◌, ◌≡◌, ◌≢◌, refl, sym, ap, ◌∙◌, subst, arith, inl, inr, ◌⊎◌, List, length, set, get_or-set_same, get_or-set_other, length-set, ℤ, pos}
use Rattle.lists.proofs.Words.{cases_lt}
use Rattle.geo_core.specs.declared.counts.Node.{Node}
use Rattle.cover_tree.specs.TreeNodes.{node_over, number_of, times_in_cut}
use Rattle.cover_tree.specs.TreeParts.{IsPart, IsUnder, IsElsewhere, numbered_node, row_node, row_depth, part_width, AreWidths, KeepsWidths, IsKept, IsLowerKept, IsChangedBy, MayChange, MayChangeIn, IsPartChanged}
use Rattle.cover_tree.specs.declared.parts.Change.{Change}
use Rattle.cover_tree.specs.declared.parts.Change.TheVariants.{Put, Take}
use Rattle.cover_tree.specs.declared.parts.Part.{Part}
use Rattle.cover_tree.specs.declared.parts.Widths.{Widths}
use Rattle.cover_tree.proofs.CutLaws.{times_apart, times_under_covered}
use Rattle.cover_tree.proofs.PartLaws.{AreHalves, number_here, number_elsewhere, number_lower, under_fits, block_under, under_half, left_under, right_under, left_elsewhere, right_elsewhere, left_not_right, right_not_left}
use Rattle.cover_tree.proofs.WidthLaws.{keeps_carried, keeps_from_widths, row_depth-same}
use Rattle.cover_tree.proofs.Totals.{deep_width-same}

-- a change of none
pub changed_none : (change : Change) (times count : ℕ) → times ≡ 0 → IsChangedBy change times count count
changed_none Put times count none = omega arith
changed_none Take times count none = omega arith

module _ (height : ℕ) (places : List ℤ) (change : Change) (low high : ℕ) where
  abbrev times : ℕ → ℕ → ℕ
  times level column = times_in_cut height low high (node_over level column)

  -- what has changed of a part before its highest node is written
  pub record IsLowerChanged (part : Part) (old mid : List Node) : Type 0 where
    pub length : length mid ≡ length old
    pub elsewhere : (level column : ℕ) → level ≤ height → column < 2 ^ height → IsElsewhere part level column → row_node height mid level column ≡ row_node height old level column
    pub counts : (level column : ℕ) → level < part.level → IsUnder part column
        → IsChangedBy change (times level column) (row_node height old level column).count (row_node height mid level column).count
    pub kept : IsLowerKept height places mid part

  module _ (part : Part) (p : IsPart height part) where
    -- a range that does not meet the part changes nothing
    pub unmet : (nodes : List Node) → IsKept height places nodes part → (high ≤ part.from) ⊎ (part.from + part.size ≤ low) → IsPartChanged height places change low high part nodes nodes
    unmet nodes kept apart = record {
      length = refl;
      elsewhere = λ level column a b away. refl;
      counts = λ level column a under. changed_none change (times level column) (row_node height nodes level column).count (times_apart height low high part p apart level column under);
      kept = kept;
    }

    -- one that has all of the part's columns changes nothing below its highest node
    pub lower_covered : (nodes : List Node) → IsKept height places nodes part → low ≤ part.from → part.from + part.size ≤ high → IsLowerChanged part nodes nodes
    lower_covered nodes kept from before = record {
      length = refl;
      elsewhere = λ level column a b away. refl;
      counts = λ level column less under.
          changed_none change (times level column) (row_node height nodes level column).count
          (times_under_covered height low high part p from before level column less under);
      kept = λ level column less under. kept level column (omega arith) under;
    }

    -- the highest node is written last
    module _ (old mid new : List Node) (count : ℕ) (widths : Widths) (lower : IsLowerChanged part old mid) (within : part.number < length mid)
        (written : new ≡ set mid part.number (record { count = count; once = widths.once; twice = widths.twice })) where
      node : Node
      node = record { count = count; once = widths.once; twice = widths.twice }

      stays : (number : ℕ) → number ≢ part.number → numbered_node new number ≡ numbered_node mid number
      stays number other = ap (λ ns. numbered_node ns number) written ∙ get_or-set_other mid part.number number _ _ other

      here : (column : ℕ) → IsUnder part column → row_node height new part.level column ≡ record { count = count; once = widths.once; twice = widths.twice }
      here column under = ap (λ ns. row_node height ns part.level column) written
          ∙ ap (λ n. numbered_node (set mid part.number (record { count = count; once = widths.once; twice = widths.twice })) n) (number_here height part p column under)
          ∙ get_or-set_same mid part.number _ _ within

      lower_stays : (level column : ℕ) → level < part.level → IsUnder part column → row_node height new level column ≡ row_node height mid level column
      lower_stays level column less under = stays (number_of height (node_over level column)) (number_lower height part p level column less (under_fits height part p column under))

      top_count : ((column : ℕ) → IsUnder part column → IsChangedBy change (times part.level column) (row_node height old part.level column).count count)
          → (column : ℕ) → IsUnder part column → IsChangedBy change (times part.level column) (row_node height old part.level column).count (row_node height new part.level column).count
      top_count top column under = subst (IsChangedBy change (times part.level column) (row_node height old part.level column).count) (ap (λ (n : Node). n.count) (sym (here column under)))
          (top column under)

      pub settled : AreWidths height places new part widths → ((column : ℕ) → IsUnder part column → IsChangedBy change (times part.level column) (row_node height old part.level column).count count)
          → IsPartChanged height places change low high part old new
      settled are top = record {
        length = ap (λ (ns : List Node). length ns) written ∙ length-set mid part.number _ ∙ lower.length;
        elsewhere = λ level column a b away. stays (number_of height (node_over level column)) (number_elsewhere height part p level column a b away) ∙ lower.elsewhere level column a b away;
        counts = λ level column a under. elim (cases_lt level part.level) [
          | inl less ↦ subst (IsChangedBy change (times level column) (row_node height old level column).count) (ap (λ (n : Node). n.count) (sym (lower_stays level column less under)))
              (lower.counts level column less under)
          | inr more ↦
              let e : part.level ≡ level = omega arith in
              subst (λ l. IsChangedBy change (times l column) (row_node height old l column).count (row_node height new l column).count) e (top_count top column under)
        ];
        kept = λ level column a under. elim (cases_lt level part.level) [
          | inl less ↦ keeps_carried height places mid new level column (λ j other b from before. lower_stays j other (omega arith) (block_under height part p level column other a under from before))
              (lower.kept level column less under)
          | inr more ↦
              let e : part.level ≡ level = omega arith in
              subst (λ l. KeepsWidths height places new l column) e (keeps_from_widths height places new part p column under widths are (ap (λ (n : Node). n.once) (here column under))
              (ap (λ (n : Node). n.twice) (here column under)))
        ];
      }

    -- ---- both halves changed, one after the other
    module _ (left right : Part) (h : AreHalves height part left right) where
      pub left_kept : (nodes : List Node) → IsKept height places nodes part → IsKept height places nodes left
      left_kept nodes kept level column low_level under = let l = h.levels.0 in kept level column (omega arith) (left_under height part left right h column under)

      pub left_may : (nodes : List Node) → MayChangeIn height change low high nodes part → MayChangeIn height change low high nodes left
      left_may nodes may level column low_level under = let l = h.levels.0 in may level column (omega arith) (left_under height part left right h column under)

      pub right_kept_before : (nodes : List Node) → IsKept height places nodes part → IsKept height places nodes right
      right_kept_before nodes kept level column low_level under = let r = h.levels.1 in kept level column (omega arith) (right_under height part left right h column under)

      module _ (old mid : List Node) (l : IsPartChanged height places change low high left old mid) where
        right_stays : (level column : ℕ) → level ≤ right.level → IsUnder right column → row_node height mid level column ≡ row_node height old level column
        right_stays level column low_level under =
            let r = h.right_part.level in
            l.elsewhere level column (omega arith) (under_fits height right h.right_part column under) (right_not_left height part left right h level column under)

        pub right_kept : IsKept height places old part → IsKept height places mid right
        right_kept kept level column low_level under = keeps_carried height places old mid level column (λ j other a from before. right_stays j other (omega arith)
            (block_under height right h.right_part level column other low_level under from before))
            (right_kept_before old kept level column low_level under)

        pub right_may : MayChangeIn height change low high old part → MayChangeIn height change low high mid right
        right_may may level column low_level under =
            let v = h.levels.1 in
            subst (MayChange change (times level column)) (ap (λ (n : Node). n.count) (sym (right_stays level column low_level under)))
            (may level column (omega arith) (right_under height part left right h column under))

        module _ (last : List Node) (r : IsPartChanged height places change low high right mid last) where
          left_stays : (level column : ℕ) → level ≤ left.level → IsUnder left column → row_node height last level column ≡ row_node height mid level column
          left_stays level column low_level under =
              let v = h.left_part.level in
              r.elsewhere level column (omega arith) (under_fits height left h.left_part column under) (left_not_right height part left right h level column under)

          pub lower_changed : IsLowerChanged part old last
          lower_changed = record {
            length = r.length ∙ l.length;
            elsewhere = λ level column a b away. r.elsewhere level column a b (right_elsewhere height part left right h level column away)
                ∙ l.elsewhere level column a b (left_elsewhere height part left right h level column away);
            counts = λ level column less under. let v = h.levels.0 in let w = h.levels.1 in elim (under_half height part left right h column under) [
              | inl u ↦
                  let low_level : level ≤ left.level = omega arith in
                  subst (IsChangedBy change (times level column) (row_node height old level column).count) (ap (λ (n : Node). n.count) (sym (left_stays level column low_level u)))
                  (l.counts level column low_level u)
              | inr u ↦
                  let low_level : level ≤ right.level = omega arith in
                  subst (λ m. IsChangedBy change (times level column) m (row_node height last level column).count) (ap (λ (n : Node). n.count) (right_stays level column low_level u))
                  (r.counts level column low_level u)
            ];
            kept = λ level column less under. let v = h.levels.0 in let w = h.levels.1 in elim (under_half height part left right h column under) [
              | inl u ↦
                  let low_level : level ≤ left.level = omega arith in
                  keeps_carried height places mid last level column (λ j other a from before. left_stays j other (omega arith)
                  (block_under height left h.left_part level column other low_level u from before)) (l.kept level column low_level u)
              | inr u ↦ r.kept level column (omega arith) u
            ];
          }

          -- the widths of the left half are still those
          pub left_widths : (widths : Widths) → AreWidths height places mid left widths → AreWidths height places last left widths
          left_widths widths are = record { once = are.once ∙ at 1; twice = are.twice ∙ at 2 }
            where
              depth : (k : ℕ) → left.from ≤ k → k < left.from + left.size → row_depth height mid left.level k ≡ row_depth height last left.level k
              depth k from before = row_depth-same height mid last left.level k (λ j low_level. ap (λ (n : Node). n.count) (sym (left_stays j k low_level (record { from = from; before = before }))))

              at : (least : ℕ) → pos (part_width height places mid least left) ≡ pos (part_width height places last least left)
              at least = ap pos (deep_width-same places _ _ least left.from left.size depth)
