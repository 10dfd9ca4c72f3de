-- cells in two rectangles of lists that are read one by one
use Rattle.std.proofs.Common.{List, [], arith, get_or, inl, inr, length, subst, sym, take, ℕ, ◌++◌, ◌+◌, ◌<◌, ◌∷◌, ◌≡◌, ◌⊎◌, ◌↔◌}
use Rattle.lists.proofs.Words.{cases_Bool, sum_by-IsPermutation, sum_by_push, IsPermutation}
use Rattle.geo_core.specs.Plane.{Has, IsInUnion}
use Rattle.geo_core.specs.declared.plane.Cell.{Cell}
use Rattle.geo_core.specs.declared.plane.Rect.{Rect}
use Rattle.lists.proofs.Reading.{taken_more}
use Rattle.skyline_runs.specs.Runs.{IsInTwo}
use Rattle.skyline_runs.specs.Depths.{has_cell}
use Rattle.skyline_runs.proofs.laws.DepthLaws.{weight, weight_so, weight_not, has_from, union_from_depth, two_from_depth, depth_from_union, depth_of_two}

module _ (c : Cell) where
  -- the order does not matter
  pub two_permutation : (xs ys : List Rect) → IsPermutation xs ys → IsInTwo ys c ↔ IsInTwo xs c
  two_permutation xs ys p =
      let same = sum_by-IsPermutation (weight c) xs ys p in (
        λ t. let some = depth_of_two c ys t in two_from_depth c xs (omega arith),
        λ t. let some = depth_of_two c xs t in two_from_depth c ys (omega arith),
      )

  -- one more rectangle at the end
  two_push : (xs : List Rect) (x : Rect) → IsInTwo (xs ++ x ∷ []) c ↔ (IsInTwo xs c ⊎ (IsInUnion xs c × Has x c))
  two_push xs x =
      let sum = sum_by_push (weight c) xs x in (
        λ t.
            let some = depth_of_two c (xs ++ x ∷ []) t in
            elim (cases_Bool (has_cell c x)) [
              | inl h ↦ let w = weight_so c x (has_from c x h) in inr (union_from_depth c xs (omega arith), has_from c x h)
              | inr n ↦ let w = weight_not c x n in inl (two_from_depth c xs (omega arith))
            ],
        λ k. elim k [
          | inl t ↦ let some = depth_of_two c xs t in two_from_depth c (xs ++ x ∷ []) (omega arith)
          | inr both ↦
              let some = depth_from_union c xs both.0.number both.0.rect both.0.at both.0.has in
              let w = weight_so c x both.1 in
              two_from_depth c (xs ++ x ∷ []) (omega arith)
        ],
      )

  pub two_more : (xs : List Rect) (i : ℕ) (x : Rect) → i < length xs → x ≡ get_or xs i x → IsInTwo (take (i + 1) xs) c ↔ (IsInTwo (take i xs) c ⊎ (IsInUnion (take i xs) c × Has x c))
  two_more xs i x small is = subst (λ (ys : List Rect). IsInTwo ys c ↔ (IsInTwo (take i xs) c ⊎ (IsInUnion (take i xs) c × Has x c))) (sym (taken_more xs i x small is)) (two_push (take i xs) x)
