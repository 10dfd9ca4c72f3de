-- the sizes of a map, which are numbers with their weights, and how far defects of them reach
use Rattle.std.proofs.Common.{ℕ, suc, ◌+◌, ◌-◌, ◌/◌, ◌≤◌, ◌<◌, ◌≡◌, refl, sym, ap, subst, ◌∙◌, List, [], ◌∷◌, length, get_or, arith, map, fold, max}
use Rattle.lists.proofs.Words.{IsStrictlyIncreasing}
use Rattle.map_model.specs.MapNames.{sizes_of, side_by}
use Rattle.map_model.specs.declared.measure.Measure.{Measure}
use Rattle.map_model.specs.declared.measure.Measure.TheVariants.{Radius, Side}

-- a greater size reaches no less far
reaches_rise : (measure : Measure) (m n : ℕ) → m < n → side_by measure m / 2 ≤ side_by measure n / 2
reaches_rise Radius m n below = omega arith
reaches_rise Side m n below = omega arith

rest_rises : (x : ℕ) (xs : List ℕ) → IsStrictlyIncreasing (x ∷ xs) → IsStrictlyIncreasing xs
rest_rises x xs rising k small =
    let next : suc k + 1 ≡ suc (k + 1) = omega arith in
    let h : get_or (x ∷ xs) (suc k) 0 < get_or (x ∷ xs) (suc k + 1) 0 = rising (suc k) (omega arith) in
    subst (λ i. get_or xs k 0 < get_or (x ∷ xs) i 0) next h

module _ (measure : Measure) where
  abbrev reach_by : ℕ → ℕ
  reach_by size = side_by measure size / 2

  -- how far each size reaches
  reaches : (numbers weights : List ℕ) → length weights ≡ length numbers → map (λ size. side_by measure size.size / 2) (sizes_of numbers weights) ≡ map reach_by numbers
  reaches [] weights e = refl
  reaches (n ∷ numbers) [] e = absurd (omega arith)
  reaches (n ∷ numbers) (w ∷ weights) e = ap (λ xs. reach_by n ∷ xs) (reaches numbers weights (omega arith))

  -- of rising sizes the last reaches furthest
  last_reaches_furthest : (a x : ℕ) (xs : List ℕ) → a ≤ reach_by x → IsStrictlyIncreasing (x ∷ xs) → fold max a (map reach_by (x ∷ xs)) ≡ reach_by (get_or (x ∷ xs) (length xs) 0)
  last_reaches_furthest a x [] low rising = omega arith
  last_reaches_furthest a x (y ∷ xs) low rising =
      let more = reaches_rise measure x y (rising 0 (omega arith)) in
      last_reaches_furthest (max a (reach_by x)) y xs (omega arith) (rest_rises x (y ∷ xs) rising)

  pub greatest_reach : (numbers weights : List ℕ) → 1 ≤ length numbers → length weights ≡ length numbers → IsStrictlyIncreasing numbers
      → reach_by (get_or numbers (length numbers - 1) 0) ≡ fold max 0 (map (λ size. side_by measure size.size / 2) (sizes_of numbers weights))
  greatest_reach [] weights some e rising = absurd (omega arith)
  greatest_reach (n ∷ numbers) weights some e rising =
      let last : length (n ∷ numbers) - 1 ≡ length numbers = omega arith in
      ap (λ k. reach_by (get_or (n ∷ numbers) k 0)) last ∙ sym (last_reaches_furthest 0 n numbers (omega arith) rising) ∙ ap (fold max 0) (sym (reaches (n ∷ numbers) weights e))
