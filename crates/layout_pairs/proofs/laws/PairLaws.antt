-- the pairs of a metal: there is one list, and what it says of the cells
use Rattle.std.proofs.Common.{ℕ, ◌<◌, ◌≤◌, ◌≡◌, refl, sym, subst, ◌∙◌, inl, inr, arith, List, length, Contains}
use Rattle.geo_core.specs.declared.plane.Cell.{Cell}
use Rattle.fault_model.specs.FaultNames.{Cut, Tally}
use Rattle.fault_model.proofs.TallyLaws.{Tally-counts, Tally-some, Tally-unique}
use Rattle.net_pairs.specs.Pairs.{IsBefore}
use Rattle.net_numbers.proofs.ListLaws.{same_when_rising}
use Rattle.layout_pairs.specs.PairAreas.{ArePairsOn, TouchesNets}
use Rattle.layout_nets.proofs.laws.StartLaws.{starts_agree}

-- two nets by their numbers, and an area
abbrev pub Item : Type 0
Item = ℕ × ℕ × ℕ

one_way : (x y : Item) → IsBefore x y → IsBefore y x → ⊥
one_way x y (inl less) (inl more) = omega arith
one_way x y (inl less) (inr q) = let e = q.0 in omega arith
one_way x y (inr p) (inl more) = let e = p.0 in omega arith
one_way x y (inr p) (inr q) = let less = p.1 in let more = q.1 in omega arith

module _ (covers : ℕ → Cell → Type 0) (cuts : List Cut) (m side : ℕ) (cells : List Cell) where
  abbrev Touches : List Cell → ℕ → ℕ → Cell → Type 0
  Touches = TouchesNets covers cuts m side

  abbrev Pairs : List Item → Type 0
  Pairs = ArePairsOn covers cuts m side cells

  -- what one list has, another of the same cells has
  has_too : (pairs others : List Item) → Pairs pairs → Pairs others → (item : Item) → Contains pairs item → Contains others item
  has_too pairs others are same (one, other, n) listed =
      let starts : are.starts ≡ same.starts = starts_agree covers cuts m are.starts same.starts are.are_starts same.are_starts in
      let h = (are.exact one other n).0 listed in
      let small : other < length same.starts = subst (λ (xs : List Cell). other < length xs) starts h.1 in
      let tally = subst (λ (xs : List Cell). Tally (Touches xs one other) cells (are.area one other)) starts (are.tallies one other h.0 h.1) in
      let areas = Tally-unique cells (are.area one other) (same.area one other) tally (same.tallies one other h.0 small) in
      (same.exact one other n).1 (h.0, small, h.2, sym areas ∙ h.3)

  pub pairs_agree : (pairs others : List Item) → Pairs pairs → Pairs others → pairs ≡ others
  pairs_agree pairs others are same =
      same_when_rising IsBefore one_way pairs others are.rising same.rising
      (λ item. (has_too pairs others are same item, has_too others pairs same are item))

  module _ (pairs : List Item) (are : Pairs pairs) where
    -- where no pair is listed, no defect touches two nets
    pub none_touched : ((item : Item) → Contains pairs item → ⊥) → (c : Cell) → Contains cells c → (one other : ℕ) → one < other → other < length are.starts
        → Touches are.starts one other c → ⊥
    none_touched none c at one other less small t =
        let area = are.area one other in
        let some : 1 ≤ area = Tally-counts cells area c at t (are.tallies one other less small) in
        none (one, other, area) ((are.exact one other area).1 (less, small, omega arith, refl))

    -- where one is listed, a defect touches both
    pub some_touched : (one other n : ℕ) → Contains pairs (one, other, n) → (one < other) × ((c : Cell) × Contains cells c × Touches are.starts one other c)
    some_touched one other n listed =
        let h = (are.exact one other n).0 listed in
        let some : 1 ≤ n = let k = h.2 in omega arith in
        (h.0, Tally-some cells n some (subst (Tally (Touches are.starts one other) cells) h.3 (are.tallies one other h.0 h.1)))
