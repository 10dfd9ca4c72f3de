-- a defect touches pieces of two numbers exactly where it touches the two nets
use Rattle.std.proofs.Common.{ℕ, ◌+◌, ◌/◌, ◌≤◌, ◌≡◌, ◌≢◌, subst, List, arith, ◌↔◌, inl, inr}
use Rattle.lists.proofs.Words.{cases_lt, ints}
use Rattle.geo_core.specs.declared.plane.Cell.{Cell}
use Rattle.geo_core.specs.declared.plane.Half.{Half}
use Rattle.geo_core.specs.declared.plane.Labelled.{Labelled}
use Rattle.geo_core.proofs.RectLaws.{same_cell}
use Rattle.fault_model.specs.FaultNames.{Cut, IsInFootprint, IsTouched, LiesIn}
use Rattle.fault_model.proofs.HalfLaws.{cell_on, some_cell}
use Rattle.fault_model.proofs.NetLaws.{in_one_cell}
use Rattle.fault_model.proofs.SizeLaws.{touched}
use Rattle.short_area.specs.Labels.{TouchesLabel}
use Rattle.paths.proofs.PathLaws.{last}
use Rattle.net_numbers.specs.FirstCells.{IsLabelCell, IsNumbered}
use Rattle.net_pairs.specs.Pairs.{TouchesBoth}
use Rattle.area_parts.specs.AreaParts.{ArePiecesOf}
use Rattle.layout_nets.specs.NetNumbers.{AreNetStarts, IsOfNet}
use Rattle.layout_pairs.specs.PairAreas.{TouchesNets}
use Rattle.layout_nets.proofs.laws.NetStartLaws.{one_number}
use Rattle.layout_nets.proofs.laws.NumberedNets.{NumbersKeepCells, in_net, of_net}
use Rattle.layout_nets.proofs.laws.PieceNets.{starts_are}

-- a defect of a side of 2 or more touches the cells that one of the radius touches which is half of the side, rounded down
same_touched : (s : ℕ) → 2 ≤ s → (c d : Cell) → IsTouched c (s / 2 + s / 2) d ↔ IsTouched c s d
same_touched s some c d =
    let n = s / 2 in
    let one = touched s n (omega arith) (omega arith) (omega arith) c d in
    let two = touched (n + n) n (omega arith) (omega arith) (omega arith) c d in
    (λ t. one.1 (two.0 t), λ t. two.1 (one.0 t))

-- a defect of radius 0 touches nothing
pub touches_none : (pieces : List Labelled) (r label : ℕ) (c : Cell) → r ≡ 0 → TouchesLabel pieces r c label → ⊥
touches_none pieces r label c e t = let hit = t.hit.0 in let from = hit.from in let before = hit.before in omega (arith, ints)

-- two half squares that a defect of side 1 has lie in its cell
in_own_cell : (s : ℕ) (c d : Cell) (h : Half) → s ≡ 1 → LiesIn h d → IsInFootprint c s h → d ≡ c
in_own_cell s c d h e lies hit =
    let near = (touched s 0 (omega arith) (omega arith) (omega arith) c d).0 (h, lies, hit) in
    same_cell d c (omega (arith, ints)) (omega (arith, ints))

-- so it does not touch two nets
never_both : (covers : ℕ → Cell → Type 0) (cuts : List Cut) (m s : ℕ) (starts : List Cell) (one other : ℕ) (c : Cell) → AreNetStarts covers cuts m starts → s ≡ 1 → one ≢ other
    → TouchesNets covers cuts m s starts one other c → ⊥
never_both covers cuts m s starts one other c are e different t =
    let p = t.half_of_one in
    let q = t.half_of_other in
    let d = some_cell p in
    let f = some_cell q in
    let at_p : LiesIn p c = subst (LiesIn p) (in_own_cell s c d.0 p e d.1 t.one_hit) d.1 in
    let at_q : LiesIn q c = subst (LiesIn q) (in_own_cell s c f.0 q e f.1 t.other_hit) f.1 in
    let covered = cell_on p c at_p (last t.of_one.same) in
    different (one_number covers cuts m starts are one other p q t.of_one t.of_other (in_one_cell covers cuts m c p q covered at_p at_q))

module _ (covers : ℕ → Cell → Type 0) (cuts : List Cut) (m : ℕ) (pieces numbered : List Labelled) (is : IsNumbered pieces numbered) (are : ArePiecesOf covers cuts m pieces)
    (kept : NumbersKeepCells pieces numbered is) where
  module _ (s : ℕ) (c : Cell) (some : 2 ≤ s) where
    net_hit : (number : ℕ) → TouchesLabel numbered (s / 2) c number → (h : Half) × IsOfNet covers cuts m is.cells number h × IsInFootprint c s h
    net_hit number t =
        let d = t.on.0 in
        let there : IsLabelCell numbered number d = record { piece = t.piece; among = t.among; carries = t.labelled; has = t.on.2 } in
        let (h, lies, hit) = (same_touched s some c d).0 (t.half, t.on.1, t.hit) in
        (h, of_net pieces numbered is covers cuts m are kept number d h there lies, hit)

    label_hit : (number : ℕ) (h : Half) → IsOfNet covers cuts m is.cells number h → IsInFootprint c s h → TouchesLabel numbered (s / 2) c number
    label_hit number h of hit =
        let cell = some_cell h in
        let d = cell.0 in
        let there = in_net pieces numbered is covers cuts m are kept number d h of cell.1 in
        let (g, lies, under) = (same_touched s some c d).1 (h, cell.1, hit) in
        record { piece = there.piece; among = there.among; labelled = there.carries; half = g; on = (d, lies, there.has); hit = under }

    both_is : (one other : ℕ) → TouchesBoth numbered (s / 2) one other c ↔ TouchesNets covers cuts m s is.cells one other c
    both_is one other = (
      λ t.
          let p = net_hit one t.touches_one in
          let q = net_hit other t.touches_other in
          record { half_of_one = p.0; half_of_other = q.0; of_one = p.1; of_other = q.1; one_hit = p.2; other_hit = q.2 },
      λ t. record { touches_one = label_hit one t.half_of_one t.of_one t.one_hit; touches_other = label_hit other t.half_of_other t.of_other t.other_hit },
    )

  -- of two numbers, at any side; side 1 touches no two nets
  pub touches_is : (s : ℕ) → 1 ≤ s → (one other : ℕ) → one ≢ other → (c : Cell) → TouchesBoth numbered (s / 2) one other c ↔ TouchesNets covers cuts m s is.cells one other c
  touches_is s some one other different c = elim (cases_lt s 2) [
    | inl less ↦ (
      λ t. absurd (touches_none numbered (s / 2) one c (omega arith) t.touches_one),
      λ t. absurd (never_both covers cuts m s is.cells one other c (starts_are covers cuts m pieces are is.cells is.are_first) (omega arith) different t),
    )
    | inr more ↦ both_is s c more one other
  ]
