-- first cells of nets: there is one list of them, and a number is of one net
use Rattle.std.proofs.Common.{ℕ, ◌≡◌, sym, ap, subst, ◌∙◌, List, Contains, slice_get, ◌↔◌}
use Rattle.lists.proofs.Containing.{Contains-slice_get, number_of}
use Rattle.lists.proofs.Words.{same_Some}
use Rattle.paths.specs.Paths.{stay}
use Rattle.paths.proofs.PathLaws.{append, first, last}
use Rattle.geo_core.specs.declared.plane.Cell.{Cell}
use Rattle.geo_core.specs.declared.plane.Half.{Half}
use Rattle.fault_model.specs.FaultNames.{Cut, IsOn, IsSameNetOn, LiesIn}
use Rattle.fault_model.proofs.HalfLaws.{cell_on}
use Rattle.fault_model.proofs.NetLaws.{in_one_cell, leads_back}
use Rattle.net_numbers.specs.FirstCells.{Precedes}
use Rattle.net_numbers.proofs.ListLaws.{one_place, same_when_rising}
use Rattle.net_numbers.proofs.OrderLaws.{one_way}
use Rattle.layout_nets.specs.NetNumbers.{AreNetStarts, AreOfOneNet, IsNetStart, IsOfNet}
use Rattle.layout_nets.proofs.laws.LeastLaws.{IsLeastIn, none_has}

module _ (covers : ℕ → Cell → Type 0) (cuts : List Cut) (m : ℕ) where
  -- the nets of a metal have one list of first cells
  pub starts_agree : (starts others : List Cell) → AreNetStarts covers cuts m starts → AreNetStarts covers cuts m others → starts ≡ others
  starts_agree starts others are same = same_when_rising Precedes one_way starts others are.rising same.rising (λ c.
      let here = are.all c in let there = same.all c in (λ h. there.1 (here.0 h), λ h. here.1 (there.0 h)))

  -- a net walk leads back
  back : (p q : Half) → IsSameNetOn covers cuts m p q → IsSameNetOn covers cuts m q p
  back p q w = leads_back (record { metal = m; half = p }) (record { metal = m; half = q }) w

  module _ (starts : List Cell) (are : AreNetStarts covers cuts m starts) where
    abbrev OfNet : ℕ → Half → Type 0
    OfNet = IsOfNet covers cuts m starts

    start_is : (number : ℕ) (h : Half) (of : OfNet number h) → IsNetStart covers cuts m of.start
    start_is number h of = (are.all of.start).0 (Contains-slice_get starts number of.start of.at)

    -- half squares of one net have one number
    pub same_number : (a b : ℕ) (p q : Half) → OfNet a p → OfNet b q → IsSameNetOn covers cuts m p q → a ≡ b
    same_number a b p q x y w =
        let joined : IsSameNetOn covers cuts m x.corner y.corner = append x.same (append w (back y.corner q y.same)) in
        let to_other : AreOfOneNet covers cuts m x.start y.start =
        record { one = x.corner; other = y.corner; in_one = x.in_start; in_other = y.in_start; same = joined } in
        let to_one : AreOfOneNet covers cuts m y.start x.start =
        record { one = y.corner; other = x.corner; in_one = y.in_start; in_other = x.in_start; same = back x.corner y.corner joined } in
        one_place Precedes starts are.rising a b x.start y.start x.at y.at ((start_is b q y).first x.start to_one) ((start_is a p x).first y.start to_other)

    -- half squares of one number are of one net
    pub same_net : (a b : ℕ) (p q : Half) → OfNet a p → OfNet b q → a ≡ b → IsSameNetOn covers cuts m p q
    same_net a b p q x y e =
        let start : x.start ≡ y.start = same_Some x.start y.start (sym x.at ∙ ap (slice_get starts) e ∙ y.at) in
        let lies : LiesIn y.corner x.start = subst (LiesIn y.corner) (sym start) y.in_start in
        append (back x.corner p x.same) (append (in_one_cell covers cuts m x.start x.corner y.corner (start_is a p x).covered x.in_start lies) y.same)

    -- numbers tell nets apart
    pub numbers_tell : (a b : ℕ) (p q : Half) → OfNet a p → OfNet b q → (a ≡ b) ↔ IsSameNetOn covers cuts m p q
    numbers_tell a b p q x y = (same_net a b p q x y, same_number a b p q x y)

    -- a half square of the metal in a cell of the net that no other such cell precedes is of a net with a number
    abbrev IsNetCell : Half → Cell → Type 0
    IsNetCell h c = (half : Half) × LiesIn half c × IsSameNetOn covers cuts m half h

    numbered : (cells : List Cell) → ((d : Cell) → covers m d → Contains cells d) → (h : Half) (c : Cell) → IsLeastIn (IsNetCell h) cells c
        → (number : ℕ) × OfNet number h
    numbered cells listed h c is =
        let half = is.has.0 in
        let same = is.has.2 in
        let covered : covers m c = cell_on half c is.has.1 (first same) in
        let start : IsNetStart covers cuts m c = record {
          covered = covered;
          first = λ d one before. is.least d (listed d (cell_on one.other d one.in_other (last one.same))) (
            one.other,
            one.in_other,
            append (back one.one one.other one.same)
                (append (in_one_cell covers cuts m c one.one half covered one.in_one is.has.1) same),
          ) before;
        } in
        let number = number_of starts c ((are.all c).1 start) in
        (number.0, record { start = c; at = number.1; corner = half; in_start = is.has.1; same = same })

    -- where a list has all cells of the metal, no half square of the metal lacks a number
    pub none_lacks_number : (cells : List Cell) → ((d : Cell) → covers m d → Contains cells d) → (h : Half) → IsOn (covers m) h
        → ((number : ℕ) → OfNet number h → ⊥) → ⊥
    none_lacks_number cells listed h on none =
        none_has (IsNetCell h) cells (λ c is. let found = numbered cells listed h c is in none found.0 found.1) on.0 (listed on.0 on.2) (h, on.1, stay on)
