-- pieces with the numbers of their nets: a half square is of the net with a number exactly where it lies on a piece with the number
use Rattle.std.proofs.Common.{ℕ, ◌<◌, subst, List, length, get_or, arith, ◌↔◌, Contains}
use Rattle.lists.proofs.Containing.{Contains-slice_get}
use Rattle.lists.proofs.Words.{AllZip-long, Contains-get_or}
use Rattle.std.proofs.lemmas.List.Elements.{AllZip-get_or}
use Rattle.geo_core.specs.declared.plane.Cell.{Cell}
use Rattle.geo_core.specs.declared.plane.Half.{Half}
use Rattle.geo_core.specs.declared.plane.Labelled.{Labelled}
use Rattle.fault_model.specs.FaultNames.{Cut, LiesIn}
use Rattle.fault_model.proofs.HalfLaws.{some_half}
use Rattle.net_numbers.specs.FirstCells.{IsLabelCell, IsNumberOf, IsNumbered, IsNumberedPiece}
use Rattle.area_parts.specs.AreaParts.{ArePiecesOf}
use Rattle.layout_nets.specs.NetNumbers.{IsOfNet}
use Rattle.layout_nets.proofs.laws.PieceNets.{keeps_label, one_net}

-- a number has the cells of its label
abbrev pub NumbersKeepCells : (pieces numbered : List Labelled) → IsNumbered pieces numbered → Type 0
NumbersKeepCells pieces numbered is =
    (label number : ℕ) (c : Cell) → IsNumberOf pieces is.cells label number → IsLabelCell numbered number c ↔ IsLabelCell pieces label c

module _ (pieces numbered : List Labelled) (is : IsNumbered pieces numbered) where
  -- a numbered piece has its rectangle and its number from a piece
  from_piece : (item : Labelled) → Contains numbered item → (piece : Labelled) × Contains pieces piece × IsNumberedPiece pieces is.cells piece item
  from_piece item (k, small, at) =
      let long = AllZip-long (IsNumberedPiece pieces is.cells) pieces numbered is.each in
      let here : k < length pieces = omega arith in
      let becomes = AllZip-get_or (IsNumberedPiece pieces is.cells) pieces numbered k item item is.each here in
      (get_or pieces k item, Contains-get_or pieces k item here, subst (IsNumberedPiece pieces is.cells (get_or pieces k item)) at becomes)

  module _ (covers : ℕ → Cell → Type 0) (cuts : List Cut) (m : ℕ) (are : ArePiecesOf covers cuts m pieces) (kept : NumbersKeepCells pieces numbered is) where
    -- a cell with the number is of its net
    pub of_net : (number : ℕ) (c : Cell) (h : Half) → IsLabelCell numbered number c → LiesIn h c → IsOfNet covers cuts m is.cells number h
    of_net number c h has lies =
        let (piece, among, becomes) = from_piece has.piece has.among in
        let number_is : IsNumberOf pieces is.cells piece.label number = subst (IsNumberOf pieces is.cells piece.label) has.carries becomes.number in
        let corner = some_half number_is.cell in
        record {
          start = number_is.cell;
          at = number_is.at;
          corner = corner.0;
          in_start = corner.1;
          same = one_net covers cuts m pieces are piece.label number_is.cell c corner.0 h number_is.first.has ((kept piece.label number c number_is).0 has) corner.1 lies;
        }

    -- and a half square of the net lies in a cell with the number
    pub in_net : (number : ℕ) (c : Cell) (h : Half) → IsOfNet covers cuts m is.cells number h → LiesIn h c → IsLabelCell numbered number c
    in_net number c h of lies =
        let first = (is.are_first.all of.start).0 (Contains-slice_get is.cells number of.start of.at) in
        let number_is : IsNumberOf pieces is.cells first.0 number = record { cell = of.start; first = first.1; at = of.at } in
        (kept first.0 number c number_is).1 (keeps_label covers cuts m pieces are first.0 of.start c of.corner h first.1.has of.in_start lies of.same)
