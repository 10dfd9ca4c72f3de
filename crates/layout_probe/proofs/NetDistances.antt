-- pieces with the numbers of their nets: their distances to a cell are those of the nets
use Rattle.std.proofs.Common.{ℕ, ◌<◌, ◌≤◌, ◌≡◌, ◌≢◌, refl, sym, subst, arith, inl, inr, Option, None, Some, List, length, get_or, pos, Contains}
use Rattle.lists.proofs.Words.{AllZip-long, Contains-get_or, cases_lt}
use Rattle.std.proofs.lemmas.List.Elements.{AllZip-get_or}
use Rattle.geo_core.specs.Plane.{ComesNear, Has}
use Rattle.geo_core.specs.declared.plane.Cell.{Cell}
use Rattle.geo_core.specs.declared.plane.Half.{Half}
use Rattle.geo_core.specs.declared.plane.Labelled.{Labelled}
use Rattle.geo_core.specs.declared.plane.Rect.{Rect}
use Rattle.fault_model.specs.FaultNames.{Cut, IsOn}
use Rattle.fault_model.proofs.HalfLaws.{some_cell, some_half}
use Rattle.near_index.specs.Nearest.{IsDistance, IsLabelDistance, IsNearest, IsNearestTwo, found_label}
use Rattle.near_index.specs.declared.nearest.Near.{Near}
use Rattle.near_index.specs.declared.nearest.Nearest.{Nearest}
use Rattle.net_numbers.specs.FirstCells.{IsLabelCell, IsNumbered, IsNumberedPiece}
use Rattle.area_parts.specs.AreaParts.{ArePiecesOf}
use Rattle.layout_nets.specs.NetNumbers.{IsOfNet}
use Rattle.layout_nets.proofs.laws.NumberedNets.{NumbersKeepCells, in_net, of_net}
use Rattle.layout_nets.proofs.laws.PieceNets.{starts_are}
use Rattle.layout_probe.specs.NearestNets.{AreNearestNets, HasNetWithin, IsNearestOfNets, IsNetDistance}

-- the law of `near_index`: a cell has a distance to each rectangle
abbrev pub HaveDistances : Type 0
HaveDistances = (cell : Cell) (rect : Rect) → (distance : ℕ) × IsDistance cell rect distance

-- no cell of the rectangle is nearer than its distance
no_less : (cell : Cell) (rect : Rect) (distance by : ℕ) → IsDistance cell rect distance → ComesNear rect (pos by) cell → distance ≤ by
no_less cell rect distance by is near = elim (cases_lt by distance) [ inl less ↦ absurd (is.least by less near) | inr most ↦ most ]

module _ (covers : ℕ → Cell → Type 0) (cuts : List Cut) (m : ℕ) (pieces numbered : List Labelled) (is : IsNumbered pieces numbered) (are : ArePiecesOf covers cuts m pieces)
    (kept : NumbersKeepCells pieces numbered is) where
  -- each half square of the metal is of a net with a number
  pub all_numbered : (h : Half) → IsOn (covers m) h → (number : ℕ) × IsOfNet covers cuts m is.cells number h
  all_numbered h (d, lies, covered) =
      let found = (are.cover d).1 covered in
      let (k, small, at) = found.among in
      let long = AllZip-long (IsNumberedPiece pieces is.cells) pieces numbered is.each in
      let there : k < length numbered = omega arith in
      let item = get_or numbered k found.piece in
      let becomes = subst (λ p. IsNumberedPiece pieces is.cells p item) at (AllZip-get_or (IsNumberedPiece pieces is.cells) pieces numbered k found.piece found.piece is.each small) in
      let has : IsLabelCell numbered item.label d = record { piece = item; among = Contains-get_or numbered k found.piece there; carries = refl; has = subst (λ r. Has r d) (sym becomes.rect) found.has } in
      (item.label, of_net pieces numbered is covers cuts m are kept item.label d h has lies)

  module _ (c : Cell) where
    abbrev Within : ℕ → ℕ → Type 0
    Within = HasNetWithin covers cuts m is.cells c

    abbrev IsFar : ℕ → ℕ → Type 0
    IsFar = IsNetDistance covers cuts m is.cells c

    -- a net comes as near as its pieces
    net_within : (piece : Labelled) (by : ℕ) → Contains numbered piece → ComesNear piece.rect (pos by) c → Within by piece.label
    net_within piece by among near =
        let d = near.0 in
        let h = some_half d in
        let has : IsLabelCell numbered piece.label d = record { piece = piece; among = among; carries = refl; has = near.1 } in
        record { cell = d; of_net = record { half = h.0; lies = h.1; of_net = of_net pieces numbered is covers cuts m are kept piece.label d h.0 has h.1 }; near = near.2 }

    -- and has a piece that comes as near as it does
    piece_within : (by number : ℕ) → Within by number → (piece : Labelled) × Contains numbered piece × (piece.label ≡ number) × ComesNear piece.rect (pos by) c
    piece_within by number has =
        let label = in_net pieces numbered is covers cuts m are kept number has.cell has.of_net.half has.of_net.of_net has.of_net.lies in
        (label.piece, label.among, label.carries, (has.cell, label.has, has.near))

    module _ (far : HaveDistances) where
      net_distance : (number distance : ℕ) → IsLabelDistance numbered number c distance → IsFar distance number
      net_distance number distance at = record {
        reached = subst (Within distance) at.labelled (net_within at.piece distance at.among at.reached.reached);
        least = λ less small has.
            let (piece, among, labelled, near) = piece_within less number has in
            let (further, is_far) = far c piece.rect in
            let most = no_less c piece.rect further less is_far near in
            let least = at.least piece further among labelled is_far in
            omega arith;
      }

      -- no piece of the net is nearer than the net
      as_far : (number distance : ℕ) → IsFar distance number → (piece : Labelled) (further : ℕ) → Contains numbered piece → piece.label ≡ number → IsDistance c piece.rect further → distance ≤ further
      as_far number distance at piece further among labelled is_far = elim (cases_lt further distance) [
        | inl less ↦ absurd (at.least further less (subst (Within further) labelled (net_within piece further among is_far.reached)))
        | inr most ↦ most
      ]

      label_distance : (number distance : ℕ) → IsFar distance number → IsLabelDistance numbered number c distance
      label_distance number distance at =
          let (piece, among, labelled, near) = piece_within distance number at.reached in
          let (further, is_far) = far c piece.rect in
          let most = no_less c piece.rect further distance is_far near in
          let least = as_far number distance at piece further among labelled is_far in
          let same : further ≡ distance = omega arith in
          record {
            piece = piece;
            among = among;
            labelled = labelled;
            reached = subst (IsDistance c piece.rect) same is_far;
            least = as_far number distance at;
          }

      nearest_of : (except : Option ℕ) (near : Option Near) → IsNearest numbered c except near → IsNearestOfNets covers cuts m is.cells c except near
      nearest_of except None none = λ number h other of.
          let d = some_cell h in
          let label = in_net pieces numbered is covers cuts m are kept number d.0 h of d.1 in
          none.none label.piece label.among (subst (λ n. except ≢ Some n) (sym label.carries) other)
      nearest_of except (Some near) at = record {
        other = at.other;
        distance = net_distance near.label near.distance at.distance;
        first = λ distance number other is_far. at.first number distance other (label_distance number distance is_far);
      }

      -- so the nearest two numbers are those of the nearest two nets
      pub nearest_nets : (nearest : Nearest) → IsNearestTwo numbered c nearest → AreNearestNets covers cuts m c nearest
      nearest_nets nearest two = record {
        starts = is.cells;
        are_starts = starts_are covers cuts m pieces are is.cells is.are_first;
        all_numbered = all_numbered;
        first = nearest_of None nearest.first two.first;
        second = nearest_of (found_label nearest.first) nearest.second two.second;
      }
