use Rattle.std.proofs.Common.{All, Contains, List}
use Rattle.lists.proofs.Words.{All-contains}
use Rattle.geo_core.specs.Plane.{IsInUnion}
use Rattle.geo_core.specs.declared.plane.Cell.{Cell}
use Rattle.geo_core.specs.declared.plane.Rect.{Rect}
use Rattle.fault_model.specs.declared.island.Spot.{Spot}
use Rattle.fault_model.proofs.UnionLaws.{among_union}
use Rattle.area_calls.specs.OnPieces.{IsOnPieces, IsSpotOnPieces}
use Rattle.area_calls.proofs.spotted.with_spots.Goals as goal

-- what has the cells of each spot of a list has those of one of them
of_spot : (pieces : List Rect) (spots : List Spot) → All (IsSpotOnPieces pieces) spots → (spot : Spot) (c : Cell) → Contains spots spot → IsInUnion spot.rects c → IsInUnion pieces c
of_spot pieces spots all spot c among u =
    All-contains (IsOnPieces pieces) spot.rects u.rect (All-contains (IsSpotOnPieces pieces) spots spot all among) (among_union spot.rects c u) c u.has

pub invariant_of-result : goal.invariant_of-result
invariant_of-result c =
    let pieces = c.island.inside.pieces in
    let all : All (IsSpotOnPieces c.as_slice-2.result.now) c.as_slice.result.now = c.are_on.ensures c.if-not-are_on.false in
    let here : All (IsSpotOnPieces pieces) c.args.spots.items = rw (c.as_slice.ensures.value, c.as_slice-2.ensures) at all in
    record {
      connected = c.island.invariant.connected;
      on_pieces = λ spot d among u. of_spot pieces c.args.spots.items here spot d (rw c.from_vec.ensures at among) u;
    }
