use Rattle.std.proofs.Common.{Result, Ok, Err, IfOk, IsOkAnd, IsPermutation, subst}
use Rattle.near_index.specs.Nearest.{IsNearestTwo}
use Rattle.near_index.specs.declared.nearest.Nearest.{Nearest}
use Rattle.layout_probe.specs.inside.NumberedNearest.{AreNearestNumbers}
use Rattle.layout_probe.proofs.probing.nearest_of_pieces.Goals as goal

module _ {T E : Type 0} (P Q : T → Type 0) (each : (v : T) → P v → Q v) where
  ok_then : (result : Result T E) → IsOkAnd result P → IfOk result Q
  ok_then (Ok v) h = each v h
  ok_then (Err e) h = absurd h

pub returns : goal.returns
returns c =
    let pieces = c.args.pieces.now in
    let numbered = c.in_ok-numbered.numbered.items in
    let made : (nearest : Nearest) → IsNearestTwo numbered c.args.cell nearest → AreNearestNumbers pieces c.args.cell nearest =
    λ nearest two. record { numbered = numbered; is_numbered = c.in_ok-numbered.ensures; two = two } in
    let same = subst (λ list. IsPermutation list c.in_ok-index.index) c.as_slice.ensures.value c.in_ok-index.ensures in
    ok_then (IsNearestTwo c.in_ok-index.index c.args.cell) (AreNearestNumbers pieces c.args.cell)
    (λ nearest two. made nearest (c.nearest_two_are_one.ensures.in_any_order numbered c.in_ok-index.index c.args.cell nearest same two)) c.two_nearest.result c.two_nearest.ensures
