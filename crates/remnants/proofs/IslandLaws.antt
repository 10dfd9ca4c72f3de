-- the loose boxes of an island part its anchors as its metal does
use Rattle.std.proofs.Common.{ℕ, List, [], ◌<◌, refl, inl, inr, ◌↔◌, length, Contains, Option, Some, None}
use Rattle.lists.proofs.Containing.{Contains-slice_get, Contains-none}
use Rattle.paths.proofs.PathLaws.{first, last, within, retold}
use Rattle.geo_core.specs.Plane.{IsInUnion}
use Rattle.geo_core.specs.declared.plane.Half.{Half}
use Rattle.fault_model.specs.FaultNames.{IsOn, Neighbours, Walk, IslandLists, IsInAnchor}
use Rattle.fault_model.specs.IslandLists.{IsAnchoredIsland}
use Rattle.half_boxes.specs.HalfBoxes.{HasHalf}
use Rattle.half_boxes.specs.declared.boxes.HalfBox.{HalfBox}
use Rattle.severing.specs.Severing.{IsLeft, IsSevered}
use Rattle.remnants.specs.Remnants.{RemnantLists, HasFixed, Stays, IsStep, Way, IsAt, IsSplit, IsJoined}
use Rattle.remnants.specs.declared.parts.Loose.{Loose}
use Rattle.remnants.specs.inside.IslandBoxes.{IsOfIsland, AreIslandBoxes}

module _ (island : IslandLists) (anchored : IsAnchoredIsland island) (loose : List Loose) (boxes : AreIslandBoxes island loose) (terminals : List ℕ)
    (all : (k : ℕ) → Contains terminals k ↔ (k < length island.anchors)) (removed : HalfBox) where
  abbrev whole : RemnantLists
  whole = record { fixed = []; loose = loose; marks = []; terminals = terminals }

  abbrev IsLeftOf : Half → Type 0
  IsLeftOf = IsLeft (IsOn (IsInUnion island.pieces)) (HasHalf removed)

  nothing_fixed : (leader : ℕ) (h : Half) → HasFixed whole leader h → ⊥
  nothing_fixed leader h has = Contains-none has.among

  -- each half square of the island lies on its pieces
  on_pieces : (terminal : Option ℕ) (h : Half) → IsOfIsland island terminal h → IsOn (IsInUnion island.pieces) h
  on_pieces None h on = on
  on_pieces (Some number) h a = (a.lies.0, a.lies.1, anchored.on_pieces a.spot a.lies.0 (Contains-slice_get island.anchors number a.spot a.at) a.lies.2)

  stays_left : (h : Half) → Stays whole removed h → IsLeftOf h
  stays_left h (inl (leader, has)) = absurd (nothing_fixed leader h has)
  stays_left h (inr l) = (on_pieces l.loose.terminal h ((boxes l.loose.terminal h).0 (record { one = l.loose; among = l.among; of_terminal = refl; has = l.has })), l.spared)

  left_stays : (h : Half) → IsLeftOf h → Stays whole removed h
  left_stays h (on, spared) = let l = (boxes None h).1 on in inr (record { loose = l.one; among = l.among; has = l.has; spared = spared })

  step_next : (p q : Half) → IsStep whole p q → Neighbours p q
  step_next p q (inl n) = n
  step_next p q (inr (leader, a, b)) = absurd (nothing_fixed leader p a)

  walk_of : {p q : Half} → Way whole removed p q → Walk IsLeftOf p q
  walk_of way = retold (λ p q s t e. inr (step_next p q e)) (within stays_left way)

  way_of : {p q : Half} → Walk IsLeftOf p q → Way whole removed p q
  way_of walk = retold (λ p q s t e. inr (inl e)) (within left_stays walk)

  in_anchor : (number : ℕ) (h : Half) → IsAt whole removed number h → IsInAnchor island.anchors number h
  in_anchor number h (inl m) = absurd (Contains-none m.among)
  in_anchor number h (inr l) = (boxes (Some number) h).0 (record { one = l.loose; among = l.among; of_terminal = l.of_terminal; has = l.has })

  at_anchor : (number : ℕ) (h : Half) → IsInAnchor island.anchors number h → (HasHalf removed h → ⊥) → IsAt whole removed number h
  at_anchor number h a spared = let l = (boxes (Some number) h).1 a in inr (record { loose = l.one; among = l.among; of_terminal = l.of_terminal; has = l.has; spared = spared })

  pub whole_parts : IsSplit whole removed ↔ IsSevered island (HasHalf removed)
  whole_parts = (
    λ s. record {
      one = s.one;
      other = s.other;
      one_is = (all s.one).0 s.one_is;
      other_is = (all s.other).0 s.other_is;
      different = s.different;
      apart = λ p q a b walk. s.apart p q (at_anchor s.one p a (first walk).1) (at_anchor s.other q b (last walk).1) (way_of walk);
    },
    λ s. record {
      one = s.one;
      other = s.other;
      one_is = (all s.one).1 s.one_is;
      other_is = (all s.other).1 s.other_is;
      different = s.different;
      apart = λ p q a b way. s.apart p q (in_anchor s.one p a) (in_anchor s.other q b) (walk_of way);
    },
  )

-- a remnant with no fixed boxes and no marks is joined
pub none_joined : (loose : List Loose) (terminals : List ℕ) → IsJoined (record { fixed = []; loose = loose; marks = []; terminals = terminals })
none_joined loose terminals = record {
  leaders = record { led = λ f h. absurd (Contains-none h); marked = λ m h. absurd (Contains-none h) };
  touching = λ one other h. absurd (Contains-none h);
}
