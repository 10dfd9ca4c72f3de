-- what the ring round a hole tells of an island
use Rattle.std.specs.Prelude.{IsTrue, ◌↔◌}
use Rattle.fault_model.specs.FaultNames.{IslandLists}
use Rattle.ring_test.specs.Rings.{Hole, HasOneArc}
use Rattle.ring_test.specs.IslandHoles.{IsOnIsland, ReachesInto, LosesAnchor}
use Rattle.ring_test.specs.declared.answers.RingAnswer.{RingAnswer}
use Rattle.ring_test.specs.declared.answers.RingAnswer.TheVariants.{Untouched, OneArc, Many}

-- The answer is right. One of the three cases holds, and no two of them (a law says so), so each answer comes exactly in its case.
abbrev pub IsRingAnswer : IslandLists → Hole → RingAnswer → Type 0
IsRingAnswer island hole Untouched = ReachesInto island hole → ⊥
IsRingAnswer island hole (OneArc lost) =
    ReachesInto island hole × HasOneArc hole (IsOnIsland island) × (IsTrue lost ↔ LosesAnchor island hole)
IsRingAnswer island hole Many = ReachesInto island hole × (HasOneArc hole (IsOnIsland island) → ⊥)

-- The answer settles whether the fact holds: not where the island is untouched, and with one arc exactly where an anchor is lost.
-- `Many` settles nothing.
abbrev pub Settles : RingAnswer → Type 0 → Type 0
Settles Untouched fact = fact → ⊥
Settles (OneArc lost) fact = fact ↔ IsTrue lost
Settles Many fact = Unit {0}
