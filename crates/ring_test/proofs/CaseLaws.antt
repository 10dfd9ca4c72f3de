-- the answers of a ring: one is right at most, and it cannot be that none is
use Rattle.std.proofs.Common.{◌≡◌, refl, ap, sym, Bool, true, false, IsTrue, ◌↔◌}
use Rattle.first_refusal.specs.Laws.{IsUnique, CannotLack}
use Rattle.fault_model.specs.FaultNames.{IslandLists}
use Rattle.ring_test.specs.Rings.{Hole, HasOneArc}
use Rattle.ring_test.specs.IslandHoles.{IsOnIsland, LosesAnchor, ReachesInto}
use Rattle.ring_test.specs.RingAnswers.{IsRingAnswer}
use Rattle.ring_test.specs.declared.answers.RingAnswer.TheVariants.{Untouched, OneArc, Many}

-- two tests of one fact are the same
same_test : {A : Type 0} (one other : Bool) → IsTrue one ↔ A → IsTrue other ↔ A → one ≡ other
same_test true true a b = refl
same_test true false a b = let s : true ≡ false = sym (b.1 (a.0 refl)) in cc s
same_test false true a b = let s : true ≡ false = sym (a.1 (b.0 refl)) in cc s
same_test false false a b = refl

module _ (island : IslandLists) (hole : Hole) where
  pub answers_agree : IsUnique (IsRingAnswer island hole)
  answers_agree Untouched Untouched a b = refl
  answers_agree Untouched (OneArc lost) a b = absurd (a b.0)
  answers_agree Untouched Many a b = absurd (a b.0)
  answers_agree (OneArc lost) Untouched a b = absurd (b a.0)
  answers_agree (OneArc lost) (OneArc other) a b = ap (λ (l : Bool). OneArc l) (same_test lost other a.2 b.2)
  answers_agree (OneArc lost) Many a b = absurd (b.1 a.1)
  answers_agree Many Untouched a b = absurd (b a.0)
  answers_agree Many (OneArc lost) a b = absurd (a.1 b.1)
  answers_agree Many Many a b = refl

  pub answers_cannot_lack : CannotLack (IsRingAnswer island hole)
  answers_cannot_lack none = none Untouched untouched where
    untouched : ReachesInto island hole → ⊥
    untouched reaches = none Many (reaches, no_arc) where
      no_arc : HasOneArc hole (IsOnIsland island) → ⊥
      no_arc arc = none (OneArc false) (reaches, arc, (λ t. let s : true ≡ false = sym t in cc s, λ lost. absurd (spared lost))) where
        spared : LosesAnchor island hole → ⊥
        spared lost = none (OneArc true) (reaches, arc, (λ t. lost, λ l. refl))
