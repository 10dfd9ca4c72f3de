-- a defect moves by one unit, and what it gains looks like what lies behind that: walks past it are told anew
use Rattle.std.proofs.Common.{ℕ, ◌≡◌, refl, sym, subst, arith, inl, inr, ◌⊎◌, ℤ, pos}
use Rattle.lists.proofs.Words.{ints}
use Rattle.paths.specs.Paths.{stay, step}
use Rattle.geo_core.specs.Plane.{IsIn, Adjoins, ComesWithin}
use Rattle.geo_core.specs.Intervals.{IsWithin}
use Rattle.geo_core.specs.declared.plane.Half.{Half}
use Rattle.geo_core.proofs.IntervalLaws.{equal_or_not, in_or_not, Adjoins-sym}
use Rattle.fault_model.specs.FaultNames.{Neighbours, Walk}
use Rattle.fault_model.proofs.HalfLaws.{Neighbours-sym}
use Rattle.fault_model.proofs.LineLaws.{Walk-reverse}
use Rattle.severing.specs.Severing.{IsLeft, IsParted}
use Rattle.severing.proofs.AdvanceLaws.{Advances}
use Rattle.severing.proofs.PathMaps.{mapped}
use Rattle.severing.proofs.RemovalLaws.{parted_by}

-- the half square in this column and row
abbrev pub spot : ℤ → ℤ → Half
spot x y = record { u = x; v = y }

-- in the rows of the defect, and the two beside them, the set has the same of the middle column and the two beside it
abbrev pub AreAlike : (Half → Type 0) → ℤ → ℤ → ℤ → Type 0
AreAlike S middle low high = (x w y : ℤ) → IsWithin x middle (pos 1) → IsWithin w middle (pos 1) → ComesWithin low high (pos 1) y → S (spot x y) → S (spot w y)

pub at_once : (x : ℤ) → IsWithin x x (pos 1)
at_once x = (omega (arith, ints), omega (arith, ints))

pub beside : (x y : ℤ) → Adjoins x y → IsWithin x y (pos 1)
beside x y (inl e) = (omega (arith, ints), omega (arith, ints))
beside x y (inr e) = (omega (arith, ints), omega (arith, ints))

either_within : (x first middle : ℤ) → Adjoins first middle → (x ≡ first) ⊎ (x ≡ middle) → IsWithin x middle (pos 1)
either_within x first middle a (inl e) = subst (λ z. IsWithin z middle (pos 1)) (sym e) (beside first middle a)
either_within x first middle a (inr e) = subst (λ z. IsWithin z middle (pos 1)) (sym e) (at_once middle)

module _ {Before After : ℤ → Type 0} {first middle beyond : ℤ} (move : Advances Before After first middle beyond) (low high : ℤ) where
  -- the half square is one that the defect gains
  abbrev IsGained : Half → Type 0
  IsGained h = ((h.u ≡ first) ⊎ (h.u ≡ middle)) × IsIn low high h.v

  gained_or_not : (h : Half) → IsGained h ⊎ (IsGained h → ⊥)
  gained_or_not h = elim (in_or_not low high h.v) [
    | inl y ↦ elim (equal_or_not h.u first) [
      | inl e ↦ inl (inl e, y)
      | inr m ↦ elim (equal_or_not h.u middle) [ inl e ↦ inl (inr e, y) | inr n ↦ inr (λ g. elim g.0 [ inl e ↦ m e | inr e ↦ n e ]) ]
    ]
    | inr n ↦ inr (λ g. n g.1)
  ]

  -- what is gained goes to the column beyond, in its row, and all else stays
  abbrev goes : (h : Half) → IsGained h ⊎ (IsGained h → ⊥) → Half
  goes h (inl g) = spot beyond h.v
  goes h (inr n) = h

  abbrev place : Half → Half
  place h = goes h (gained_or_not h)

  -- a set that is alike has the new place
  has_goes : (S : Half → Type 0) → AreAlike S middle low high → (h : Half) (g : IsGained h ⊎ (IsGained h → ⊥)) → S h → S (goes h g)
  has_goes S alike h (inl g) has =
      alike h.u beyond h.v (either_within h.u first middle move.first_middle g.0) (beside beyond middle (Adjoins-sym middle beyond move.middle_beyond)) (h.v, g.1, at_once h.v) has
  has_goes S alike h (inr n) has = has

  module _ (on : Half → Type 0) (alike : AreAlike on middle low high) where
    abbrev Spared : (ℤ → Type 0) → Half → Type 0
    Spared Has = IsLeft on (λ h. Has h.u × IsIn low high h.v)

    lands : (h : Half) (g : IsGained h ⊎ (IsGained h → ⊥)) → Spared Before h → Spared After (goes h g)
    lands h (inl g) left = (has_goes on alike h (inl g) left.0, λ hit. move.beyond_free hit.0)
    lands h (inr n) left = (left.0, λ hit. elim (move.gained h.u hit.0) [ inl had ↦ left.1 (had, hit.1) | inr new ↦ n (new, hit.1) ])

    -- a walk in a row that the defect does not have
    in_row : (x y : ℤ) → ((w : ℤ) → IsWithin w middle (pos 1) → Spared After (spot w y)) → (x ≡ first) ⊎ (x ≡ middle) → Walk (Spared After) (spot beyond y) (spot x y)
    in_row x y all is =
        let beyond_at = all beyond (beside beyond middle (Adjoins-sym middle beyond move.middle_beyond)) in
        let middle_at = all middle (at_once middle) in
        let back = Adjoins-sym middle beyond move.middle_beyond in
        elim is [
          | inl e ↦ subst (λ z. Walk (Spared After) (spot beyond y) (spot z y)) (sym e)
              (step beyond_at (inl (refl, back)) (step middle_at (inl (refl, Adjoins-sym first middle move.first_middle)) (stay (all first (beside first middle move.first_middle)))))
          | inr e ↦ subst (λ z. Walk (Spared After) (spot beyond y) (spot z y)) (sym e) (step beyond_at (inl (refl, back)) (stay middle_at))
        ]

    -- what lies beside what is gained, in its row, and is neither gained nor was had before, lies beyond
    beyond_beside : (x z y : ℤ) → (x ≡ first) ⊎ (x ≡ middle) → Adjoins x z → IsIn low high y → (IsGained (spot z y) → ⊥) → Spared Before (spot z y) → z ≡ beyond
    beyond_beside x z y (inl e) a row n left = elim (move.beside_first z (subst (λ w. Adjoins w z) e a)) [
      | inl m ↦ absurd (n (inr m, row))
      | inr had ↦ absurd (left.1 (had, row))
    ]
    beyond_beside x z y (inr e) a row n left = elim (move.beside_middle z (subst (λ w. Adjoins w z) e a)) [ inl m ↦ absurd (n (inl m, row)) | inr f ↦ f ]

    -- from what is gained to what is not
    leaves : (h k : Half) (g : IsGained h) → (IsGained k → ⊥) → Spared Before h → Spared Before k → Neighbours h k → Walk (Spared After) (spot beyond h.v) k
    leaves h k g n a b (inl (e, x)) =
        let f = beyond_beside h.u k.u k.v g.0 x (subst (IsIn low high) e g.1) n b in
        let here : Walk (Spared After) (spot beyond h.v) (spot beyond h.v) = stay (lands h (inl g) a) in
        subst (λ z. Walk (Spared After) (spot beyond h.v) (spot z k.v)) (sym f) (subst (λ y. Walk (Spared After) (spot beyond h.v) (spot beyond y)) e here)
    leaves h k g n a b (inr (e, y)) =
        let new = subst (λ x. (x ≡ first) ⊎ (x ≡ middle)) e g.0 in
        step (lands h (inl g) a) (inr (refl, y)) (in_row k.u k.v
        (λ w close. (alike k.u w k.v (either_within k.u first middle move.first_middle new) close (h.v, g.1, beside k.v h.v (Adjoins-sym h.v k.v y)) b.0, λ hit. n (new, hit.1))) new)

    steps : (h k : Half) (g : IsGained h ⊎ (IsGained h → ⊥)) (i : IsGained k ⊎ (IsGained k → ⊥)) → Spared Before h → Spared Before k → Neighbours h k
        → Walk (Spared After) (goes h g) (goes k i)
    steps h k (inl g) (inl i) a b (inl (e, x)) = subst (λ y. Walk (Spared After) (spot beyond h.v) (spot beyond y)) e (stay (lands h (inl g) a))
    steps h k (inl g) (inl i) a b (inr (e, y)) = step (lands h (inl g) a) (inr (refl, y)) (stay (lands k (inl i) b))
    steps h k (inl g) (inr n) a b next = leaves h k g n a b next
    steps h k (inr n) (inl i) a b next = Walk-reverse (leaves k h i n b a (Neighbours-sym h k next))
    steps h k (inr n) (inr m) a b next = step (lands h (inr n) a) next (stay (lands k (inr m) b))

    retold : {p q : Half} → Walk (Spared Before) p q → Walk (Spared After) (place p) (place q)
    retold = mapped place (λ h. lands h (gained_or_not h)) (λ h k. steps h k (gained_or_not h) (gained_or_not k))

    -- so where the defect parts two terminals after its move, it parted them before
    pub parted_before : (count : ℕ) (terminal : ℕ → Half → Type 0) → ((k : ℕ) → AreAlike (terminal k) middle low high)
        → IsParted on count terminal (λ h. After h.u × IsIn low high h.v) → IsParted on count terminal (λ h. Before h.u × IsIn low high h.v)
    parted_before count terminal each = parted_by place (λ k h. has_goes (terminal k) (each k) h (gained_or_not h)) (λ p q. retold)
