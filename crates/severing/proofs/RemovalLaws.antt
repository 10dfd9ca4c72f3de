-- terminals that are parted, as more is removed, and under maps
use Rattle.std.proofs.Common.{ℕ}
use Rattle.paths.proofs.PathLaws.{within}
use Rattle.geo_core.specs.declared.plane.Half.{Half}
use Rattle.fault_model.specs.FaultNames.{Walk}
use Rattle.severing.specs.Severing.{IsLeft, IsParted}

-- Terminals are parted where others are, if a map takes half squares of each of them to half squares of the other of the same
-- number, and walks on what is left to walks.
pub parted_by : {on other_on : Half → Type 0} {count : ℕ} {terminal other_terminal : ℕ → Half → Type 0} {R S : Half → Type 0} (f : Half → Half)
    → ((k : ℕ) (h : Half) → other_terminal k h → terminal k (f h)) → ((p q : Half) → Walk (IsLeft other_on S) p q → Walk (IsLeft on R) (f p) (f q))
    → IsParted on count terminal R → IsParted other_on count other_terminal S
parted_by f terminals walks parted = record {
  one = parted.one;
  other = parted.other;
  one_is = parted.one_is;
  other_is = parted.other_is;
  different = parted.different;
  apart = λ p q in_p in_q w. parted.apart (f p) (f q) (terminals parted.one p in_p) (terminals parted.other q in_q) (walks p q w);
}

-- the removal of more parts what the removal of less does
pub parted_grows : {on : Half → Type 0} {count : ℕ} {terminal : ℕ → Half → Type 0} {R S : Half → Type 0} → ((h : Half) → R h → S h) → IsParted on count terminal R → IsParted on count terminal S
parted_grows more = parted_by (λ h. h) (λ k h is. is) (λ p q. within (λ h left. (left.0, λ gone. left.1 (more h gone))))
