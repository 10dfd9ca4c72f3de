-- columns at which a strip may be split, and how much there is to link in a strip
use Rattle.std.specs.Prelude.{ℕ, ℤ, Bool, List, AllPairs, Contains, filter, length, ◌+◌, ◌*◌, ◌≤◌, ◌&&◌, ◌≤ℤ◌}
use Rattle.std.specs.Int.Signed.{le_z, lt_z}
use Rattle.geo_core.specs.Intervals.{IsIn}
use Rattle.touch_sweep.specs.inside.Strips.{begins_in}
use Rattle.touch_sweep.specs.declared.numbered.Numbered.{Numbered}

-- from left to right
abbrev pub AreOrdered : List ℤ → Type 0
AreOrdered columns = AllPairs (λ a b. a ≤ℤ b) columns

-- each point that begins in the columns from `low` to before `high` begins in one of these, which come from left to right
pub record HaveBegins (splits : List ℤ) (low high : ℤ) (points : List Numbered) : Type 0 where
  pub ordered : AreOrdered splits
  pub all : (e : Numbered) → Contains points e → IsIn low high e.rect.x0 → Contains splits e.rect.x0

-- of the columns from `low` to before `high` those before the middle and the others have their own splits, half of all
pub record AreParted (low high : ℤ) (splits : List ℤ) (middle : ℤ) (before behind : List ℤ) : Type 0 where
  pub between : low ≤ℤ high → (low ≤ℤ middle) × (middle ≤ℤ high)
  pub ordered : AreOrdered splits → AreOrdered before × AreOrdered behind
  pub all_before : AreOrdered splits → (x : ℤ) → Contains splits x → IsIn low high x → IsIn low middle x → Contains before x
  pub all_behind : AreOrdered splits → (x : ℤ) → Contains splits x → IsIn low high x → IsIn middle high x → Contains behind x
  pub few_before : 2 * length before ≤ length splits + 1
  pub few_behind : 2 * length behind ≤ length splits + 1

-- the entry begins in one of the columns but the first, and ends in one of them
abbrev pub begins_inside : ℤ → ℤ → Numbered → Bool
begins_inside low high e = lt_z low e.rect.x0 && lt_z e.rect.x0 high

abbrev pub ends_inside : ℤ → ℤ → Numbered → Bool
ends_inside low high e = le_z low e.rect.x1 && lt_z e.rect.x1 high

-- how many points begin in the columns, and how many sides of spans lie in them
abbrev pub work_in : ℤ → ℤ → List Numbered → List Numbered → ℕ
work_in low high points spans =
    length (filter (begins_in low high) points)
    + (length (filter (begins_inside low high) spans) + length (filter (ends_inside low high) spans))
