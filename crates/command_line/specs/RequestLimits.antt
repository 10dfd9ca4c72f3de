-- the limits of the numbers of a request
use Rattle.std.specs.Prelude.{ℕ, pos, neg_ℤ, ◌≤◌}
use Rattle.geo_core.specs.Intervals.{IsIn}
use Rattle.lists.specs.Words.{Unit-prop, props}
use Rattle.command_line.specs.declared.task.Task.{Task}
use Rattle.command_line.specs.declared.task.Task.TheVariants.{OneMetal, Mapped, Pairs, Probe, Regions, Generated}

-- the number lies within these bounds
pub record IsWithin (low high n : ℕ) : Type 0 where
  pub least : low ≤ n
  pub most : n ≤ high

-- the numbers of the task are within their limits
abbrev pub IsWithinLimits : Task → Type 0
IsWithinLimits (OneMetal layout layer datatype radius top) = IsWithin 0 65535 layer × IsWithin 0 65535 datatype × IsWithin 1 1000000 radius
IsWithinLimits (Mapped layout map top) = Unit {0}
IsWithinLimits (Pairs layout map top size) = IsWithin 1 32 size
IsWithinLimits (Probe layout map top cell) = IsIn (neg_ℤ (pos 1000000000)) (pos 1000000000) cell.i × IsIn (neg_ℤ (pos 1000000000)) (pos 1000000000) cell.j
IsWithinLimits (Regions layout map top kind layer size) = IsWithin 1 32 size
IsWithinLimits (Generated columns) = IsWithin 1 500 columns

-- this holds in one way at most
pub IsWithinLimits-prop : (task : Task) → IsProp (IsWithinLimits task)
IsWithinLimits-prop (OneMetal layout layer datatype radius top) = hlevel props
IsWithinLimits-prop (Mapped layout map top) = Unit-prop
IsWithinLimits-prop (Pairs layout map top size) = hlevel props
IsWithinLimits-prop (Probe layout map top cell) = hlevel props
IsWithinLimits-prop (Regions layout map top kind layer size) = hlevel props
IsWithinLimits-prop (Generated columns) = hlevel props
