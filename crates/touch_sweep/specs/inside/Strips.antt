-- where entries lie to the columns from `low` to before `high`
use Rattle.std.specs.Prelude.{ℤ, Bool, not, ◌&&◌}
use Rattle.std.specs.Int.Signed.{le_z, lt_z}
use Rattle.touch_sweep.specs.declared.numbered.Numbered.{Numbered}

-- it begins in one of them
abbrev pub begins_in : ℤ → ℤ → Numbered → Bool
begins_in low high e = le_z low e.rect.x0 && lt_z e.rect.x0 high

-- it begins in the first of them or before, and reaches past the last one
abbrev pub crosses : ℤ → ℤ → Numbered → Bool
crosses low high e = le_z e.rect.x0 low && le_z high e.rect.x1

-- it lies in one of them or beside it, but does not reach over all of them
abbrev pub meets_partly : ℤ → ℤ → Numbered → Bool
meets_partly low high e = not (crosses low high e) && (lt_z e.rect.x0 high && le_z low e.rect.x1)
