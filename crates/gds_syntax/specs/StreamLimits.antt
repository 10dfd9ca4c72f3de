-- how long a stream may be
use Rattle.std.specs.Prelude.{ℕ, ◌^◌}

-- the most bytes that a stream may have
abbrev pub most_bytes : ℕ
most_bytes = 2 ^ 28
