-- numbers that are one in 64 bits
use Rattle.std.specs.Prelude.{ℕ, ◌≡◌, ◌%◌, ◌^◌}

-- both leave the same rest, where 2 ^ 64 is taken away as often as it goes
pub record HaveOneRest (m n : ℕ) : Type 0 where
  pub rest : m % 2 ^ 64 ≡ n % 2 ^ 64
