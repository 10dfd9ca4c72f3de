-- edges of tiles that are doubled where it pays
use Rattle.std.specs.Prelude.{ℕ, ◌*◌, ◌^◌, ◌≡◌}

-- the edge is the given one, or that doubled some times
pub record IsDoubled (given edge : ℕ) : Type 0 where
  pub doublings : ℕ
  pub edge_is : edge ≡ given * 2 ^ doublings
