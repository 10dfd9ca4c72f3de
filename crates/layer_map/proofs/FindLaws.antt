-- what was found
use Rattle.std.proofs.Common.{◌≡◌, Option, Some, None, IsSome}
use Rattle.toml.specs.Data.{Data}
use Rattle.layer_map.specs.Values.{StandsAs}
use Rattle.layer_map.specs.inside.ReadValues.{Finds, IsThere, finds, lacks}

pub found : {A : Type 0} {Is : A → Type 0} {thing : A} → Finds Is (Some thing) → Is thing
found (finds is) = is

pub none_found : {A : Type 0} {Is : A → Type 0} → Finds Is None → (thing : A) → Is thing → ⊥
none_found (lacks not) = not

-- something stands there that is written so, or nothing does
module _ {A : Type 0} {as_value : A → Data} {Kind : A → Type 0} {there : Option Data} where
  pub stands : {thing : A} → IsThere as_value Kind there thing → StandsAs as_value Kind there
  stands {thing} is = (thing, is.written, is.is)

  pub none_stands : Finds (IsThere as_value Kind there) None → StandsAs as_value Kind there → ⊥
  none_stands none (thing, written, is) = none_found none thing (record { written = written; is = is })

pub not_some : {A : Type 0} (o : Option A) → None ≡ o → IsSome o → ⊥
not_some None e some = cc some
not_some (Some x) e some = cc e
