-- what the version of a document says of its sizes
use Rattle.std.proofs.Common.{ℕ, pos, ◌≡◌, ◌==◌, Bool, true, false, Option, Some, None, IsSome, IsTrue, All, Contains, List, subst, ◌↔◌, refl, ap, ◌∙◌, arith}
use Rattle.lists.proofs.Words.{nat_tests}
use Rattle.toml.specs.Data.{Data, Members, integer}
use Rattle.map_model.specs.declared.measure.Measure.{Measure}
use Rattle.map_model.specs.declared.measure.Measure.TheVariants.{Radius, Side}
use Rattle.layer_map.specs.DocumentSizes.{measure_of, measured_by, sides_if}
use Rattle.layer_map.specs.Values.{StandsAs, keys_in, version_in, whole_number}
use Rattle.layer_map.specs.MapChecks.{Holds, IsVersion, has_known_keys, has_version, map_keys}
use Rattle.layer_map.specs.inside.ReadValues.{Finds, IsWholeIn, finds, lacks}

-- the whole number 2 says that sizes are sides
pub are_sides : (value : Data) (number : ℕ) → IsWholeIn 2 2 value number → measured_by (Some value) ≡ Side
are_sides value number is =
    let two : number ≡ 2 = omega (arith, is.is.least, is.is.most) in ap (λ v. measured_by (Some v)) (is.written ∙ ap whole_number two)

-- and nothing else does
pub are_radii : (value : Data) → ((number : ℕ) → IsWholeIn 2 2 value number → ⊥) → measured_by (Some value) ≡ Radius
are_radii (integer (pos number)) none = by (number == 2) refl where
  by : (test : Bool) → (number == 2) ≡ test → sides_if test ≡ Radius
  by true two =
      let same : number ≡ 2 = grind (arith, nat_tests, two) in
      absurd (none number (record { written = refl; is = record { least = omega arith; most = omega arith } }))
  by false other = refl
are_radii value none = refl

-- a version is a whole number within these bounds
version_is : (value : Data) (number : ℕ) → IsWholeIn 1 2 value number → StandsAs whole_number IsVersion (Some value)
version_is value number is = (number, ap Some is.written, (is.is.least, is.is.most))

no_version : (value : Data) → ((number : ℕ) → IsWholeIn 1 2 value number → ⊥) → StandsAs whole_number IsVersion (Some value) → ⊥
no_version value none (number, written, is) = none number (record { written = cc written; is = record { least = is.0; most = is.1 } })

pub version_found : (value : Data) (read : Option ℕ) → Finds (IsWholeIn 1 2 value) read → IsSome read ↔ StandsAs whole_number IsVersion (Some value)
version_found value (Some number) (finds is) = (λ some. version_is value number is, λ stands. refl)
version_found value None (lacks none) = (λ some. cc some, λ stands. absurd (no_version value none stands))

-- what was told of the keys and of the version is what is checked of the document
module _ (document : Members) where
  pub keys_known : (measure : Measure) (known : List (List ℕ)) (told : Bool) → known ≡ map_keys measure → measure ≡ measure_of document → (IsTrue told ↔ All (Contains known) (keys_in document))
      → IsTrue told ↔ Holds document has_known_keys
  keys_known measure known told are of =
      subst (λ (keys : List (List ℕ)). IsTrue told ↔ All (Contains keys) (keys_in document)) (are ∙ ap map_keys of)

  pub version_stands : (there : Option Data) (told : Bool) → there ≡ version_in document → (IsTrue told ↔ StandsAs whole_number IsVersion there) → IsTrue told ↔ Holds document has_version
  version_stands there told is = subst (λ at. IsTrue told ↔ StandsAs whole_number IsVersion at) is
