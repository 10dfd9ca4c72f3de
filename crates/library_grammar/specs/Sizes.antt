-- the sizes of bodies
use Rattle.std.specs.Prelude.{ℕ, length, ◌≡◌}
use Rattle.gds_records.specs.Profile.{IsInProfile}
use Rattle.gds_records.specs.RecordSpelling.{Entry}

-- each record of this kind has so many bytes in its body
abbrev pub BodiesHave : ℕ → ℕ → Type 0
BodiesHave n k = (e : Entry) → IsInProfile e → e.kind ≡ k → length e.body ≡ n
