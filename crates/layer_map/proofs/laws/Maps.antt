-- Bytes come to one layer map or one fault, and to one of them in any case; and what a map of radii lacks.
use Rattle.std.proofs.Common.{◌≡◌, ℕ, false, List, sym, ap, ◌∙◌, arith}
use Rattle.first_refusal.specs.Checks.{all_hold}
use Rattle.first_refusal.specs.Outcomes.{goes_on, value}
use Rattle.first_refusal.specs.Laws.{IsUnique, CannotLack}
use Rattle.first_refusal.proofs.CheckLaws.{checks_agree, checks_cannot_lack}
use Rattle.first_refusal.proofs.StageLaws.{readings_agree, stages_agree, reading_cannot_lack, stages_cannot_lack}
use Rattle.layer_map.specs.Documents.{DocumentComesTo, GivesMap, IsDocument, MapComesTo}
use Rattle.layer_map.specs.MapChecks.{Holds, checks_of, fault_of, has_known_keys}
use Rattle.layer_map.specs.Values.{truth_in}
use Rattle.layer_map.specs.declared.fault.MapFault.TheVariants.{Syntax}
use Rattle.map_model.specs.MapNames.{LayerMap}
use Rattle.map_model.specs.declared.measure.Measure.TheVariants.{Radius}
use Rattle.layer_map.proofs.ContactLaws.{no_contacts}
use Rattle.layer_map.proofs.UniqueLaws.{documents_agree, maps_tell}
use Rattle.layer_map.proofs.ExistLaws.{a_map}

pub maps_agree : (bytes : List ℕ) → IsUnique (MapComesTo bytes)
maps_agree bytes =
    stages_agree _ DocumentComesTo (readings_agree (IsDocument bytes) Syntax (documents_agree bytes))
    (λ document. checks_agree (Holds document) (checks_of document) fault_of (GivesMap document) (maps_tell document))

pub maps_cannot_lack : (bytes : List ℕ) → CannotLack (MapComesTo bytes)
maps_cannot_lack bytes =
    stages_cannot_lack _ DocumentComesTo (reading_cannot_lack (IsDocument bytes) Syntax)
    (λ document is. checks_cannot_lack (Holds document) (checks_of document) fault_of (GivesMap document) (λ all none. let (layer_map, gives) = a_map document all in none layer_map gives))

pub radii_go_without_contacts : (bytes : List ℕ) (layer_map : LayerMap) → MapComesTo bytes (value layer_map) → layer_map.measure ≡ Radius → layer_map.contacts ≡ false
radii_go_without_contacts bytes layer_map (goes_on {v = document} is (all_hold all gives)) radii =
    gives.contacts ∙ ap truth_in (no_contacts document (sym gives.measure ∙ radii) (all 0 has_known_keys (omega arith)))
