use Rattle.std.proofs.Common.{[], ◌∷◌}
use Rattle.lists.proofs.Words.{All-from_recursion}
use Rattle.toml.specs.View.{table_view}
use Rattle.layer_map.specs.MapChecks.{Holds, fault_of, has_known_keys, has_version}
use Rattle.first_refusal.proofs.JudgeLaws.{fails_first, passes}
use Rattle.layer_map.proofs.EachLaws.{fails_second}
use Rattle.layer_map.proofs.VersionLaws.{keys_known, version_stands}
use Rattle.layer_map.proofs.sizes.check_head.Goals as goal

pub returns-then-not-has_only : goal.returns-then-not-has_only
returns-then-not-has_only c =
    let known = keys_known (table_view c.args.document.now) _ _ _ c.map_keys.ensures c.measure_of.ensures c.has_only.ensures in
    fails_first (Holds (table_view c.args.document.now)) fault_of _ has_known_keys (has_version ∷ []) (λ h. cc (known.1 h, c.if-not-has_only.true))

pub returns-then-not-is_version : goal.returns-then-not-is_version
returns-then-not-is_version c =
    let known = keys_known (table_view c.args.document.now) _ _ _ c.map_keys.ensures c.measure_of.ensures c.has_only.ensures in
    let version = version_stands (table_view c.args.document.now) _ _ c.value_at.ensures c.is_version.ensures in
    fails_second (Holds (table_view c.args.document.now)) fault_of _ has_known_keys has_version [] (known.0 c.if-not-has_only.false)
    (λ h. cc (version.1 h, c.if-not-is_version.true))

pub returns : goal.returns
returns c =
    let known = keys_known (table_view c.args.document.now) _ _ _ c.map_keys.ensures c.measure_of.ensures c.has_only.ensures in
    let version = version_stands (table_view c.args.document.now) _ _ c.value_at.ensures c.is_version.ensures in
    passes (Holds (table_view c.args.document.now)) fault_of _ (has_known_keys ∷ has_version ∷ []) tt
    (All-from_recursion (Holds (table_view c.args.document.now)) (has_known_keys ∷ has_version ∷ [])
    (known.0 c.if-not-has_only.false, (version.0 c.if-not-is_version.false, tt))) tt
