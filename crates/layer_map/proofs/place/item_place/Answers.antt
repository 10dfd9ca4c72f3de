use Rattle.std.proofs.Common.{◌≡◌, ◌+◌, ◌-◌, ◌*◌, ◌<◌, ◌/◌, ◌%◌, ◌∙◌, ap, arith, length, option_map, refl, slice_get, Some, sym}
use Rattle.lists.proofs.Words.{ltb-true, slice_get-map, slice_get_read}
use Rattle.layer_map.specs.MapPlaces.{item_keys, item_path}
use Rattle.layer_map.proofs.PlaceLaws.{item_paths}
use Rattle.layer_map.proofs.place.item_place.Goals as goal

pub returns-in-Some-clause-path : goal.returns-in-Some-clause-path
returns-in-Some-clause-path c measure =
    let past = c.args.past in
    let k = past % 10 - 1 in
    let keys = c.keys.result.now in
    let found = c.in-Some.ensures.lookup in
    let within : k < length keys = ltb-true _ _ (sym found.0) in
    let at : slice_get keys k ≡ Some c.in-Some.key.now = slice_get_read keys (length keys) k c.in-Some.key.now refl within found.1 in
    let key : slice_get (item_keys c.args.kind) k ≡ Some c.in-Some.key.now.now =
    sym (ap (λ names. slice_get names k) c.keys.ensures) ∙ slice_get-map (λ name. name.now) keys k ∙ ap (option_map (λ name. name.now)) at in
    let split : past ≡ 10 * (past / 10) + past % 10 = omega arith in
    let further : past % 10 ≡ 1 + k = omega (arith, c.if-further-eq0.false) in
    let path : item_path c.args.kind 0 + past ≡ item_path c.args.kind (past / 10) + past % 10 =
    ap (λ p. item_path c.args.kind 0 + p) split ∙ item_paths c.args.kind (past / 10) (past % 10) in
    (k, key, omega (arith, path, further))
