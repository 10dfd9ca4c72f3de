use Rattle.std.proofs.Common.{◌≡◌, ◌<◌, ◌∙◌, ap, length, option_map, refl, slice_get, Some, sym}
use Rattle.lists.proofs.Words.{ltb-true, slice_get-map, slice_get_read}
use Rattle.layer_map.specs.MapChecks.{map_keys}
use Rattle.layer_map.proofs.place.key_place.Goals as goal

pub returns-in-Some-clause-path : goal.returns-in-Some-clause-path
returns-in-Some-clause-path c =
    let k = c.args.number in
    let keys = c.map_keys.result.now in
    let found = c.in-Some.ensures.lookup in
    let within : k < length keys = ltb-true _ _ (sym found.0) in
    let at : slice_get keys k ≡ Some c.in-Some.key.now = slice_get_read keys (length keys) k c.in-Some.key.now refl within found.1 in
    let key : slice_get (map_keys c.args.measure) k ≡ Some c.in-Some.key.now.now =
    sym (ap (λ names. slice_get names k) c.map_keys.ensures) ∙ slice_get-map (λ name. name.now) keys k ∙ ap (option_map (λ name. name.now)) at in
    (k, key, refl)
