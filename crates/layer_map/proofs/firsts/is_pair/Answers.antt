use Rattle.std.proofs.Common.{◌≡◌, [], ◌∷◌, rules}
use Rattle.toml.specs.Data.{array}
use Rattle.toml.specs.View.{items_view, view}
use Rattle.layer_map.specs.Values.{whole_number}
use Rattle.layer_map.proofs.FirstLaws.{pair_is}
use Rattle.layer_map.proofs.firsts.is_pair.Goals as goal

pub returns-in-Some : goal.returns-in-Some
returns-in-Some c =
    let is : view c.args.value.now ≡ array (items_view c.as_slice.result.now) = search rules in
    let same = pair_is (view c.args.value.now) c.as_slice.result.now (whole_number c.args.layer ∷ whole_number c.args.datatype ∷ []) is in
    (λ both. same.0 (c.are_both.ensures.0 both), λ pair. c.are_both.ensures.1 (same.1 pair))
