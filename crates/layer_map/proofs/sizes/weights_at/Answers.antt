use Rattle.std.proofs.Common.{Global, ◌∙◌, ap, sym, Vec, ℕ, Option, option_and_then, option_map, rules}
use Rattle.lists.proofs.Words.{IfOk-weaker}
use Rattle.toml.specs.Data.{as_array}
use Rattle.map_model.specs.MapNames.{AreWeights}
use Rattle.layer_map.specs.Values.{whole_number}
use Rattle.layer_map.proofs.PairLaws.{array_there, no_array_there}
use Rattle.layer_map.proofs.sizes.weights_at.Goals as goal

pub returns-in-Some-as_array : goal.returns-in-Some-as_array
returns-in-Some-as_array c =
    IfOk-weaker _ _ _ (λ (found : Option (Vec ℕ Global)) h. array_there whole_number (AreWeights c.args.count) _ c.as_slice.result.now (option_map (λ v. v.items) found) (search rules) h)
    c.weights_of.ensures

pub returns-in-None-as_array : goal.returns-in-None-as_array
returns-in-None-as_array c = no_array_there whole_number (AreWeights c.args.count) _ (sym (c.in-None-as_array.ensures ∙ ap (option_and_then as_array) c.in-Some.ensures))

pub returns-in-None : goal.returns-in-None
returns-in-None c = no_array_there whole_number (AreWeights c.args.count) _ (sym (ap (option_and_then as_array) c.in-None.ensures))
