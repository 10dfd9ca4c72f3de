use Rattle.std.proofs.Common.{Global, ◌∙◌, ap, sym, Vec, ℕ, Option, option_and_then, option_map, rules}
use Rattle.lists.proofs.Words.{IfOk-weaker}
use Rattle.toml.specs.Data.{as_array}
use Rattle.map_model.specs.MapNames.{ArePairs}
use Rattle.layer_map.specs.Values.{pair_value}
use Rattle.layer_map.proofs.PairLaws.{array_there, no_array_there}
use Rattle.layer_map.proofs.layer_items.pairs_at.Goals as goal

pub returns-in-Some-as_array : goal.returns-in-Some-as_array
returns-in-Some-as_array c =
    IfOk-weaker _ _ _ (λ (found : Option (Vec (ℕ × ℕ) Global)) h. array_there pair_value ArePairs _ c.as_slice.result.now (option_map (λ v. v.items) found) (search rules) h) c.pairs_of.ensures

pub returns-in-None-as_array : goal.returns-in-None-as_array
returns-in-None-as_array c = no_array_there pair_value ArePairs _ (sym (c.in-None-as_array.ensures ∙ ap (option_and_then as_array) c.in-Some.ensures))

pub returns-in-None : goal.returns-in-None
returns-in-None c = no_array_there pair_value ArePairs _ (sym (ap (option_and_then as_array) c.in-None.ensures))
