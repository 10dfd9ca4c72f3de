use Rattle.std.proofs.Common.{◌≡◌, ◌∙◌, ap, map, subst, Contains}
use Rattle.std.specs.Prelude.{IfNone, IfSome}
use Rattle.toml.specs.View.{view}
use Rattle.layer_map.specs.FirstPlaces.{IsFirstAt}
use Rattle.layer_map.specs.Values.{pair_value, pairs_of_item, values_in}
use Rattle.layer_map.proofs.firsts.pair_in.Goals as goal

pub returns : goal.returns
returns c =
    let wanted = pair_value (c.args.layer, c.args.datatype) in
    let e : map view c.items_in.result.now ≡ values_in (pairs_of_item (view c.args.item.now)) = c.items_in.ensures ∙ ap values_in c.get.ensures in
    record {
      some = subst (λ xs. IfSome c.pair_at.result (IsFirstAt xs wanted)) e c.pair_at.ensures.some;
      none = subst (λ xs. IfNone c.pair_at.result (Contains xs wanted → ⊥)) e c.pair_at.ensures.none;
    }
