use Rattle.std.proofs.Common.{◌≡◌, ℕ, ◌<◌, List, length, get_or, sym, subst, arith, Contains}
use Rattle.map_model.specs.MapNames.{metal_layer, cut_layer}
use Rattle.map_model.specs.declared.layers.Cut.{Cut}
use Rattle.map_model.specs.declared.layers.Metal.{Metal}
use Rattle.map_model.proofs.MappedLaws.{metal_has, cut_has, neither_has, none_has_more}
use Rattle.map_model.proofs.map.Map.layer_of.Goals as goal

pub metals-preserved : goal.metals-preserved
metals-preserved c =
    none_has_more metal_layer c.args.self.now.metals c.metals.number c.metal-item.result (c.args.layer, c.args.datatype)
    (subst (λ (xs : List Metal). c.metals.number < length xs) c.as_slice-metal-items.ensures c.metals-test.true)
    (subst (λ (xs : List Metal). c.metal-item.result ≡ get_or xs c.metals.number c.metal-item.result) c.as_slice-metal-items.ensures c.metal-item.is)
    c.metals.invariant (λ among. cc (c.has_pair.ensures.1 (subst (λ (pairs : List (ℕ × ℕ)). Contains pairs (c.args.layer, c.args.datatype)) (sym c.as_slice.ensures) among), c.if-has_pair.false))

pub cuts-preserved : goal.cuts-preserved
cuts-preserved c =
    none_has_more cut_layer c.args.self.now.cuts c.cuts.number c.cut-item.result (c.args.layer, c.args.datatype)
    (subst (λ (xs : List Cut). c.cuts.number < length xs) c.as_slice-cut-items.ensures c.cuts-test.true)
    (subst (λ (xs : List Cut). c.cut-item.result ≡ get_or xs c.cuts.number c.cut-item.result) c.as_slice-cut-items.ensures c.cut-item.is)
    c.cuts.invariant (λ among. cc (
      c.has_pair-in-cuts.ensures.1 (subst (λ (pairs : List (ℕ × ℕ)). Contains pairs (c.args.layer, c.args.datatype)) (sym c.as_slice-in-cuts.ensures) among),
      c.if-has_pair-2.false,
    ))

pub returns-then-has_pair : goal.returns-then-has_pair
returns-then-has_pair c =
    metal_has c.args.self.now (c.args.layer, c.args.datatype) _ c.metals.number c.metal-item.result c.as_slice-metal-items.ensures c.metals-test.true c.metal-item.is
    (subst (λ (pairs : List (ℕ × ℕ)). Contains pairs (c.args.layer, c.args.datatype)) c.as_slice.ensures (c.has_pair.ensures.0 c.if-has_pair.true))

pub returns-then-has_pair-2 : goal.returns-then-has_pair-2
returns-then-has_pair-2 c =
    cut_has c.args.self.now (c.args.layer, c.args.datatype) _ _ c.cuts.number c.cut-item.result c.as_slice-metals.ensures c.as_slice-cut-items.ensures c.cuts-test.true c.cut-item.is
    (subst (λ (pairs : List (ℕ × ℕ)). Contains pairs (c.args.layer, c.args.datatype)) c.as_slice-in-cuts.ensures (c.has_pair-in-cuts.ensures.0 c.if-has_pair-2.true))

pub returns : goal.returns
returns c =
    neither_has c.args.self.now (c.args.layer, c.args.datatype) _ _ c.as_slice-metal-items.ensures c.as_slice-cut-items.ensures (λ k below. c.metals.invariant k (omega arith))
    (λ k below. c.cuts.invariant k (omega arith))
