use Rattle.std.proofs.Common.{◌∙◌, ap, sym}
use Rattle.lists.proofs.Words.{Decides-eqb, slice_eq-Decides}
use Rattle.layer_map.specs.inside.ReadValues.{finds, lacks}
use Rattle.map_model.specs.declared.layers.Metal.{Metal}
use Rattle.layer_map.proofs.SearchLaws.{none_before_more, none_there, there}
use Rattle.layer_map.proofs.items.metal_named.Goals as goal

pub loop-number-preserved : goal.loop-number-preserved
loop-number-preserved c =
    none_before_more (λ metal. metal.name) c.args.metals.now c.args.name.now c.loop-number.number c.index-metals-number.result c.loop-number-test.true
    (λ same. cc ((slice_eq-Decides Decides-eqb _ _ _ c.eq.ensures).1 (c.as_slice.ensures.name ∙ ap (λ (metal : Metal). metal.name) c.index-metals-number.is ∙ same), c.if-eq.false))
    c.loop-number.invariant

pub returns-then-eq : goal.returns-then-eq
returns-then-eq c =
    finds (there (λ (metal : Metal). metal.name) c.args.metals.now c.args.name.now c.loop-number.number c.index-metals-number.result c.loop-number-test.true c.index-metals-number.is
    (sym c.as_slice.ensures.name ∙ (slice_eq-Decides Decides-eqb _ _ _ c.eq.ensures).0 c.if-eq.true))

pub returns : goal.returns
returns c = lacks (none_there (λ metal. metal.name) c.args.metals.now c.args.name.now c.loop-number.number c.loop-number-test.false c.loop-number.invariant)
