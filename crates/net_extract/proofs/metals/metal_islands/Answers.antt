use Rattle.std.proofs.Common.{◌<◌, ◌≡◌, ◌+◌, length, get_or, [], rules, subst, ◌∙◌, arith}
use Rattle.lists.proofs.Words.{get_or_read}
use Rattle.net_extract.specs.inside.Numbering.{AreIslandsFrom}
use Rattle.net_extract.proofs.MetalLaws.{no_metals, one_metal_more}
use Rattle.net_extract.proofs.metals.metal_islands.Goals as goal

pub loop-metal-init : goal.loop-metal-init
loop-metal-init c = record {
  islands = rw c.new-islands.ensures.items (no_metals c.args.lists.now);
  few = omega arith;
}

pub loop-metal-preserved : goal.loop-metal-preserved
loop-metal-preserved c =
    let lists = c.args.lists.now in
    let metal = c.loop-metal.metal in
    let low = c.loop-metal.count in
    let small : metal < length lists = omega arith in
    let rects_are : c.as_slice-rects.result.now ≡ get_or lists metal [] = c.as_slice-rects.ensures ∙ get_or_read lists metal c.index-lists-metal.result small c.index-lists-metal.is [] in
    let high = low + length c.as_slice-rects.result.now in
    record {
      islands = rw c.in_ok-push.ensures.items (one_metal_more lists metal low high c.loop-metal.islands.items c.in_ok-islands_from.field-0 c.loop-metal.invariant.islands
          (subst (λ rects. AreIslandsFrom rects low high c.in_ok-islands_from.field-0) rects_are c.in_ok-islands_from.ensures) (omega arith));
      few = search rules;
    }
