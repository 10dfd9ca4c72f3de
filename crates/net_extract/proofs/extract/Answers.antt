use Rattle.std.proofs.Common.{◌∙◌, length, map, arith, All, Err}
use Rattle.lists.proofs.Words.{AllZip, enumerate_from, length-map}
use Rattle.first_refusal.specs.Checks.{all_hold}
use Rattle.map_model.specs.MapNames.{mapped_cut, metal_layer, terminal_of}
use Rattle.net_extract.specs.inside.Anchoring.{IsAnchorOf, IsOnIsland}
use Rattle.net_extract.specs.Extraction.{off_metal}
use Rattle.net_extract.specs.inside.Numbering.{AreIslandsOf}
use Rattle.first_refusal.specs.Answers.{gives}
use Rattle.first_refusal.proofs.AnswerLaws.{handed_on}
use Rattle.first_refusal.proofs.JudgeLaws.{Judges, given as is_given, passed}
use Rattle.net_extract.specs.declared.fault.NetFault.TheVariants.{Memory}
use Rattle.net_extract.proofs.ExtractLaws.{all_on_metals, refused_alike}
use Rattle.net_extract.proofs.extract.Goals as goal

pub metal_islands-requires : goal.metal_islands-requires
metal_islands-requires c = rw (c.as_slice-lists.ensures.value, c.as_slice.ensures) (omega arith)

pub anchors_of-requires : goal.anchors_of-requires
anchors_of-requires c =
    let one_each = c.in_ok-metals.ensures.one_each in
    record {
      few = rw c.as_slice-2.ensures c.args.map.now.few_terminals;
      on_metals = rw (c.as_slice-2.ensures, c.as_slice-3.ensures, one_each, c.as_slice.ensures) c.args.map.now.on_metals;
    }

pub returns-in_err-anchors-clause-nets : goal.returns-in_err-anchors-clause-nets
returns-in_err-anchors-clause-nets c =
    let lists = c.args.layers.now.lists.items in
    let given = c.args.map.now in
    let count = c.in_ok-metals.metals.count in
    let islands = c.in_ok-metals.metals.islands in
    let fault = c.in_err-anchors.field-0.0 in
    let are : AreIslandsOf lists (length given.metals) count islands = rw (c.as_slice-lists.ensures.value, c.as_slice.ensures) at c.in_ok-metals.ensures in
    let told : Judges Memory (IsOnIsland islands) (enumerate_from 0 (map terminal_of given.terminals)) off_metal (AllZip (IsAnchorOf islands) given.terminals) (Err fault) =
    rw (c.as_slice-3.ensures, c.as_slice-2.ensures) at c.in_err-anchors.ensures in
    handed_on _ _ c.from_residual-in_err-anchors.result fault c.from_residual-in_err-anchors.ensures.1
    (refused_alike lists (length given.metals) count islands are given.terminals given.on_metals _ _ fault told)

pub nets_of-requires : goal.nets_of-requires
nets_of-requires c = record {
  one_each = rw c.as_slice-lists.ensures.value c.requires;
  islands = rw c.as_slice.ensures at c.in_ok-metals.ensures;
  anchors = rw (c.as_slice-3.ensures, c.as_slice-2.ensures) at (is_given c.in_ok-anchors.ensures);
}

pub returns : goal.returns
returns c =
    let lists = c.args.layers.now.lists.items in
    let given = c.args.map.now in
    let count = c.in_ok-metals.metals.count in
    let islands = c.in_ok-metals.metals.islands in
    let are : AreIslandsOf lists (length given.metals) count islands = rw (c.as_slice-lists.ensures.value, c.as_slice.ensures) at c.in_ok-metals.ensures in
    let checked : All (IsOnIsland islands) (enumerate_from 0 (map terminal_of given.terminals)) = rw (c.as_slice-3.ensures, c.as_slice-2.ensures) at (passed c.in_ok-anchors.ensures) in
    let nets_are = rw c.as_slice-lists.ensures.value at c.in_ok-nets_of.ensures in
    record {
      nets = gives (all_hold (all_on_metals lists (length given.metals) count islands are given.terminals given.on_metals checked) nets_are);
      metals = nets_are.metals ∙ length-map given.metals metal_layer;
      cuts = nets_are.cuts ∙ length-map given.cuts mapped_cut;
    }
