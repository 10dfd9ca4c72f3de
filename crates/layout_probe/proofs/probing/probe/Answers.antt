use Rattle.std.proofs.Common.{◌∙◌, Global, Vec, ap, sym, subst, arith, length, List}
use Rattle.std.proofs.lemmas.List.{length-map}
use Rattle.lists.proofs.Words.{enumerate_from}
use Rattle.first_refusal.proofs.AnswerLaws.{handed_on, out_of_memory}
use Rattle.first_refusal.proofs.JudgeLaws.{given, passed, passes, unread}
use Rattle.geo_core.specs.Plane.{IsCoveredIn}
use Rattle.geo_core.specs.declared.plane.Labelled.{Labelled}
use Rattle.map_model.specs.MapNames.{layer_map_of, metal_layer}
use Rattle.map_model.specs.declared.layers.Metal.{Metal}
use Rattle.net_extract.specs.Extraction.{IsOnItsMetal, off_metal}
use Rattle.net_extract.specs.declared.fault.NetFault.TheVariants.{Memory}
use Rattle.area_parts.specs.AreaParts.{AreMetalPieces}
use Rattle.layout_probe.specs.Probe.{IsProbe}
use Rattle.layout_probe.specs.inside.NumberedNearest.{AreFoundFor}
use Rattle.layout_probe.specs.declared.metal_near.MetalNear.{MetalNear}
use Rattle.layout_probe.proofs.MetalLaws.{told_are}
use Rattle.layout_probe.proofs.probing.probe.Goals as goal

pub returns-in_err-pieces : goal.returns-in_err-pieces
returns-in_err-pieces c =
    let lists = c.args.layers.now.lists.items in
    let layer_map = layer_map_of c.args.map.now in
    let fault = c.in_err-pieces.field-0.0 in
    handed_on Memory _ c.from_residual.result fault c.from_residual.ensures.1
    (unread (IsOnItsMetal lists) off_metal (AreMetalPieces layer_map lists) _ (enumerate_from 0 layer_map.terminals) fault c.in_err-pieces.ensures)

pub nearest_on_metals-requires : goal.nearest_on_metals-requires
nearest_on_metals-requires c =
    let parts = given c.in_ok-pieces.ensures in
    ap length c.as_slice.ensures ∙ parts.one_each ∙ length-map c.args.map.now.metals metal_layer ∙ sym (ap length c.as_slice-metals.ensures)

pub returns-in_err-nearest_on_metals : goal.returns-in_err-nearest_on_metals
returns-in_err-nearest_on_metals c = out_of_memory Memory _ c.from_residual-in_err-nearest_on_metals.result c.from_residual-in_err-nearest_on_metals.ensures.1

pub returns : goal.returns
returns c =
    let lists = c.args.layers.now.lists.items in
    let layer_map = layer_map_of c.args.map.now in
    let told = c.in_ok-nearest_on_metals.field-0 in
    let cell = c.args.cell in
    let parts = given c.in_ok-pieces.ensures in
    let metals : List Metal = c.args.map.now.metals in
    let pieces : List (List Labelled) = c.in_ok-pieces.pieces in
    let of_map = subst (λ (ms : List Metal). AreFoundFor ms c.as_slice.result.now cell told.items) c.as_slice-metals.ensures c.in_ok-nearest_on_metals.ensures in
    let found = subst (λ (ps : List (List Labelled)). AreFoundFor metals ps cell told.items) c.as_slice.ensures of_map in
    passes (IsOnItsMetal lists) off_metal (λ (all : Vec MetalNear Global). IsProbe layer_map (IsCoveredIn lists) cell all.items) (enumerate_from 0 layer_map.terminals) told (passed c.in_ok-pieces.ensures)
    (told_are layer_map (IsCoveredIn lists) cell c.numbers_keep_cells.ensures c.distances_are_one.ensures.some metals pieces told.items
    (λ n small. parts.pieces n (omega (arith, small, parts.one_each))) found)
