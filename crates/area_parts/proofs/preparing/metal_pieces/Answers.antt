use Rattle.lists.proofs.Words.{enumerate_from}
use Rattle.first_refusal.proofs.AnswerLaws.{handed_on, out_of_memory}
use Rattle.first_refusal.proofs.JudgeLaws.{given, passed, passes, unread}
use Rattle.map_model.specs.MapNames.{layer_map_of}
use Rattle.net_extract.specs.Extraction.{AreNetsOf, IsOnItsMetal, off_metal}
use Rattle.net_extract.specs.declared.fault.NetFault.TheVariants.{Memory}
use Rattle.area_parts.specs.AreaParts.{AreMetalPieces}
use Rattle.area_parts.proofs.PartLaws.{metal_pieces_are}
use Rattle.area_parts.proofs.preparing.metal_pieces.Goals as goal

pub returns-in_err-nets : goal.returns-in_err-nets
returns-in_err-nets c =
    let lists = c.args.layers.now.lists.items in
    let layer_map = layer_map_of c.args.map.now in
    let fault = c.in_err-nets.field-0.0 in
    handed_on Memory _ c.from_residual.result fault c.from_residual.ensures.1
    (unread (IsOnItsMetal lists) off_metal (AreNetsOf layer_map lists) _ (enumerate_from 0 layer_map.terminals) fault c.in_err-nets.ensures.nets)

pub returns-in_err-pieces : goal.returns-in_err-pieces
returns-in_err-pieces c = out_of_memory Memory _ c.from_residual-in_err-pieces.result c.from_residual-in_err-pieces.ensures.1

pub returns : goal.returns
returns c =
    let lists = c.args.layers.now.lists.items in
    let layer_map = layer_map_of c.args.map.now in
    let nets = c.in_ok-nets.nets in
    let pieces = c.in_ok-pieces.pieces in
    passes (IsOnItsMetal lists) off_metal (AreMetalPieces layer_map lists) (enumerate_from 0 layer_map.terminals) pieces (passed c.in_ok-nets.ensures.nets)
    (metal_pieces_are layer_map lists nets pieces (given c.in_ok-nets.ensures.nets) c.in_ok-pieces.ensures)
