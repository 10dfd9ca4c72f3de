use Rattle.lists.proofs.Words.{enumerate_from}
use Rattle.first_refusal.proofs.AnswerLaws.{handed_on}
use Rattle.first_refusal.proofs.JudgeLaws.{unread}
use Rattle.map_model.specs.MapNames.{layer_map_of}
use Rattle.net_extract.specs.Extraction.{AreNetsOf, IsOnItsMetal, off_metal}
use Rattle.net_extract.specs.declared.fault.NetFault.TheVariants.{Memory}
use Rattle.area_parts.specs.AreaParts.{ArePartsOf}
use Rattle.area_parts.proofs.PartLaws.{made_from}
use Rattle.area_parts.proofs.preparing.prepare.Goals as goal

pub returns-in_err-nets : goal.returns-in_err-nets
returns-in_err-nets c =
    let lists = c.args.layers.now.lists.items in
    let layer_map = layer_map_of c.args.map.now in
    let fault = c.in_err-nets.field-0.0 in
    handed_on Memory _ c.from_residual.result fault c.from_residual.ensures.1
    (unread (IsOnItsMetal lists) off_metal (AreNetsOf layer_map lists) _ (enumerate_from 0 layer_map.terminals) fault c.in_err-nets.ensures.nets)

pub returns : goal.returns
returns c =
    let lists = c.args.layers.now.lists.items in
    let layer_map = layer_map_of c.args.map.now in
    made_from (AreNetsOf layer_map lists) (ArePartsOf layer_map lists) c.in_ok-nets.nets c.parts_of.result c.in_ok-nets.ensures.nets (c.parts_of.ensures.parts lists) c.parts_of.ensures.memory
