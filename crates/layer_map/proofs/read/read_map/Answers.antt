use Rattle.first_refusal.proofs.AnswerLaws.{handed_on}
use Rattle.layer_map.proofs.MapLaws.{map_answered, no_document}
use Rattle.layer_map.proofs.read.read_map.Goals as goal

pub returns-in_err-document : goal.returns-in_err-document
returns-in_err-document c =
    record { answers = handed_on _ _ c.from_residual.result c.in_err-document.field-0.0 c.from_residual.ensures.1 (no_document c.args.bytes.now _ c.in_err-document.ensures) }

pub returns : goal.returns
returns c = record { answers = map_answered c.args.bytes.now c.in_ok-document.document c.map_of.result c.in_ok-document.ensures c.map_of.ensures }
