use Rattle.run_inputs.proofs.SourceLaws.{file_found}
use Rattle.run_inputs.proofs.sources.bytes_in.Goals as goal

pub returns-in-Ok-clause-found : goal.returns-in-Ok-clause-found
returns-in-Ok-clause-found g c = file_found (g.F.Files.holds c.args.files.now) c.args.name.now c.args.limit c.args.too_long (g.F.Files.sure c.args.files.now) _ _ _ _ _ c.in-Ok.ensures.answer c.in-Ok.ensures.not_sure

pub returns-in-Err-Fault-clause-found : goal.returns-in-Err-Fault-clause-found
returns-in-Err-Fault-clause-found g c =
    rw c.in-Err-Fault.field-0-is at (file_found (g.F.Files.holds c.args.files.now) c.args.name.now c.args.limit c.args.too_long (g.F.Files.sure c.args.files.now) _ _ _ _ _ c.in-Err-Fault.ensures.answer
    c.in-Err-Fault.ensures.not_sure)

pub returns-in-Err-TooLong-clause-found : goal.returns-in-Err-TooLong-clause-found
returns-in-Err-TooLong-clause-found g c =
    rw c.in-Err-TooLong.field-0-is at (file_found (g.F.Files.holds c.args.files.now) c.args.name.now c.args.limit c.args.too_long (g.F.Files.sure c.args.files.now) _ _ _ _ _ c.in-Err-TooLong.ensures.answer
    c.in-Err-TooLong.ensures.not_sure)

pub returns-in-Err-Memory-clause-found : goal.returns-in-Err-Memory-clause-found
returns-in-Err-Memory-clause-found g c =
    rw c.in-Err-Memory.field-0-is at (file_found (g.F.Files.holds c.args.files.now) c.args.name.now c.args.limit c.args.too_long (g.F.Files.sure c.args.files.now) _ _ _ _ _ c.in-Err-Memory.ensures.answer
    c.in-Err-Memory.ensures.not_sure)
