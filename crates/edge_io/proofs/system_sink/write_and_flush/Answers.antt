use Rattle.std.proofs.KnownBytes.{Appends-kept}
use Rattle.edge_io.proofs.system_sink.write_and_flush.Goals as goal

pub returns-in-Ok-flush-clause-taken : goal.returns-in-Ok-flush-clause-taken
returns-in-Ok-flush-clause-taken g c = Appends-kept _ _ _ _ c.in-Ok.ensures.bytes c.in-Ok-flush.ensures.bytes
