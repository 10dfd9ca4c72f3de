use Rattle.gds_write.proofs.laws.Written as laws
use Rattle.gds_write.proofs.laws.written_reads.Goals as goal

pub returns : goal.returns
returns c = laws.written_reads
