use Rattle.layout_gen.proofs.laws.Generated.{generated_reads}
use Rattle.layout_gen.proofs.laws.generated_layouts_read.Goals as goal

pub returns : goal.returns
returns c = generated_reads
