-- Layouts that are made read back.
use Rattle.std.proofs.Common.{ℕ}
use Rattle.gds_write.specs.SameLibrary.{IsSameButOffsets}
use Rattle.gds_write.proofs.laws.Written.{written_reads}
use Rattle.first_refusal.specs.Outcomes.{value}
use Rattle.library_grammar.specs.FirstFault.{BytesComeTo}
use Rattle.library_model.specs.declared.library.Library.{Library}
use Rattle.layout_gen.specs.Generated.{generated_library, generated_layout}
use Rattle.layout_gen.proofs.GeneratedLaws.{is_well_formed}

-- the bytes of each read as it, but for offsets
pub generated_reads : (columns : ℕ) → (read : Library) × IsSameButOffsets (generated_library columns) read × BytesComeTo (generated_layout columns) (value read)
unfolding generated_layout
generated_reads columns = written_reads (generated_library columns) (is_well_formed columns)
