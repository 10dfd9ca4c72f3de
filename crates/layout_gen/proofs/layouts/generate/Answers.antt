use Rattle.std.proofs.Common.{◌∙◌, ap, length, sym, subst}
use Rattle.gds_records.specs.RecordSpelling.{spellings}
use Rattle.gds_write.specs.WellFormed.{IsWellFormed}
use Rattle.gds_write.specs.Written.{written}
use Rattle.library_model.specs.declared.library.Library.{Library}
use Rattle.layout_gen.proofs.GeneratedLaws.{is_well_formed, length-generated_layout}
use Rattle.layout_gen.specs.Generated.{generated_layout, generated_map}
use Rattle.layout_gen.proofs.layouts.generate.Goals as goal

pub write_library-requires : goal.write_library-requires
write_library-requires c = subst IsWellFormed (sym c.in_ok-library.ensures) (is_well_formed c.args.n)

pub returns-clause-layout : goal.returns-clause-layout
unfolding generated_layout
returns-clause-layout c = c.in_ok-layout.ensures ∙ ap (λ (library : Library). spellings (written library)) c.in_ok-library.ensures

pub returns-clause-map : goal.returns-clause-map
unfolding generated_map
returns-clause-map c = c.in_ok-map.ensures.items ∙ c.as_bytes.ensures.value

pub returns-clause-size : goal.returns-clause-size
returns-clause-size c = ap length (returns-clause-layout c) ∙ length-generated_layout c.args.n
