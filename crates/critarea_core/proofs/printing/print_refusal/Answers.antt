use Rattle.std.proofs.Common.{refl, ◌∙◌}
use Rattle.critarea_core.specs.inside.Finding.{line_out, line_cut, no_line}
use Rattle.critarea_core.proofs.printing.print_refusal.Goals as goal

pub returns-in_default : goal.returns-in_default
returns-in_default g c = no_line (refl, refl)

pub returns-in-Ok-write_all : goal.returns-in-Ok-write_all
returns-in-Ok-write_all g c = line_out (rw (c.as_bytes.ensures.value ∙ c.as_str.ensures.value ∙ c.in-Ok.ensures) at c.in-Ok-write_all.ensures.written, c.in-Ok-write_all.ensures.calm)

pub returns : goal.returns
returns g c =
    let line = c.as_bytes.ensures.value ∙ c.as_str.ensures.value ∙ c.in-Ok.ensures in
    line_cut (record { risen = c.in-Err.ensures.rose; not_sure = rw line at c.in-Err.ensures.not_sure; prefix = rw line at c.in-Err.ensures.prefix })
