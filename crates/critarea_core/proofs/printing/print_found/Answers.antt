use Rattle.std.proofs.Common.{refl, ◌∙◌}
use Rattle.critarea_core.specs.inside.Finding.{due_cut, due_out, nothing_out}
use Rattle.critarea_core.proofs.printing.print_found.Goals as goal

pub returns-in_default : goal.returns-in_default
returns-in_default g c = nothing_out (refl, refl) c.in_default.ensures.some

pub returns-in-Ok-write_all : goal.returns-in-Ok-write_all
returns-in-Ok-write_all g c =
    due_out (rw (c.as_slice.ensures.value ∙ c.in-Ok.ensures.printed) at c.in-Ok-write_all.ensures.written, c.in-Ok-write_all.ensures.calm) c.in-Ok.ensures.told

pub returns : goal.returns
returns g c =
    let text = c.as_slice.ensures.value ∙ c.in-Ok.ensures.printed in
    due_cut (record { risen = c.in-Err.ensures.rose; not_sure = rw text at c.in-Err.ensures.not_sure; prefix = rw text at c.in-Err.ensures.prefix }) c.in-Ok.ensures.told
