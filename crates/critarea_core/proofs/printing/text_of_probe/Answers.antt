use Rattle.critarea_core.proofs.printing.text_of_probe.Goals as goal

pub returns : goal.returns
returns c = rw c.new-printed.ensures.items at c.in_ok-write_probe.ensures.written
