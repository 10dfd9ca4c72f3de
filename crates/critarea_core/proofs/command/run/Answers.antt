use Rattle.critarea_core.proofs.RunLaws.{ends, runs_to}
use Rattle.critarea_core.proofs.command.run.Goals as goal

pub returns : goal.returns
returns g c =
    runs_to c.args.words.now _ c.print.result (ends c.args.words.now _ c.find-found.result c.print.result c.find-found.ensures.found c.print.ensures)
    c.find-found.ensures.started c.find-found.ensures.holds
