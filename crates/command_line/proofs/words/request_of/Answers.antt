use Rattle.std.proofs.Common.{lit≤}
use Rattle.command_line.proofs.LimitLaws.{count_within, task_within}
use Rattle.command_line.specs.inside.Command.{positions_found, values_found}
use Rattle.command_line.proofs.CauseLaws.{task_form}
use Rattle.command_line.proofs.words.request_of.Goals as goal

pub invariant_of-result : goal.invariant_of-result
invariant_of-result c = record {
  task_limits = task_within _ _ c.in_ok-task.task c.in_ok-task.ensures.task;
  edge_limits = count_within 1 1000000000 65536 _ c.in_ok-edge.edge (record { least = lit≤ tt; most = lit≤ tt }) c.in_ok-edge.ensures.number;
  worker_limits = count_within 1 64 4 _ c.in_ok-workers.workers (record { least = lit≤ tt; most = lit≤ tt }) c.in_ok-workers.ensures.number;
}

pub number_or-requires-clause-form : goal.number_or-requires-clause-form
number_or-requires-clause-form c =
    task_form (values_found c.args.matches.now) (positions_found c.args.matches.now) c.in_ok-task.task c.in_ok-task.ensures.task c.in_ok-task.ensures.no_other

pub number_or-requires-2-clause-form : goal.number_or-requires-2-clause-form
number_or-requires-2-clause-form c =
    task_form (values_found c.args.matches.now) (positions_found c.args.matches.now) c.in_ok-task.task c.in_ok-task.ensures.task c.in_ok-task.ensures.no_other
