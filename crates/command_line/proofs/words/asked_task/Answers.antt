use Rattle.std.proofs.Common.{[], ◌∷◌, subst}
use Rattle.command_line.specs.declared.option_name.OptionName.TheVariants.{Map, Top}
use Rattle.command_line.specs.inside.Command.{positions_found, values_found}
use Rattle.command_line.specs.Requests.{GiveNoOther, of_pairs, of_probe, of_regions}
use Rattle.command_line.specs.WordsCauses.{task_options}
use Rattle.command_line.proofs.AloneLaws.{first_is_listed}
use Rattle.command_line.proofs.OrderLaws.{asked_form}
use Rattle.command_line.proofs.TaskLaws.{asked_no_other, one_is_some, one_of_three}
use Rattle.command_line.proofs.words.asked_task.Goals as goal

pub number_of_given-requires-clause-form : goal.number_of_given-requires-clause-form
number_of_given-requires-clause-form c =
    asked_form (values_found c.args.matches.now) (positions_found c.args.matches.now)
    (one_is_some _ c.args.layout.now c.requires.layout) c.requires.one.no_columns
    (one_is_some _ c.args.map.now c.requires.map) c.requires.one.no_metal c.args.asked c.requires.one.alone c.requires.one.no_work

pub cell_given-requires-clause-form : goal.cell_given-requires-clause-form
cell_given-requires-clause-form c =
    asked_form (values_found c.args.matches.now) (positions_found c.args.matches.now)
    (one_is_some _ c.args.layout.now c.requires.layout) c.requires.one.no_columns
    (one_is_some _ c.args.map.now c.requires.map) c.requires.one.no_metal c.args.asked c.requires.one.alone c.requires.one.no_work

pub regions_given-requires-clause-form : goal.regions_given-requires-clause-form
regions_given-requires-clause-form c =
    asked_form (values_found c.args.matches.now) (positions_found c.args.matches.now)
    (one_is_some _ c.args.layout.now c.requires.layout) c.requires.one.no_columns
    (one_is_some _ c.args.map.now c.requires.map) c.requires.one.no_metal c.args.asked c.requires.one.alone c.requires.one.no_work

pub unreachable-requires : goal.unreachable-requires
unreachable-requires c =
    one_of_three c.args.asked
    (first_is_listed (values_found c.args.matches.now) task_options c.args.asked c.requires.one.alone.behind c.requires.one.alone.first)
    c.in_default.not-Pairs c.in_default.not-Probe c.in_default.not-Regions

pub returns-in_ok-size-in-Pairs-clause-task : goal.returns-in_ok-size-in-Pairs-clause-task
returns-in_ok-size-in-Pairs-clause-task c = of_pairs c.in_ok-names.ensures.layout c.in_ok-names.ensures.map c.in_ok-size-in-Pairs.ensures.number c.in_ok-names.ensures.top

pub returns-in_ok-size-in-Pairs-clause-no_other : goal.returns-in_ok-size-in-Pairs-clause-no_other
returns-in_ok-size-in-Pairs-clause-no_other c =
    subst (λ asked. GiveNoOther (values_found c.args.matches.now) (Map ∷ asked ∷ Top ∷ [])) c.in-Pairs.is
    (asked_no_other (values_found c.args.matches.now) c.args.asked c.requires.one)

pub returns-in_ok-cell-in-Probe-clause-task : goal.returns-in_ok-cell-in-Probe-clause-task
returns-in_ok-cell-in-Probe-clause-task c = of_probe c.in_ok-names.ensures.layout c.in_ok-names.ensures.map c.in_ok-cell-in-Probe.ensures.cell c.in_ok-names.ensures.top

pub returns-in_ok-cell-in-Probe-clause-no_other : goal.returns-in_ok-cell-in-Probe-clause-no_other
returns-in_ok-cell-in-Probe-clause-no_other c =
    subst (λ asked. GiveNoOther (values_found c.args.matches.now) (Map ∷ asked ∷ Top ∷ [])) c.in-Probe.is
    (asked_no_other (values_found c.args.matches.now) c.args.asked c.requires.one)

pub returns-in_ok-regions-in-Regions-clause-task : goal.returns-in_ok-regions-in-Regions-clause-task
returns-in_ok-regions-in-Regions-clause-task c = of_regions c.in_ok-names.ensures.layout c.in_ok-names.ensures.map c.in_ok-regions-in-Regions.ensures.regions c.in_ok-names.ensures.top

pub returns-in_ok-regions-in-Regions-clause-no_other : goal.returns-in_ok-regions-in-Regions-clause-no_other
returns-in_ok-regions-in-Regions-clause-no_other c =
    subst (λ asked. GiveNoOther (values_found c.args.matches.now) (Map ∷ asked ∷ Top ∷ [])) c.in-Regions.is
    (asked_no_other (values_found c.args.matches.now) c.args.asked c.requires.one)
