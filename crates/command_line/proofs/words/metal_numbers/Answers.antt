use Rattle.command_line.specs.inside.Command.{positions_found, values_found}
use Rattle.command_line.proofs.OrderLaws.{metal_form, missing_told, no_metals_told}
use Rattle.command_line.proofs.words.metal_numbers.Goals as goal

pub returns-in_default-clause-cause : goal.returns-in_default-clause-cause
returns-in_default-clause-cause c =
    no_metals_told (values_found c.args.matches.now) (positions_found c.args.matches.now) c.requires.layout c.requires.no_columns c.requires.no_map c.requires.no_task c.in_default.ensures.none

pub returns-in-Some-first_missing-clause-cause : goal.returns-in-Some-first_missing-clause-cause
returns-in-Some-first_missing-clause-cause c =
    missing_told (values_found c.args.matches.now) (positions_found c.args.matches.now) c.requires.layout c.requires.no_columns c.requires.no_map c.requires.no_task
    c.in-Some-first_missing.missing c.in-Some-first_missing.ensures.listed c.in-Some-first_missing.ensures.some
    (record { name = c.in-Some._given; listed = c.in-Some.ensures.listed; given = c.in-Some.ensures.some })

pub number_of_given-requires-clause-form : goal.number_of_given-requires-clause-form
number_of_given-requires-clause-form c =
    metal_form (values_found c.args.matches.now) (positions_found c.args.matches.now) c.requires.layout c.requires.no_columns c.requires.no_map c.requires.no_task c.in_default-first_missing.ensures.none

pub number_of_given-requires-2-clause-form : goal.number_of_given-requires-2-clause-form
number_of_given-requires-2-clause-form c =
    metal_form (values_found c.args.matches.now) (positions_found c.args.matches.now) c.requires.layout c.requires.no_columns c.requires.no_map c.requires.no_task c.in_default-first_missing.ensures.none

pub number_of_given-requires-3-clause-form : goal.number_of_given-requires-3-clause-form
number_of_given-requires-3-clause-form c =
    metal_form (values_found c.args.matches.now) (positions_found c.args.matches.now) c.requires.layout c.requires.no_columns c.requires.no_map c.requires.no_task c.in_default-first_missing.ensures.none

pub returns-clause-numbers : goal.returns-clause-numbers
returns-clause-numbers c = record {
  layer = c.in_ok-layer.ensures.number;
  datatype = c.in_ok-datatype.ensures.number;
  radius = c.in_ok-radius.ensures.number;
}
