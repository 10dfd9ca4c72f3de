use Rattle.std.proofs.Common.{option_copied}
use Rattle.lists.proofs.Words.{err_from_is_err_and}
use Rattle.first_refusal.specs.Outcomes.{stops, goes_on}
use Rattle.first_refusal.proofs.JudgeLaws.{given, unread}
use Rattle.map_model.specs.MapNames.{layer_map_of}
use Rattle.flatten.specs.inside.Plans.{IsPlanOf}
use Rattle.flatten.proofs.FirstLaws.{refused_by}
use Rattle.flatten.proofs.PlacedLaws.{all_placed}
use Rattle.flatten.proofs.placing.place.Goals as goal

pub check_size-requires : goal.check_size-requires
check_size-requires c = rw c.as_slice.ensures (layer_map_of c.args.map.now, record { wanted = option_copied c.args.top; planned = given c.in_ok-plan.ensures })

pub expanded-requires : goal.expanded-requires
expanded-requires c = (c.args.library.now.structures, layer_map_of c.args.map.now, record { wanted = option_copied c.args.top; planned = given c.in_ok-plan.ensures })

pub returns-in_err-plan-clause-refused : goal.returns-in_err-plan-clause-refused
returns-in_err-plan-clause-refused c =
    let p = err_from_is_err_and c.from_residual.result c.from_residual.ensures.1 in
    rw (p.1, p.2) (λ kept. stops (refused_by (unread _ _ _ _ _ c.in_err-plan.field-0.0 c.in_err-plan.ensures) kept))

pub returns-in_err-check_size-clause-refused : goal.returns-in_err-check_size-clause-refused
returns-in_err-check_size-clause-refused c =
    let p = err_from_is_err_and c.from_residual-in_err-check_size.result c.from_residual-in_err-check_size.ensures.1 in
    let is = given c.in_ok-plan.ensures in
    let of : IsPlanOf c.args.library.now.structures (layer_map_of c.args.map.now) c.in_ok-plan.plan = record { wanted = option_copied c.args.top; planned = is } in
    let told = rw c.as_slice.ensures at c.in_err-check_size.ensures in
    rw (p.1, p.2) (λ kept. goes_on is.chosen.1 (told.refused (layer_map_of c.args.map.now) of))

pub returns : goal.returns
returns c =
    let is = given c.in_ok-plan.ensures in
    let of : IsPlanOf c.args.library.now.structures (layer_map_of c.args.map.now) c.in_ok-plan.plan = record { wanted = option_copied c.args.top; planned = is } in
    let few = rw c.as_slice.ensures at c.in_ok-check_size.ensures in
    let told = all_placed _ _ _ c.in_ok-plan.plan is (few.kept (layer_map_of c.args.map.now) of) c.expanded.result c.expanded.ensures in
    record { placed = told.0; refused = told.1 }
