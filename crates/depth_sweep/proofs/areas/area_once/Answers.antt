use Rattle.lists.proofs.Words.{IfOk-weaker}
use Rattle.geo_core.specs.Plane.{IsInUnion}
use Rattle.fault_model.specs.FaultNames.{Tally, cells_of}
use Rattle.fault_model.proofs.TallyLaws.{Tally-same_all}
use Rattle.depth_sweep.specs.inside.DeepCells.{IsDeep}
use Rattle.depth_sweep.proofs.DeepLaws.{once_is}
use Rattle.depth_sweep.proofs.StepLaws.{none_taken}
use Rattle.depth_sweep.proofs.areas.area_once.Goals as goal

pub returns-clause-tally : goal.returns-clause-tally
returns-clause-tally g c = IfOk-weaker c.area.result (λ n. Tally (IsDeep c.args.rects.now 1) (cells_of c.args.window) n) (λ n. Tally (IsInUnion c.args.rects.now) (cells_of c.args.window) n)
    (λ n t. Tally-same_all (cells_of c.args.window) n (λ cell. once_is cell c.args.rects.now) t) c.area.ensures.tally

pub returns-clause-no_steps : goal.returns-clause-no_steps
returns-clause-no_steps g c = λ e. none_taken c.args.rects.now _ _ e c.area.ensures.steps_rise c.area.ensures.few_steps
