use Rattle.std.proofs.Common.{◌+◌, ◌*◌, ◌/◌, ◌<◌, ◌≡◌, ◌≤◌, sym, ap, ◌∙◌, arith}
use Rattle.lists.proofs.Words.{on_ok_weaker}
use Rattle.tile_board.specs.Hands.{view_of}
use Rattle.tile_board.specs.Machine.{fresh}
use Rattle.tile_board.specs.declared.views.View.{View}
use Rattle.tile_work.proofs.ShareLaws.{joined_draws, left_draws, part_draws}
use Rattle.tile_work.proofs.WorkLaws.{joined_credits}
use Rattle.tile_work.proofs.tiles.run_tiles.Goals as goal

pub work_in_halves-own-requires-after_bounds : goal.work_in_halves-own-requires-after_bounds
work_in_halves-own-requires-after_bounds g c κs within =
    let workers = c.args.workers in
    let starting = c.starting_workers-starting.result in
    let each = g.J.TileJob.tickets c.args.job.now + 1 in
    let draws = c.from-2.result * (c.left.result / c.from.result) in
    let all : c.left.result ≡ workers * each = c.left.ensures ∙ c.requires.all_left ∙ c.requires.all_draws in
    let is : draws ≡ starting * (c.left.result / workers) = cc (c.from.ensures, c.from-2.ensures) in
    let part_is = part_draws workers starting each c.left.result draws c.requires.some_workers all is in
    record {
      some_workers = omega (arith, c.starting_workers-starting.ensures);
      made_for = c.requires.made_for;
      belongs = c.split-own.ensures.new_belongs;
      unused = c.split-own.ensures.given ∙ ap fresh part_is;
    }

pub returns-clause-draws : goal.returns-clause-draws
returns-clause-draws g c =
    let workers = c.args.workers in
    let starting = c.starting_workers-starting.result in
    let each = g.J.TileJob.tickets c.args.job.now + 1 in
    let draws = c.from-2.result * (c.left.result / c.from.result) in
    let kept = view_of c.split-own.new.hand in
    let own = view_of c.work_in_halves-own.result.0 in
    let some : 0 < workers = c.requires.some_workers in
    let part : starting ≤ workers = omega (arith, c.starting_workers-starting.ensures, c.requires.some_workers) in
    let all : c.left.result ≡ workers * each = c.left.ensures ∙ c.requires.all_left ∙ c.requires.all_draws in
    let is : draws ≡ starting * (c.left.result / workers) = cc (c.from.ensures, c.from-2.ensures) in
    let part_is = part_draws workers starting each c.left.result draws c.requires.some_workers all is in
    let left = left_draws workers starting each some part (view_of c.args.hand.now) kept draws c.requires.none_made
    (c.requires.all_left ∙ c.requires.all_draws) part_is c.split-own.ensures.kept in
    let back = c.work_in_halves-own.ensures.draws in
    joined_draws workers starting each some part kept own (view_of c.join.new.hand) c.join.ensures.joined left back
    ∙ sym c.requires.all_draws

pub returns-clause-credits : goal.returns-clause-credits
returns-clause-credits g c =
    let slots = g.J.TileJob.slots c.args.job.now in
    let amount = g.J.TileJob.is_amount c.args.job.now in
    let before = c.split-own.new.hand in
    let none = ap (λ (v : View). v.made) c.split-own.ensures.kept ∙ c.requires.none_made in
    on_ok_weaker c.work_in_halves-own.result.1
    (λ worked. joined_credits slots amount (view_of before) (view_of c.work_in_halves-own.result.0)
    (view_of c.join.new.hand) before.facts none c.join.new.hand.facts c.join.ensures.joined worked.credits)
    c.work_in_halves-own.ensures.worked
