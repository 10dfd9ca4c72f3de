use Rattle.std.proofs.Common.{rules, ◌+◌, ◌-◌, ◌*◌, ◌/◌, ◌<◌, ◌≤◌, ◌≡◌, ap, ◌∙◌, arith}
use Rattle.tile_board.specs.Hands.{view_of}
use Rattle.tile_board.specs.Machine.{fresh}
use Rattle.tile_board.specs.declared.views.View.{View}
use Rattle.tile_work.specs.inside.Working.{IsHanded}
use Rattle.tile_work.proofs.ShareLaws.{half_draws, kept_draws, joined_draws, both_ok}
use Rattle.tile_work.proofs.WorkLaws.{joined_work}
use Rattle.tile_work.proofs.tiles.+fn-work_in_halves-join+arg2+fn-work_in_halves-join+arg3+work_in_halves.Goals as goal

pub join-hand-requires-after_bounds : goal.join-hand-requires-after_bounds
join-hand-requires-after_bounds g t c κs within =
    let workers = c.args.workers in
    let tickets = g.J.TileJob.tickets c.args.job.now in
    let slots = g.J.TileJob.slots c.args.job.now in
    let amount = g.J.TileJob.is_amount c.args.job.now in
    let each = tickets + 1 in
    let some : 0 < workers = omega arith in
    let part : workers / 2 ≤ workers = omega arith in
    let draws = c.left.result / c.from.result * c.from-2.result in
    let all : c.left.result ≡ workers * each = c.left.ensures ∙ ap (λ (v : View). v.left) c.requires.unused in
    let is : draws ≡ workers * each / workers * (workers / 2) = cc (all, c.from.ensures, c.from-2.ensures) in
    let half_is = half_draws workers (workers / 2) each some part draws is in
    let kept = kept_draws workers (workers / 2) each some part (view_of c.args.hand) (view_of c.split-other.new.hand) draws c.requires.unused half_is c.split-other.ensures.kept in
    let given = c.split-other.ensures.given ∙ ap fresh half_is in
    let rest_handed : IsHanded tickets slots amount (workers - workers / 2) c.args.board.now c.split-other.new.hand = record {
      some_workers = omega arith;
      made_for = c.requires.made_for;
      belongs = c.split-other.ensures.belongs;
      unused = kept;
    } in
    let half_handed : IsHanded tickets slots amount (workers / 2) c.args.board.now c.split-other.result = record {
      some_workers = omega arith;
      made_for = c.requires.made_for;
      belongs = c.split-other.ensures.new_belongs;
      unused = given;
    } in
    search rules

pub returns : goal.returns
returns g t c =
    let workers = c.args.workers in
    let each = g.J.TileJob.tickets c.args.job.now + 1 in
    let slots = g.J.TileJob.slots c.args.job.now in
    let amount = g.J.TileJob.is_amount c.args.job.now in
    let one = c.join-hand.ensures.first in
    let other = c.join-hand.ensures.second in
    let view = view_of c.join-hand.result.0.0 in
    let other_view = view_of c.join-hand.result.1.0 in
    let all = view_of c.join.new.hand in record {
      belongs = c.join.ensures.belongs;
      draws = joined_draws workers (workers / 2) each (omega arith) (omega arith) view other_view all c.join.ensures.joined one.draws other.draws;
      worked = both_ok _ _ _ c.and.ensures (joined_work slots amount view other_view all c.join.new.hand.facts c.join.ensures.joined) one.worked other.worked;
    }
