use Rattle.tile_work.proofs.SumLaws.{one_sum_each}
use Rattle.tile_work.proofs.laws.sums_agree.Goals as goal

pub returns : goal.returns
returns g c job = one_sum_each (g.J.TileJob.tickets job) (g.J.TileJob.is_amount job)
