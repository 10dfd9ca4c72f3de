use Rattle.std.proofs.Common.{sym, ◌∙◌, length}
use Rattle.lists.proofs.Words.{eqb-true}
use Rattle.near_index.proofs.IndexLaws.{permuted_at_end, permuted_more}
use Rattle.near_index.proofs.index.bands_of.Goals as goal

pub loop-rest-preserved : goal.loop-rest-preserved
loop-rest-preserved g c =
    permuted_more c.loop-rest.bands.items c.push.new.self.items c.in_ok-new.field-0 c.loop-rest.rest.now c.split_at.result.0.now c.split_at.result.1.now c.args.pieces.now c.min.result
    c.split_at.ensures.front c.split_at.ensures.back c.in_ok-push.ensures.items c.in_ok-new.ensures c.loop-rest.invariant

pub returns : goal.returns
returns g c =
    permuted_at_end c.loop-rest.bands.items c.loop-rest.rest.now c.args.pieces.now (eqb-true (length c.loop-rest.rest.now) 0 (sym c.is_empty.ensures ∙ c.loop-rest-test.false)) c.loop-rest.invariant
