use Rattle.std.proofs.Common.{ℕ, ◌+◌, ◌<◌, ◌≡◌, Some, ap, length, length-append, refl, slice_get, sym, subst, arith}
use Rattle.lists.proofs.Words.{slice_get_read}
use Rattle.questions.specs.Questions.{IsAskable}
use Rattle.tile_plan.specs.Tiles.{IsTile, tile_count}
use Rattle.tile_plan.proofs.laws.TallyingLaws.{tile_in_window}
use Rattle.critical_areas.specs.inside.Work.{Work}
use Rattle.critical_areas.proofs.CountingLaws.{AreOfTile, one_of_tile}
use Rattle.critical_areas.proofs.ZippedLaws.{item_has}
use Rattle.critical_areas.proofs.tiles.TilesTileJob.amounts.Goals as goal

pub tile-tile-requires : goal.tile-tile-requires
tile-tile-requires c = subst (λ (work : Work). c.args.ticket < tile_count work.plan) (sym c.self.view_is) c.requires

pub amount-requires : goal.amount-requires
amount-requires c =
    let asked = c.self.inside.asked in
    let questions = asked.questions.now in
    let question = c.index-questions-slot.result in
    let i = c.loop-slot.slot in
    let at = slice_get_read questions (length questions) i question refl c.loop-slot-test.true c.index-questions-slot.is in
    rw (← c.self.view_is) (record {
      asked = at;
      askable = item_has (IsAskable (length asked.parts.now.metals) (length asked.parts.now.cuts)) questions asked.askable i question at;
      within = tile_in_window c.self.inside.plan c.args.ticket c.tile-tile.result c.tile-tile.ensures;
    })

pub loop-slot-preserved : goal.loop-slot-preserved
loop-slot-preserved c =
    let work = c.args.self.now in
    let questions = c.self.inside.asked.questions.now in
    let question = c.index-questions-slot.result in
    let i = c.loop-slot.slot in
    let at = slice_get_read questions (length questions) i question refl c.loop-slot-test.true c.index-questions-slot.is in
    let asked = subst (λ (w : Work). slice_get w.questions i ≡ Some question) c.self.view_is at in
    let is_tile = subst (λ (w : Work). IsTile w.plan c.args.ticket c.tile-tile.result) c.self.view_is c.tile-tile.ensures in
    record {
      long = omega (arith, ap length c.in_ok-push.ensures.items, length-append {A = ℕ}, c.loop-slot.invariant.long);
      amounts = subst (AreOfTile work c.args.ticket (i + 1)) (sym c.in_ok-push.ensures.items)
          (one_of_tile work c.args.ticket i question c.loop-slot.into.items c.in_ok-amount.field-0 c.tile-tile.result c.loop-slot.invariant.long asked is_tile c.in_ok-amount.ensures
          c.loop-slot.invariant.amounts);
    }

pub returns-clause-one_each : goal.returns-clause-one_each
returns-clause-one_each c = let same = ap (λ (w : Work). length w.questions) c.self.view_is in omega (arith, c.loop-slot.invariant.long, c.loop-slot-test.false, same)

pub returns-clause-in_order : goal.returns-clause-in_order
returns-clause-in_order c slot small =
    let same = ap (λ (w : Work). length w.questions) c.self.view_is in c.loop-slot.invariant.amounts slot (omega (arith, c.loop-slot-test.false, small, same))
