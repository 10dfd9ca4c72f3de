use Rattle.std.proofs.Common.{refl}
use Rattle.lists.proofs.Words.{false≢true}
use Rattle.open_grid.proofs.PartingLaws.{always_open, never_open, not_open}
use Rattle.open_grid.proofs.parting.parted_by_search.Goals as goal

pub returns-in_default : goal.returns-in_default
returns-in_default c = (
  λ f. absurd (false≢true f),
  λ o. absurd (not_open c.args.island.now c.requires.within c.args.side c.requires.few c.args.cell c.in_default.ensures.none o),
)

pub returns-in-Never : goal.returns-in-Never
returns-in-Never c = (
  λ f. absurd (false≢true f),
  λ o. absurd (never_open c.defects_sever_islands.ensures c.in-Some.zone c.args.cell ((c.in-Some.ensures.some c.args.cell).1 refl) c.args.side c.args.island.now c.in_ok-looked.ensures.sound
      (rw c.in-Never.is at (c.in_ok-look_at.ensures.told c.args.island.now (c.in_ok-looked.ensures.stands c.in-Some.zone c.args.side))) o),
)

pub returns-in-Always : goal.returns-in-Always
returns-in-Always c = (
  λ f. always_open c.defects_sever_islands.ensures c.in-Some.zone c.args.cell ((c.in-Some.ensures.some c.args.cell).1 refl) c.args.side c.args.island.now c.in_ok-looked.ensures.sound
      (rw c.in-Always.is at (c.in_ok-look_at.ensures.told c.args.island.now (c.in_ok-looked.ensures.stands c.in-Some.zone c.args.side))),
  λ o. refl,
)
