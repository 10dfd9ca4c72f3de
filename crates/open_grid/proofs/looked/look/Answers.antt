use Rattle.open_grid.proofs.BoxLaws.{all_near, all_reached}
use Rattle.open_grid.proofs.looked.look.Goals as goal

pub returns-clause-stands : goal.returns-clause-stands
returns-clause-stands c = λ zone side. record {
  anchored = c.in_ok-near.ensures.sound;
  same = λ removed b. c.in_ok-remnant.ensures removed;
  has_near = all_near c.args.island.now c.in_ok-near.near zone side c.in_ok-near.ensures.boxes;
  near_on_island = c.in_ok-near.ensures.boxes.on_island;
  has_reached = all_reached c.args.island.now c.in_ok-anchors.anchors zone side c.in_ok-anchors.ensures;
}
