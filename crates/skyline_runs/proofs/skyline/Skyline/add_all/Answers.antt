use Rattle.std.proofs.Common.{ℕ, arith, length, subst, ◌+◌, ◌*◌, ◌≤◌, ◌≡◌}
use Rattle.skyline_runs.proofs.Covering.{all_of_them, level_below, none_yet, one_level, one_more, one_sides}
use Rattle.skyline_runs.proofs.Looking.{looks_each}
use Rattle.skyline_runs.proofs.skyline.Skyline.add_all.Goals as goal

pub loop-part-init : goal.loop-part-init
loop-part-init c = record {
  added = none_yet c.args.self.now c.args.rect c.requires.sound c.requires.below;
  within = omega arith;
  sides = λ xs s all. s;
  few = λ xs s all. omega arith;
}

pub add-requires-clause-sound : goal.add-requires-clause-sound
add-requires-clause-sound c = c.loop-part.invariant.added.sound

pub add-requires-clause-below : goal.add-requires-clause-below
add-requires-clause-below c = level_below c.part-item.result c.args.rect c.loop-part.self
    (one_level c.args.parts.now c.loop-part.part-index c.part-item.result c.args.rect c.loop-part-test.true c.part-item.is c.requires.level)
    c.loop-part.invariant.added.below

pub loop-part-preserved : goal.loop-part-preserved
loop-part-preserved c = let h = c.loop-part.invariant in record {
  added = one_more c.args.self.now c.loop-part.self c.add.new.self c.args.rect c.args.parts.now
      c.loop-part.part-index c.part-item.result c.loop-part-test.true c.part-item.is
      (one_level c.args.parts.now c.loop-part.part-index c.part-item.result c.args.rect c.loop-part-test.true c.part-item.is c.requires.level)
      h.added c.in_ok-add.ensures.sound c.in_ok-add.ensures.below c.in_ok-add.ensures.cells;
  within = omega arith;
  sides = λ xs s all.
      let ends = one_sides xs c.args.parts.now c.loop-part.part-index c.part-item.result c.loop-part-test.true c.part-item.is all in
      c.in_ok-add.ensures.sides xs (h.sides xs s all) ends.0 ends.1;
  few = λ xs s all.
      let ends = one_sides xs c.args.parts.now c.loop-part.part-index c.part-item.result c.loop-part-test.true c.part-item.is all in
      looks_each c.loop-part.part-index (length xs + 1) c.loop-part.looks _ _ (h.few xs s all)
      (c.in_ok-add.ensures.few xs (h.sides xs s all) ends.0 ends.1) (let sum = c.saturating_add-looks.ensures in omega arith);
}

pub returns-clause-sound : goal.returns-clause-sound
returns-clause-sound c = c.loop-part.invariant.added.sound

pub returns-clause-below : goal.returns-clause-below
returns-clause-below c = c.loop-part.invariant.added.below

pub returns-clause-cells : goal.returns-clause-cells
returns-clause-cells c = all_of_them c.args.self.now c.loop-part.self c.args.rect c.args.parts.now c.loop-part.part-index
    c.loop-part-test.false c.loop-part.invariant.added

pub returns-clause-few : goal.returns-clause-few
returns-clause-few c = λ xs s all.
    let within = c.loop-part.invariant.within in let past = c.loop-part-test.false in
    let e : c.loop-part.part-index ≡ length c.args.parts.now = omega arith in
    subst (λ (n : ℕ). c.loop-part.looks ≤ n * (length xs + 1)) e (c.loop-part.invariant.few xs s all)
