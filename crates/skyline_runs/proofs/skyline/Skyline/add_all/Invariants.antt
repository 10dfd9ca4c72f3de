use Rattle.std.proofs.Common.{ℤ, List, length, take, ◌≤◌, ◌+◌, ◌*◌}
use Rattle.skyline_runs.specs.inside.Skylines.{HasSides, HaveSides}
use Rattle.skyline_runs.proofs.Covering.{IsAddedAll}
use Rattle.skyline_runs.proofs.skyline.Skyline.add_all.Given as goal

abbrev pub invariant-loop-part : goal.invariant-loop-part
invariant-loop-part l = record {
  added : IsAddedAll l.fn.self l.self l.fn.rect (take l.part-index l.parts);
  within : l.part-index ≤ length l.parts;
  sides : (xs : List ℤ) → HasSides xs l.fn.self → HaveSides xs l.parts → HasSides xs l.self;
  few : (xs : List ℤ) → HasSides xs l.fn.self → HaveSides xs l.parts → l.looks ≤ l.part-index * (length xs + 1);
}
