use Rattle.std.proofs.Common.{◌+◌, ◌≡◌, take, map}
use Rattle.net_extract.proofs.IslandLaws.{rect_of, label_of}
use Rattle.net_extract.proofs.metals.islands_among.Given as goal

abbrev pub invariant-loop-k : goal.invariant-loop-k
invariant-loop-k l = record {
  rects : map rect_of l.islands.items ≡ take l.k l.rects;
  labels : map label_of l.islands.items ≡ map (λ n. l.first + n) (take l.k l.labels.items);
}
