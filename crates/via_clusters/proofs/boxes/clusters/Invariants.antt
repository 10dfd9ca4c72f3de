use Rattle.std.proofs.Common.{take}
use Rattle.lists.proofs.Words.{AllZip}
use Rattle.via_clusters.proofs.ClusterBoxLaws.{IsGroupBox}
use Rattle.via_clusters.proofs.boxes.clusters.Given as goal

abbrev pub invariant-loop-group : goal.invariant-loop-group
invariant-loop-group l = AllZip IsGroupBox (take l.group-index l.groups) l.boxes.items
