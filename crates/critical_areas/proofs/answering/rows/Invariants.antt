use Rattle.std.proofs.Common.{◌≡◌, take, map}
use Rattle.lists.proofs.Words.{AllZip}
use Rattle.questions.specs.Questions.{IsRowFor}
use Rattle.questions.specs.declared.row.Row.{Row}
use Rattle.critical_areas.proofs.answering.rows.Given as goal

abbrev pub invariant-loop-k : goal.invariant-loop-k
invariant-loop-k l = record {
  named : AllZip IsRowFor (take l.k l.asked.questions.now) l.rows.items;
  areas : map (λ (row : Row). row.area) l.rows.items ≡ take l.k l.amounts;
}
