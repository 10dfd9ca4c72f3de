use Rattle.std.proofs.Common.{◌≡◌, List, length}
use Rattle.lists.proofs.Words.{AllZip, into_iter_items}
use Rattle.std.specs.Vec.Iter.{into_iter_len}
use Rattle.library_model.specs.declared.library.Structure.{Structure}
use Rattle.flatten.specs.declared.placed.Placed.{Placed}
use Rattle.rect_cover.specs.inside.ShapeAnswers.{IsAnswerFor}
use Rattle.rect_cover.proofs.ListedLaws.{AreListedBut}
use Rattle.rect_cover.proofs.covering_all.all_or_first_fault.Given as goal

abbrev pub invariant-loop-answer : goal.invariant-loop-answer
invariant-loop-answer l = record {
  listed : (structures : List Structure) (placed : List Placed) → AllZip (IsAnswerFor structures) placed l.fn.answers.items →
      AreListedBut structures placed (into_iter_items l.answer-iterator) l.lists.items;
  count : length (into_iter_items l.answer-iterator) ≡ into_iter_len l.answer-iterator;
}
