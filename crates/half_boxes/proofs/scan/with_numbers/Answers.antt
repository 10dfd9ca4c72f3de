use Rattle.std.proofs.Common.{refl, arith, ap, length, List}
use Rattle.lists.proofs.Words.{slice_get_read}
use Rattle.half_boxes.specs.declared.scan.Numbered.{Numbered}
use Rattle.half_boxes.proofs.NumberLaws.{none_numbered, one_more_numbered, all_numbered}
use Rattle.half_boxes.proofs.scan.with_numbers.Goals as goal

pub loop-number-init : goal.loop-number-init
loop-number-init c = record {
  numbered = rw c.in_ok-entries.ensures.items (none_numbered c.args.boxes.now);
  as_many = ap (λ (xs : List Numbered). length xs) c.in_ok-entries.ensures.items;
}

pub loop-number-preserved : goal.loop-number-preserved
loop-number-preserved c =
    let at = slice_get_read _ _ _ _ refl c.loop-number-test.true c.index-boxes-number.is in
    record {
      numbered = rw c.in_ok-push.ensures.items (one_more_numbered c.args.boxes.now c.loop-number.number c.index-boxes-number.result c.loop-number.entries.items at c.loop-number.invariant.numbered);
      as_many = let so_far = c.loop-number.invariant.as_many in let more = c.in_ok-push.ensures.len in omega arith;
    }

pub returns-clause-numbered : goal.returns-clause-numbered
returns-clause-numbered c = all_numbered c.args.boxes.now c.loop-number.number c.loop-number.entries.items (omega arith) c.loop-number.invariant.numbered
