use Rattle.std.proofs.Common.{arith}
use Rattle.library_grammar.specs.GrammarNames.{MovesPast}
use Rattle.gds_syntax.proofs.ReaderLaws.{takes_one, goes_on, stops_at_end}
use Rattle.gds_syntax.proofs.records.next_record.Goals as goal

pub returns-in-Ok-Some-clause-found : goal.returns-in-Ok-Some-clause-found
returns-in-Ok-Some-clause-found c =
    let moved : MovesPast c.args.records.now c.next.new.self c.in-Ok-Some.found = rw c.in-Ok-Some.field-0-is at c.in-Ok-Some.ensures.moves_past in
    record {
      takes = takes_one c.args.records.now c.next.new.self c.in-Ok-Some.found moved (λ entries end left. rw c.in-Ok-Some.field-0-is at (c.in-Ok-Some.ensures.split entries end).0 left);
      in_profile = rw c.in-Ok-Some.field-0-is at c.in-Ok-Some.ensures.in_profile;
      place = moved.place;
      bytes = moved.bytes;
      further = omega (arith, moved.moves);
      within = moved.within;
      ends = moved.ends;
      ready = goes_on c.args.records.now c.next.new.self c.in-Ok-Some.found moved c.requires;
    }

pub returns-in-Err-clause-faulty : goal.returns-in-Err-clause-faulty
returns-in-Err-clause-faulty c = λ from.
    stops_at_end c.args.records.now c.next.new.self from c.in-Err.fault (λ entries end left. (c.in-Err.ensures.split entries end).0 left)
