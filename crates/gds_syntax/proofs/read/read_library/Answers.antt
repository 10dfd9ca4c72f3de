use Rattle.std.proofs.Common.{sym, arith}
use Rattle.gds_records.proofs.laws.Bodies.{bytes_are_bytes}
use Rattle.gds_syntax.proofs.LibraryReading.{bytes_have_fault, bytes_are_library}
use Rattle.library_grammar.proofs.laws.Libraries.{library_names_differ, library_is_pointed}
use Rattle.gds_syntax.proofs.ReaderLaws.{passed_on, read, stops_later}
use Rattle.first_refusal.specs.Answers.{gives}
use Rattle.gds_syntax.proofs.read.read_library.Goals as goal

pub returns-in_err-head-clause-answers : goal.returns-in_err-head-clause-answers
returns-in_err-head-clause-answers c =
    passed_on c.from_residual.result c.from_residual.ensures.1 c.in_err-head.ensures (λ stop.
    bytes_have_fault c.args.bytes.now c.in_err-head.field-0.0 (bytes_are_bytes c.args.bytes.now (λ i. omega (arith, c.type_inv.bytes i)))
    (rw c.new-records.ensures at stop))

pub returns-in_err-structures-clause-answers : goal.returns-in_err-structures-clause-answers
returns-in_err-structures-clause-answers c =
    let is_head = read c.in_ok-head.ensures in
    let from_start = rw c.new-records.ensures at is_head in
    passed_on c.from_residual-in_err-structures.result c.from_residual-in_err-structures.ensures.1 c.in_err-structures.ensures (λ stop.
    bytes_have_fault c.args.bytes.now c.in_err-structures.field-0.0 (bytes_are_bytes c.args.bytes.now (λ i. omega (arith, c.type_inv.bytes i))) (stops_later from_start.advances stop))

pub returns-clause-answers : goal.returns-clause-answers
returns-clause-answers c =
    let is_head = read c.in_ok-head.ensures in
    let are_structures = read c.in_ok-structures.ensures in
    gives (bytes_are_library c.args.bytes.now c.read_head.new.records c.read_structures.new.records _ (bytes_are_bytes c.args.bytes.now (λ i. omega (arith, c.type_inv.bytes i)))
    (rw c.new-records.ensures at is_head) (rw (sym c.from_vec.ensures) at are_structures))

pub returns-clause-names_differ : goal.returns-clause-names_differ
returns-clause-names_differ c = library_names_differ c.args.bytes.now _ (read (returns-clause-answers c))

pub returns-clause-pointed : goal.returns-clause-pointed
returns-clause-pointed c = library_is_pointed c.args.bytes.now _ (read (returns-clause-answers c))
