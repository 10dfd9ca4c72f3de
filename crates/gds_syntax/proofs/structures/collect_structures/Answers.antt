use Rattle.std.proofs.Common.{ℕ, [], ◌∷◌, ap, sym, ◌∙◌, arith}
use Rattle.library_grammar.specs.GrammarNames.{between_structures, behind, entry_of}
use Rattle.gds_syntax.specs.inside.LibraryReaders.{standing}
use Rattle.first_refusal.proofs.AnswerLaws.{handed_on, out_of_memory}
use Rattle.first_refusal.specs.Answers.{gives, refuses}
use Rattle.library_grammar.specs.declared.fault.SyntaxFault.TheVariants.{Memory}
use Rattle.gds_syntax.proofs.ReaderLaws.{passed_on, read, stops_later, has_less_left}
use Rattle.gds_syntax.proofs.StructuresReading.{structures_begin, structure_begins, structure_further, structures_go_on, structures_stop, structures_end, few_names}
use Rattle.gds_syntax.proofs.structures.collect_structures.Goals as goal

pub returns-in_err-found : goal.returns-in_err-found
returns-in_err-found c =
    handed_on Memory _ c.from_residual.result _ c.from_residual.ensures.1 (refuses (c.in_err-found.ensures.faulty (standing between_structures [])))

pub loop-found-init : goal.loop-found-init
loop-found-init c =
    rw (c.new-structures.ensures.items, c.requires.no_names) (structures_begin c.in_ok-found.ensures.found)

pub returns-in_err-structure : goal.returns-in_err-structure
returns-in_err-structure c =
    passed_on c.from_residual-in_err-structure.result c.from_residual-in_err-structure.ensures.1 c.in_err-structure.ensures
    (stops_later (structure_begins c.loop-found-test.true c.loop-found.invariant))

pub returns-in_err-found-2 : goal.returns-in_err-found-2
returns-in_err-found-2 c =
    handed_on Memory _ c.from_residual-in_err-found-2.result _ c.from_residual-in_err-found-2.ensures.1 (refuses (stops_later
    (structure_further c.loop-found-test.true c.loop-found.invariant (read c.in_ok-structure.ensures))
    (c.in_err-found-2.ensures.faulty (standing between_structures c.read_structure.new.names))))

pub read_structure-requires : goal.read_structure-requires
read_structure-requires c =
    let takes = c.loop-found.invariant.takes in
    record {
      ready = takes.ready (λ same. omega (arith, c.loop-found-test.true, same));
      opens = c.loop-found-test.true;
      place = takes.takes.offset ∙ ap (λ (at : ℕ). behind at (entry_of c.loop-found.found ∷ [])) (sym takes.place);
      few = few_names c.loop-found.invariant;
    }

pub next_record-requires-in-loop-found : goal.next_record-requires-in-loop-found
next_record-requires-in-loop-found c = (read c.in_ok-structure.ensures).ready

pub loop-found-smaller : goal.loop-found-smaller
loop-found-smaller c = has_less_left _ (read c.in_ok-structure.ensures).advances.takes c.in_ok-found-2.ensures.found

pub loop-found-preserved : goal.loop-found-preserved
loop-found-preserved c =
    rw c.in_ok-push.ensures.items (structures_go_on c.loop-found-test.true c.loop-found.invariant (read c.in_ok-structure.ensures) c.in_ok-found-2.ensures.found)

pub returns-then-found-ne-ENDLIB : goal.returns-then-found-ne-ENDLIB
returns-then-found-ne-ENDLIB c =
    rw c.unexpected.ensures (refuses (structures_stop c.loop-found-test.false c.if-found-ne-ENDLIB.true c.loop-found.invariant))

pub returns : goal.returns
returns c =
    gives (structures_end c.if-found-ne-ENDLIB.false c.requires.ready c.loop-found.invariant)

pub returns-in_err-push : goal.returns-in_err-push
returns-in_err-push c = out_of_memory _ _ c.from_residual-in_err-push.result c.from_residual-in_err-push.ensures.1
