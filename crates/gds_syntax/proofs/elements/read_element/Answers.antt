use Rattle.std.proofs.Common.{[], ◌∷◌, ◌++◌, arith}
use Rattle.library_grammar.specs.GrammarNames.{entry_of}
use Rattle.gds_syntax.proofs.JudgedLaws.{found_faulty}
use Rattle.first_refusal.proofs.JudgeLaws.{given, passed}
use Rattle.gds_syntax.proofs.ElementReading.{element_stops, plain_element, element_with_properties, opens_properties}
use Rattle.first_refusal.specs.Answers.{gives, refuses}
use Rattle.first_refusal.proofs.AnswerLaws.{handed_on}
use Rattle.library_grammar.specs.declared.fault.SyntaxFault.TheVariants.{Memory}
use Rattle.gds_syntax.proofs.ReaderLaws.{passed_on, read, stops_later}
use Rattle.gds_syntax.proofs.elements.read_element.Goals as goal
use Rattle.gds_syntax.proofs.elements.read_element.Goals.{then-closing-eq-PROPATTR+in_ok-read_properties, else-closing-eq-PROPATTR}

pub returns-in_err-closing : goal.returns-in_err-closing
returns-in_err-closing c =
    passed_on c.from_residual.result c.from_residual.ensures.1 c.in_err-closing.ensures
    (λ stop earlier names place here. stop names (earlier ++ entry_of c.args.opening.now ∷ []) here)

pub returns-in_err-kept : goal.returns-in_err-kept
returns-in_err-kept c =
    passed_on c.from_residual-in_err-kept.result c.from_residual-in_err-kept.ensures.1 c.in_err-kept.ensures (λ stop.
    element_stops c.args.opening.now c.requires.opens (read c.in_ok-closing.ensures) (found_faulty c.args.opening.now.at c.read_own.new.own stop))

pub read_properties-requires : goal.read_properties-requires
read_properties-requires c = (read c.in_ok-closing.ensures).so_far.takes.ready (λ same. omega (arith, c.if-closing-eq-PROPATTR.true, same))

pub returns-in_err-read_properties : goal.returns-in_err-read_properties
returns-in_err-read_properties c =
    handed_on Memory _ c.from_residual-in_err-read_properties.result _ c.from_residual-in_err-read_properties.ensures.1 (refuses (λ earlier names place here.
    stops_later
    (opens_properties c.args.opening.now c.requires.opens (read c.in_ok-closing.ensures) c.if-closing-eq-PROPATTR.true
    (passed c.in_ok-kept.ensures) names)
    (c.in_err-read_properties.ensures.faulty names) (earlier ++ entry_of c.args.opening.now ∷ []) here))

pub returns : goal.returns
returns c =
    let sound = passed c.in_ok-kept.ensures in
    let keeps = given c.in_ok-kept.ensures in
    let own = read c.in_ok-closing.ensures in
    elim c.if-closing-eq-PROPATTR.branch [
      | then-closing-eq-PROPATTR+in_ok-read_properties w ↦
          rw w.records-is (gives (element_with_properties c.args.opening.now c.requires.opens own c.in_ok-kept.kept sound keeps
          w.if-closing-eq-PROPATTR.true w.in_ok-read_properties.ensures.read))
      | else-closing-eq-PROPATTR w ↦
          rw w.records-is (gives (plain_element c.args.opening.now c.requires.opens own c.in_ok-kept.kept sound keeps w.if-closing-eq-PROPATTR.false))
    ]
