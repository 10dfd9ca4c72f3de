-- what the analysis of a layout answers
use Rattle.std.proofs.Common.{ℕ, ◌≡◌, List, Option, IsErrAnd, Result, Ok, Err, Vec}
use Rattle.lists.proofs.Words.{Global, enumerate_from}
use Rattle.first_refusal.specs.Answers.{Answers, gives, refuses, no_memory}
use Rattle.first_refusal.specs.Checks.{Checks}
use Rattle.first_refusal.specs.Outcomes.{Outcome, Retold, Then, refused, value, kept, retold, goes_on, stops}
use Rattle.library_grammar.specs.FirstFault.{BytesComeTo}
use Rattle.library_grammar.specs.declared.fault.SyntaxFault.{SyntaxFault}
use Rattle.library_grammar.specs.declared.fault.SyntaxFault.TheVariants as syntax
use Rattle.library_model.specs.declared.library.Library.{Library}
use Rattle.map_model.specs.MapNames.{LayerMap}
use Rattle.map_model.specs.declared.layer_lists.Layers.{Layers}
use Rattle.net_extract.specs.Extraction.{IsOnItsMetal, off_metal}
use Rattle.net_extract.specs.declared.fault.NetFault.{NetFault}
use Rattle.net_extract.specs.declared.fault.NetFault.TheVariants as net
use Rattle.questions.specs.declared.row.Row.{Row}
use Rattle.run_inputs.specs.Layout.{LibraryComesTo, Subject, ShortLayoutComesTo, TerminalsComeTo}
use Rattle.run_inputs.specs.declared.layout_fault.LayoutFault.{LayoutFault}
use Rattle.run_inputs.specs.declared.layout_fault.LayoutFault.TheVariants.{Memory, Net, Syntax}
use Rattle.run_inputs.specs.StageAnswers.{Analyses, IsToldAs, gives_thing, gives_refusal}
use Rattle.run_inputs.specs.LayoutReaders.{AreLayersFor}
use Rattle.run_inputs.proofs.laws.ReadingLaws.{behind, fault_told, found_for, not_read, restaged, thing_told}
use Rattle.critarea_core.specs.Analysis.{AnalysisComesTo, has_rows, has_fault}
use Rattle.critarea_core.specs.Outputs.{AreRowsOn}
use Rattle.critarea_core.proofs.TerminalLaws.{terminal_off, thing_found}

module _ {T : Type 0} (IsFor : Subject → T → Type 0) (layer_map : LayerMap) (wanted : Option (List ℕ)) (bytes : List ℕ) where
  abbrev pub IsThere : Result T LayoutFault → Type 0
  IsThere = Analyses (ShortLayoutComesTo layer_map wanted bytes) IsFor

  -- bytes that are no library
  pub no_library : (fault : SyntaxFault) (result : Result T LayoutFault) → IsErrAnd result (IsToldAs syntax.Memory Memory (λ known. Syntax known) fault)
      → Answers syntax.Memory (BytesComeTo bytes) (Err fault) → IsThere result
  no_library fault result gave answer =
      not_read Memory (λ same. same) (ShortLayoutComesTo layer_map wanted bytes) IsFor syntax.Memory (λ known. Syntax known) fault result gave
      (λ known. stops (stops (retold (fault_told answer known))))

  -- Below, they are this library.
  module _ (library : Library) (read : Answers syntax.Memory (BytesComeTo bytes) (Ok library)) where
    in_library : (outcome : Outcome Subject LayoutFault) → Then (LibraryComesTo layer_map wanted library) TerminalsComeTo outcome → ShortLayoutComesTo layer_map wanted bytes outcome
    in_library = behind (Retold (λ fault. Syntax fault) (BytesComeTo bytes)) (LibraryComesTo layer_map wanted) TerminalsComeTo library (kept (thing_told read))

    -- a shape that is not placed, or that has no cover
    pub no_layers : (why : LayoutFault) (result : Result T LayoutFault) → IsErrAnd result (λ same. same ≡ why)
        → Analyses (LibraryComesTo layer_map wanted library) (AreLayersFor layer_map library.units) (Err why) → IsThere result
    no_layers why (Ok thing) gave found = absurd gave
    no_layers why (Err same) gave (refuses (gives_refusal comes)) = rw gave (refuses (gives_refusal (in_library (refused why) (stops comes))))
    no_layers why (Err same) gave no_memory = rw gave no_memory

    -- Below, it has these layers, and this is what is asked of a layer map on them.
    module _ (layers : Layers) (found : Analyses (LibraryComesTo layer_map wanted library) (AreLayersFor layer_map library.units) (Ok layers)) (Good : LayerMap → T → Type 0) where
      abbrev IsAnswered : Result T NetFault → Type 0
      IsAnswered = Answers net.Memory (Checks (IsOnItsMetal layers.lists.items) (enumerate_from 0 layer_map.terminals) off_metal (Good layer_map))

      abbrev HasSubject : Type 0
      HasSubject = (subject : Subject) × LibraryComesTo layer_map wanted library (value subject) × AreLayersFor layer_map library.units subject layers

      has_subject : HasSubject
      has_subject = found_for Memory (λ same. same) (LibraryComesTo layer_map wanted library) (AreLayersFor layer_map library.units) layers found

      -- a terminal that is not on its metal
      pub off_metals : (fault : NetFault) (result : Result T LayoutFault) → IsErrAnd result (IsToldAs net.Memory Memory (λ known. Net known) fault) → IsAnswered (Err fault) → IsThere result
      off_metals fault result gave answer =
          not_read Memory (λ same. same) (ShortLayoutComesTo layer_map wanted bytes) IsFor net.Memory (λ known. Net known) fault result gave
          (λ known. in_library (refused (Net fault)) (goes_on {v = has_subject.0} has_subject.1 (terminal_off layer_map layers has_subject.0 has_subject.2 Good fault answer known)))

      -- and what was found
      pub on_metals : (thing : T) → ((subject : Subject) → AreLayersFor layer_map library.units subject layers → Good subject.layer_map thing → IsFor subject thing) → IsAnswered (Ok thing)
          → IsThere (Ok thing)
      on_metals thing as_good answer =
          restaged Memory (λ same. same) (TerminalsComeTo has_subject.0) IsFor (ShortLayoutComesTo layer_map wanted bytes)
          (λ outcome comes. in_library outcome (goes_on {v = has_subject.0} has_subject.1 comes)) (Ok thing)
          (thing_found layer_map layers has_subject.0 has_subject.2 Good IsFor thing (as_good has_subject.0 has_subject.2) answer)

-- rows on the subject
abbrev pub HasRows : Subject → Vec Row Global → Type 0
HasRows subject rows = AreRowsOn subject rows.items

-- rows that were found, and a fault that was, are what the bytes come to
pub analysed : (layer_map : LayerMap) (wanted : Option (List ℕ)) (bytes : List ℕ) (result : Result (Vec Row Global) LayoutFault) → IsThere HasRows layer_map wanted bytes result
    → Answers Memory (AnalysisComesTo layer_map wanted bytes) result
analysed layer_map wanted bytes result (gives (gives_thing {v = subject} comes has)) = gives (has_rows {subject = subject} comes has)
analysed layer_map wanted bytes result (refuses (gives_refusal comes)) = refuses (has_fault comes)
analysed layer_map wanted bytes result no_memory = no_memory
