use Rattle.std.proofs.Common.{◌≡◌, drop, find, map, ◌==◌}
use Rattle.library_grammar.specs.GrammarNames.{entry_of}
use Rattle.gds_syntax.proofs.own_records.OwnRecords.find.Given as goal

abbrev pub invariant-loop-record : goal.invariant-loop-record
invariant-loop-record l =
    find (λ e. e.kind == l.kind) (map entry_of l.record-items) ≡ find (λ e. e.kind == l.kind) (map entry_of (drop l.record-index l.record-items))
