use Rattle.std.proofs.Common.{subst, sym}
use Rattle.map_model.specs.MapNames.{AreSizes}
use Rattle.first_refusal.proofs.AnswerLaws.{handed_on}
use Rattle.first_refusal.proofs.JudgeLaws.{given, passed, passes, unread}
use Rattle.layer_map.proofs.EachLaws.{holds_then, stops_there}
use Rattle.layer_map.proofs.MapLaws.{gives_map, sizes_count}
use Rattle.layer_map.proofs.read.map_of.Goals as goal

pub returns-in_err-check_head : goal.returns-in_err-check_head
returns-in_err-check_head c = handed_on _ _ c.from_residual.result c.in_err-check_head.field-0.0 c.from_residual.ensures.1 (stops_there _ c.in_err-check_head.ensures)

pub returns-in_err-sizes : goal.returns-in_err-sizes
returns-in_err-sizes c =
    handed_on _ _ c.from_residual-in_err-sizes.result c.in_err-sizes.field-0.0 c.from_residual-in_err-sizes.ensures.1 (holds_then c.in_ok-check_head.ensures (stops_there _ c.in_err-sizes.ensures))

pub returns-in_err-weights : goal.returns-in_err-weights
returns-in_err-weights c =
    let weights = (rw c.as_slice.ensures at c.in_err-weights.ensures) (sizes_count _ c.in_ok-sizes.ensures) in
    handed_on _ _ c.from_residual-in_err-weights.result c.in_err-weights.field-0.0 c.from_residual-in_err-weights.ensures.1
    (holds_then c.in_ok-check_head.ensures (holds_then c.in_ok-sizes.ensures (stops_there _ weights)))

pub returns-in_err-metals : goal.returns-in_err-metals
returns-in_err-metals c =
    let weights = (rw c.as_slice.ensures at c.in_ok-weights.ensures) (sizes_count _ c.in_ok-sizes.ensures) in
    handed_on _ _ c.from_residual-in_err-metals.result c.in_err-metals.field-0.0 c.from_residual-in_err-metals.ensures.1
    (holds_then c.in_ok-check_head.ensures (holds_then c.in_ok-sizes.ensures (holds_then weights (stops_there _ c.in_err-metals.ensures))))

pub read_cuts-requires : goal.read_cuts-requires
read_cuts-requires c = rw c.as_slice-2.ensures (given c.in_ok-metals.ensures).few

pub read_terminals-requires : goal.read_terminals-requires
read_terminals-requires c = rw c.as_slice-3.ensures (given c.in_ok-metals.ensures).few

pub returns-in_err-cuts : goal.returns-in_err-cuts
returns-in_err-cuts c =
    let weights = (rw c.as_slice.ensures at c.in_ok-weights.ensures) (sizes_count _ c.in_ok-sizes.ensures) in
    let cuts = (rw c.as_slice-2.ensures at c.in_err-cuts.ensures) (given c.in_ok-metals.ensures) in
    handed_on _ _ c.from_residual-in_err-cuts.result c.in_err-cuts.field-0.0 c.from_residual-in_err-cuts.ensures.1
    (holds_then c.in_ok-check_head.ensures (holds_then c.in_ok-sizes.ensures (holds_then weights (holds_then c.in_ok-metals.ensures (stops_there _ cuts)))))

pub returns-in_err-terminals : goal.returns-in_err-terminals
returns-in_err-terminals c =
    let weights = (rw c.as_slice.ensures at c.in_ok-weights.ensures) (sizes_count _ c.in_ok-sizes.ensures) in
    let cuts = (rw c.as_slice-2.ensures at c.in_ok-cuts.ensures) (given c.in_ok-metals.ensures) in
    let terminals = (rw c.as_slice-3.ensures at c.in_err-terminals.ensures) c.read_metals.new.seen (given c.in_ok-metals.ensures) in
    handed_on _ _ c.from_residual-in_err-terminals.result c.in_err-terminals.field-0.0 c.from_residual-in_err-terminals.ensures.1
    (holds_then c.in_ok-check_head.ensures (holds_then c.in_ok-sizes.ensures (holds_then weights (holds_then c.in_ok-metals.ensures (holds_then cuts (stops_there _ terminals))))))

pub returns-in_err-contacts : goal.returns-in_err-contacts
returns-in_err-contacts c =
    let weights = (rw c.as_slice.ensures at c.in_ok-weights.ensures) (sizes_count _ c.in_ok-sizes.ensures) in
    let cuts = (rw c.as_slice-2.ensures at c.in_ok-cuts.ensures) (given c.in_ok-metals.ensures) in
    let terminals = (rw c.as_slice-3.ensures at c.in_ok-terminals.ensures) c.read_metals.new.seen (given c.in_ok-metals.ensures) in
    handed_on _ _ c.from_residual-in_err-contacts.result c.in_err-contacts.field-0.0 c.from_residual-in_err-contacts.ensures.1
    (holds_then c.in_ok-check_head.ensures (holds_then c.in_ok-sizes.ensures (holds_then weights (holds_then c.in_ok-metals.ensures
    (holds_then cuts (holds_then terminals (unread _ _ _ _ _ c.in_err-contacts.field-0.0 c.in_err-contacts.ensures)))))))

pub invariant_of-result : goal.invariant_of-result
invariant_of-result c =
    let weights = given ((rw c.as_slice.ensures at c.in_ok-weights.ensures) (sizes_count _ c.in_ok-sizes.ensures)) in
    let takes = given c.in_ok-metals.ensures in
    let cuts = given ((rw c.as_slice-2.ensures at c.in_ok-cuts.ensures) takes) in
    let terminals = given ((rw c.as_slice-3.ensures at c.in_ok-terminals.ensures) c.read_metals.new.seen takes) in
    record {
      some_metals = takes.some;
      few_metals = takes.few;
      few_cuts = cuts.few;
      few_terminals = terminals.few;
      are_sizes = subst (λ measure. AreSizes measure c.in_ok-sizes.sizes) (sym c.measure_of.ensures) (given c.in_ok-sizes.ensures).is;
      are_weights = weights.is;
      names_differ = cuts.names_differ;
      pairs_differ = cuts.pairs_differ;
      terminals_differ = terminals.differ;
      cuts_join = cuts.joins;
      on_metals = terminals.on_metals;
    }

pub returns : goal.returns
returns c =
    let weights = (rw c.as_slice.ensures at c.in_ok-weights.ensures) (sizes_count _ c.in_ok-sizes.ensures) in
    let takes = given c.in_ok-metals.ensures in
    let cuts = (rw c.as_slice-2.ensures at c.in_ok-cuts.ensures) takes in
    let terminals = (rw c.as_slice-3.ensures at c.in_ok-terminals.ensures) c.read_metals.new.seen takes in
    let contacts = c.in_ok-contacts.ensures in
    holds_then c.in_ok-check_head.ensures (holds_then c.in_ok-sizes.ensures (holds_then weights (holds_then c.in_ok-metals.ensures (holds_then cuts (holds_then terminals
    (passes _ _ _ _ _ (passed contacts) (gives_map _ c.measure_of.ensures (given c.in_ok-sizes.ensures) (given weights) takes (given cuts) (given terminals) (given contacts))))))))
