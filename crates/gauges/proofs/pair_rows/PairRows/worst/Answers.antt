use Rattle.std.proofs.Common.{List, Option, Some, [], ap, arith, length, option_map, subst, ℕ, ◌<◌, ◌∙◌, ◌≡◌}
use Rattle.lists.proofs.Words.{get_or_default}
use Rattle.gauges.specs.WorstText.{worst_of}
use Rattle.gauges.specs.declared.pair_rows.KeptRow.{KeptRow}
use Rattle.gauges.specs.inside.KeptRows.{pair_row}
use Rattle.gauges.proofs.KeptLaws.{found_named, with_name, worst_found}
use Rattle.gauges.proofs.pair_rows.PairRows.worst.Goals as goal

pub returns-in_err-row : goal.returns-in_err-row
returns-in_err-row c =
    rw c.from_residual-in_err-row.ensures
    (subst (λ (found : Option KeptRow). option_map (with_name c.self.inside.layers.items) found ≡ worst_of c.args.self.now) c.in_err-row.was
    (worst_found c.self.inside.layers.items c.self.inside.rows.items _ _ c.args.self.now c.in_ok-greatest.greatest _ c.as_slice.ensures.value c.as_slice-2.ensures.value
    c.self.view_is c.in_ok-greatest.ensures.reached c.in_ok-greatest.ensures.bound c.first_with_area.ensures))

pub index-requires : goal.index-requires
index-requires c =
    let small : c.in_ok-row.row.layer < length c.self.inside.layers.items =
    found_named c.self.inside.layers.items c.self.inside.rows.items _ c.in_ok-greatest.greatest _ c.in_ok-row.row c.as_slice-2.ensures.value c.self.invariant
    c.first_with_area.ensures c.in_ok-row.was in
    omega arith

pub returns : goal.returns
returns c =
    let names = c.self.inside.layers.items in
    let row = c.in_ok-row.row in
    let small : row.layer < length names =
    found_named names c.self.inside.rows.items _ c.in_ok-greatest.greatest _ row c.as_slice-2.ensures.value c.self.invariant c.first_with_area.ensures c.in_ok-row.was in
    ap Some c.named.ensures
    ∙ ap (λ (name : List ℕ). Some (pair_row name row)) (c.index.ensures ∙ get_or_default names row.layer _ [] small)
    ∙ subst (λ (found : Option KeptRow). option_map (with_name names) found ≡ worst_of c.args.self.now) c.in_ok-row.was
    (worst_found names c.self.inside.rows.items _ _ c.args.self.now c.in_ok-greatest.greatest _ c.as_slice.ensures.value c.as_slice-2.ensures.value
    c.self.view_is c.in_ok-greatest.ensures.reached c.in_ok-greatest.ensures.bound c.first_with_area.ensures)
