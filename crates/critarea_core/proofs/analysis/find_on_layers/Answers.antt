use Rattle.std.proofs.Common.{refl, sym, subst, slice_index_or}
use Rattle.lists.proofs.Words.{enumerate_from}
use Rattle.first_refusal.proofs.AnswerLaws.{handed_on}
use Rattle.first_refusal.proofs.JudgeLaws.{given, passed, passes, unread}
use Rattle.geo_core.specs.Plane.{IsCoveredIn}
use Rattle.map_model.specs.MapNames.{layer_map_of}
use Rattle.net_extract.specs.Extraction.{IsOnItsMetal, off_metal}
use Rattle.net_extract.specs.declared.fault.NetFault.TheVariants.{Memory}
use Rattle.area_parts.specs.Rows.{AreRows}
use Rattle.pair_report.specs.PairRows.{pair_rows}
use Rattle.layout_pairs.specs.PairAreas.{ArePairRows}
use Rattle.layout_probe.specs.Probe.{IsProbe}
use Rattle.layout_regions.specs.Regions.{IsRegion}
use Rattle.run_inputs.specs.declared.query.Query.TheVariants.{Report, Pairs, Probe, Region}
use Rattle.critarea_core.specs.inside.Finding.{IsFoundIn}
use Rattle.critarea_core.proofs.analysis.find_on_layers.Goals as goal

-- ---- rows

pub returns-in_err-rows-in-Report : goal.returns-in_err-rows-in-Report
returns-in_err-rows-in-Report g c =
    let layer_map = layer_map_of c.args.map.now in
    let lists = c.args.layers.now.lists.items in
    let fault = c.in_err-rows-in-Report.field-0.0 in
    handed_on Memory _ c.from_residual.result fault c.from_residual.ensures.1
    (unread (IsOnItsMetal lists) off_metal (λ rows. AreRows layer_map (IsCoveredIn lists) rows.items) _ (enumerate_from 0 layer_map.terminals) fault c.in_err-rows-in-Report.ensures.rows)

pub invariant_of-result : goal.invariant_of-result
invariant_of-result g c = record { few = c.in_ok-rows-in-Report.ensures.few }

pub returns-in_ok-rows-in-Report : goal.returns-in_ok-rows-in-Report
returns-in_ok-rows-in-Report g c =
    let layer_map = layer_map_of c.args.map.now in
    let lists = c.args.layers.now.lists.items in
    let rows = c.in_ok-rows-in-Report.ensures.rows in
    rw c.in-Report.is (passes (IsOnItsMetal lists) off_metal (IsFoundIn Report layer_map (IsCoveredIn lists) c.args.units) (enumerate_from 0 layer_map.terminals) _ (passed rows) (given rows))

-- ---- pairs

pub pair_tables-requires-clause-below : goal.pair_tables-requires-clause-below
pair_tables-requires-clause-below g c = (rw c.in-Pairs.is at c.requires.there).below

pub returns-in_err-tables-in-Pairs : goal.returns-in_err-tables-in-Pairs
returns-in_err-tables-in-Pairs g c =
    let layer_map = layer_map_of c.args.map.now in
    let lists = c.args.layers.now.lists.items in
    let fault = c.in_err-tables-in-Pairs.field-0.0 in
    let size = slice_index_or c.args.map.now.sizes c.in-Pairs.size.place 0 in
    handed_on Memory _ c.from_residual-in_err-tables-in-Pairs.result fault c.from_residual-in_err-tables-in-Pairs.ensures.1
    (unread (IsOnItsMetal lists) off_metal (λ tables. ArePairRows layer_map (IsCoveredIn lists) size (pair_rows tables)) _ (enumerate_from 0 layer_map.terminals) fault
    c.in_err-tables-in-Pairs.ensures)

pub returns-in_ok-tables-in-Pairs : goal.returns-in_ok-tables-in-Pairs
returns-in_ok-tables-in-Pairs g c =
    let layer_map = layer_map_of c.args.map.now in
    let lists = c.args.layers.now.lists.items in
    let tables = c.in_ok-tables-in-Pairs.tables in
    let listed = (rw c.in-Pairs.is at c.requires.there).is in
    let are = subst (λ n. ArePairRows layer_map (IsCoveredIn lists) n (pair_rows tables)) (sym listed) (given c.in_ok-tables-in-Pairs.ensures) in
    rw c.in-Pairs.is (passes (IsOnItsMetal lists) off_metal (IsFoundIn (Pairs c.in-Pairs.size) layer_map (IsCoveredIn lists) c.args.units) (enumerate_from 0 layer_map.terminals) _
    (passed c.in_ok-tables-in-Pairs.ensures) are)

-- ---- a probe

pub returns-in_err-metals-in-Probe : goal.returns-in_err-metals-in-Probe
returns-in_err-metals-in-Probe g c =
    let layer_map = layer_map_of c.args.map.now in
    let lists = c.args.layers.now.lists.items in
    let fault = c.in_err-metals-in-Probe.field-0.0 in
    handed_on Memory _ c.from_residual-in_err-metals-in-Probe.result fault c.from_residual-in_err-metals-in-Probe.ensures.1
    (unread (IsOnItsMetal lists) off_metal (λ metals. IsProbe layer_map (IsCoveredIn lists) c.in-Probe.cell metals.items) _ (enumerate_from 0 layer_map.terminals) fault
    c.in_err-metals-in-Probe.ensures)

pub returns-in_ok-metals-in-Probe : goal.returns-in_ok-metals-in-Probe
returns-in_ok-metals-in-Probe g c =
    let layer_map = layer_map_of c.args.map.now in
    let lists = c.args.layers.now.lists.items in
    let metals = c.in_ok-metals-in-Probe.ensures in
    rw c.in-Probe.is (passes (IsOnItsMetal lists) off_metal (IsFoundIn (Probe c.in-Probe.cell) layer_map (IsCoveredIn lists) c.args.units) (enumerate_from 0 layer_map.terminals) _ (passed metals) (given metals))

-- ---- critical cells

pub regions-requires-clause-numbered : goal.regions-requires-clause-numbered
regions-requires-clause-numbered g c = (rw c.in-Region.is at c.requires.there).numbered

pub regions-requires-clause-below : goal.regions-requires-clause-below
regions-requires-clause-below g c = (rw c.in-Region.is at c.requires.there).listed.below

pub returns-in_err-rects-in-Region : goal.returns-in_err-rects-in-Region
returns-in_err-rects-in-Region g c =
    let layer_map = layer_map_of c.args.map.now in
    let lists = c.args.layers.now.lists.items in
    let fault = c.in_err-rects-in-Region.field-0.0 in
    let asked = c.in-Region in
    let size = slice_index_or c.args.map.now.sizes asked.size.place 0 in
    handed_on Memory _ c.from_residual-in_err-rects-in-Region.result fault c.from_residual-in_err-rects-in-Region.ensures.1
    (unread (IsOnItsMetal lists) off_metal (λ rects. IsRegion layer_map (IsCoveredIn lists) asked.kind asked.number size rects.items) _ (enumerate_from 0 layer_map.terminals) fault
    c.in_err-rects-in-Region.ensures)

pub returns-in_ok-rects-in-Region : goal.returns-in_ok-rects-in-Region
returns-in_ok-rects-in-Region g c =
    let layer_map = layer_map_of c.args.map.now in
    let lists = c.args.layers.now.lists.items in
    let asked = c.in-Region in
    let rects = c.in_ok-rects-in-Region.rects in
    let listed = (rw asked.is at c.requires.there).listed.is in
    let is = subst (λ n. IsRegion layer_map (IsCoveredIn lists) asked.kind asked.number n rects.items) (sym listed) (given c.in_ok-rects-in-Region.ensures) in
    rw asked.is (passes (IsOnItsMetal lists) off_metal (IsFoundIn (Region asked.kind asked.number asked.size) layer_map (IsCoveredIn lists) c.args.units) (enumerate_from 0 layer_map.terminals) _
    (passed c.in_ok-rects-in-Region.ensures) (record { is_region = is; units = refl }))
