-- what is found on a subject, where its terminals are on their metals, and the first terminal that is not
use Rattle.std.proofs.Common.{ℕ, ◌≡◌, ◌≢◌, ◌↔◌, List, get_or, refl, sym, ap, subst, ◌∙◌, Ok, Err, All}
use Rattle.lists.proofs.Words.{enumerate_from}
use Rattle.first_refusal.specs.Answers.{Answers, gives, refuses, no_memory}
use Rattle.first_refusal.specs.Checks.{Checks, all_hold, one_fails}
use Rattle.first_refusal.specs.Outcomes.{Outcome, refused}
use Rattle.geo_core.specs.Plane.{IsCoveredIn}
use Rattle.geo_core.specs.declared.plane.Cell.{Cell}
use Rattle.geo_core.specs.declared.plane.Rect.{Rect}
use Rattle.map_model.specs.MapNames.{LayerMap}
use Rattle.map_model.specs.declared.layer_lists.Layers.{Layers}
use Rattle.net_extract.specs.Extraction.{IsOnItsMetal, off_metal}
use Rattle.net_extract.specs.declared.fault.NetFault.{NetFault}
use Rattle.net_extract.specs.declared.fault.NetFault.TheVariants.{Memory}
use Rattle.questions.specs.declared.row.Row.{Row}
use Rattle.area_parts.specs.Rows.{AreRows}
use Rattle.area_parts.proofs.laws.AlikeLaws.{rows_follow}
use Rattle.layout_pairs.proofs.laws.AlikeLaws.{pairs_follow}
use Rattle.layout_probe.proofs.laws.AlikeLaws.{probes_follow}
use Rattle.layout_regions.proofs.laws.AlikeLaws.{region_follows}
use Rattle.pair_report.specs.PairRows.{pair_rows}
use Rattle.run_inputs.specs.Coverage.{IsCoveredOn}
use Rattle.run_inputs.specs.StageAnswers.{Analyses, gives_thing}
use Rattle.run_inputs.specs.Layout.{Subject, IsTerminalOn, TerminalsComeTo}
use Rattle.run_inputs.specs.LayoutReaders.{AreLayersFor}
use Rattle.run_inputs.specs.declared.layout_fault.LayoutFault.TheVariants.{Net}
use Rattle.run_inputs.specs.declared.query.Query.{Query}
use Rattle.run_inputs.specs.declared.query.Query.TheVariants.{Report as for_report, Pairs as for_pairs, Probe as for_probe, Region as for_region}
use Rattle.critarea_core.specs.Outputs.{AreRowsOn}
use Rattle.critarea_core.specs.inside.Finding.{HasFound, IsFoundIn}
use Rattle.critarea_core.specs.declared.found.Found.{Found}
use Rattle.critarea_core.specs.declared.found.Found.TheVariants.{Report as Rows, Pairs as Tables, Probe as Probed, Region as Cells}

-- what was found of layers is found of those that cover alike, in a layout of the same units
module _ (layer_map : LayerMap) (covers other : ℕ → Cell → Type 0) (same : (number : ℕ) (c : Cell) → covers number c ↔ other number c) (units others : List ℕ) (alike : units ≡ others) where
  found_follows : (query : Query) (found : Found) → IsFoundIn query layer_map covers units found → IsFoundIn query layer_map other others found
  found_follows for_report (Rows report) is = rows_follow layer_map covers other same report.rows.items is
  found_follows (for_pairs size) (Tables tables) is = pairs_follow layer_map covers other same size.size (pair_rows tables) is
  found_follows (for_probe cell) (Probed metals) is = probes_follow covers other same layer_map cell metals.items is
  found_follows (for_region kind number size) (Cells region) is =
      record { is_region = region_follows layer_map covers other same kind number size.size region.rects.items is.is_region; units = is.units ∙ alike }
  found_follows query found is = absurd is

module _ (layer_map : LayerMap) {units : List ℕ} (layers : Layers) (subject : Subject) (laid : AreLayersFor layer_map units subject layers) where
  abbrev lists : List (List Rect)
  lists = layers.lists.items

  abbrev numbered_terminals : List (ℕ × (ℕ × Cell))
  numbered_terminals = enumerate_from 0 subject.layer_map.terminals

  -- terminals that are on their metals by the lists are so by the shapes
  terminals_on : (numbered : List (ℕ × (ℕ × Cell))) → All (IsOnItsMetal lists) numbered → All (IsTerminalOn subject) numbered
  terminals_on numbered all k d small = let one = get_or numbered k d in (laid.layers.covers one.1.0 one.1.1).0 (all k d small)

  -- what the lists come to with this map, where terminals are on their metals, and else the fault of the first that is not
  abbrev pub ComeTo : {T : Type 0} → (LayerMap → T → Type 0) → LayerMap → Outcome T NetFault → Type 0
  ComeTo Good m = Checks (IsOnItsMetal lists) (enumerate_from 0 m.terminals) off_metal (Good m)

  module _ {T : Type 0} (Good : LayerMap → T → Type 0) where
    by_thing : (IsFor : Subject → T → Type 0) (thing : T) → (Good subject.layer_map thing → IsFor subject thing) → Answers Memory (ComeTo Good subject.layer_map) (Ok thing)
        → Analyses (TerminalsComeTo subject) IsFor (Ok thing)
    by_thing IsFor thing as_good (gives (all_hold all is)) = gives (gives_thing {v = subject} (all_hold (terminals_on numbered_terminals all) refl) (as_good is))

    -- what is good over the lists is so for the subject whose layers these are
    pub thing_found : (IsFor : Subject → T → Type 0) (thing : T) → (Good subject.layer_map thing → IsFor subject thing) → Answers Memory (ComeTo Good layer_map) (Ok thing)
        → Analyses (TerminalsComeTo subject) IsFor (Ok thing)
    thing_found IsFor thing as_good answer = by_thing IsFor thing as_good (subst (λ m. Answers Memory (ComeTo Good m) (Ok thing)) (sym laid.of_map) answer)

    by_fault : (fault : NetFault) → Answers Memory (ComeTo Good subject.layer_map) (Err fault) → fault ≢ Memory → TerminalsComeTo subject (refused (Net fault))
    by_fault fault (refuses (one_fails q)) known = one_fails (record {
      check = q.check;
      is_first = record {
        before = q.is_first.before;
        after = q.is_first.after;
        parts = q.is_first.parts;
        all_before = terminals_on q.is_first.before q.is_first.all_before;
        fails = λ on. q.is_first.fails ((laid.layers.covers q.check.1.0 q.check.1.1).1 on);
      };
      is_its_refusal = ap (λ f. Net f) q.is_its_refusal;
    })
    by_fault fault no_memory known = absurd (known refl)

    -- and the first terminal that is not on its metal is the same
    pub terminal_off : (fault : NetFault) → Answers Memory (ComeTo Good layer_map) (Err fault) → fault ≢ Memory → TerminalsComeTo subject (refused (Net fault))
    terminal_off fault answer known = by_fault fault (subst (λ m. Answers Memory (ComeTo Good m) (Err fault)) (sym laid.of_map) answer) known

  -- what is asked of the subject is what was found over the lists
  pub as_found : (query : Query) (found : Found) → IsFoundIn query subject.layer_map (IsCoveredIn lists) units found → HasFound query subject found
  as_found query found is =
      found_follows subject.layer_map (IsCoveredIn lists) (IsCoveredOn subject.layer_map subject.routes) laid.layers.covers units subject.units (sym laid.of_units) query found is

  -- and so are the rows
  pub as_rows : (rows : List Row) → AreRows subject.layer_map (IsCoveredIn lists) rows → AreRowsOn subject rows
  as_rows rows are = rows_follow subject.layer_map (IsCoveredIn lists) (IsCoveredOn subject.layer_map subject.routes) laid.layers.covers rows are
