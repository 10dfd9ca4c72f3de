use Rattle.std.proofs.Common.{◌<◌, ◌∷◌, [], map, length, take, refl, sym, ◌∙◌, arith}
use Rattle.lists.proofs.Words.{map-append, All-append, All-from_recursion}
use Rattle.lists.proofs.Differing.{different_more}
use Rattle.lists.proofs.Mapping.{Contains-map}
use Rattle.toml.specs.View.{table_view, view}
use Rattle.layer_map.specs.Documents.{GivesTerminal}
use Rattle.layer_map.specs.MapChecks.{Holds, fault_of, terminals_are_array, terminals_are_few}
use Rattle.layer_map.specs.TerminalChecks.{TerminalHolds, is_new, place_checks}
use Rattle.layer_map.specs.Values.{metals_in, terminals_in}
use Rattle.layer_map.specs.inside.ReadTerminals.{place_of_terminal}
use Rattle.map_model.specs.declared.layers.Terminal.{Terminal}
use Rattle.map_model.specs.MapNames.{metal_layer, terminal_of}
use Rattle.first_refusal.proofs.AnswerLaws.{handed_on, out_of_memory}
use Rattle.first_refusal.proofs.JudgeLaws.{fails_first, given, goes_on, passed, stops}
use Rattle.layer_map.proofs.CutLaws.{names_within}
use Rattle.layer_map.proofs.EachLaws.{all_read, count_of, fails_second, item_stops, none_read, one_more}
use Rattle.layer_map.proofs.SeenLaws.{have_names, layer_names_differ}
use Rattle.layer_map.proofs.SpelledLaws.{zip_each}
use Rattle.layer_map.proofs.TerminalLaws.{place_seen, seen_place}
use Rattle.layer_map.proofs.terminals.read_each.Goals as goal

pub returns-in_err-items : goal.returns-in_err-items
returns-in_err-items c seen takes =
    let refused = c.in_err-items.ensures.refused in
    handed_on _ _ c.from_residual.result c.in_err-items.field-0.0 c.from_residual.ensures.1
    (rw refused.0 (fails_first (Holds (table_view c.args.document.now)) fault_of _ terminals_are_array _ refused.1))

pub returns-then-items-gt-MOST_TERMINALS : goal.returns-then-items-gt-MOST_TERMINALS
returns-then-items-gt-MOST_TERMINALS c seen takes =
    let count = count_of _ _ c.in_ok-items.ensures.items in
    let many = c.if-items-gt-MOST_TERMINALS.true in
    fails_second (Holds (table_view c.args.document.now)) fault_of _ terminals_are_array terminals_are_few _ c.in_ok-items.ensures.array (λ few. omega (arith, count, many, few))

pub loop-number-init : goal.loop-number-init
loop-number-init c seen takes =
    let count = count_of _ _ c.in_ok-items.ensures.items in
    let few = c.if-items-gt-MOST_TERMINALS.false in
    rw c.new-terminals.ensures.items
    (record { read = none_read c.in_ok-items.ensures.array (omega (arith, count, few)); places_are = c.requires.empty; differ = λ i j d below within same. absurd (omega arith) })

pub returns-in_err-terminal : goal.returns-in_err-terminal
returns-in_err-terminal c seen takes =
    let document = table_view c.args.document.now in
    let earlier = take c.loop-number.number (terminals_in document) in
    let far = c.loop-number.invariant seen takes in
    let told = c.in_err-terminal.ensures (metals_in document) earlier (have_names document seen c.args.metals.now takes) in
    handed_on _ _ c.from_residual-in_err-terminal.result c.in_err-terminal.field-0.0 c.from_residual-in_err-terminal.ensures.1
    (item_stops _ c.in_ok-items.ensures.items c.loop-number-test.true c.index-items-number.is far.read (TerminalHolds (metals_in document) earlier) (λ check h. h) (λ check h. h) (λ check. refl)
    (stops _ _ _ (λ (t : Terminal). Unit {0}) place_checks (is_new ∷ []) _ (rw c.terminal-path.ensures at told)))

pub returns-then-not-branch : goal.returns-then-not-branch
returns-then-not-branch c seen takes =
    let document = table_view c.args.document.now in
    let metals = map metal_layer c.args.metals.now in
    let earlier = take c.loop-number.number (terminals_in document) in
    let far = c.loop-number.invariant seen takes in
    let told = c.in_ok-terminal.ensures (metals_in document) earlier (have_names document seen c.args.metals.now takes) in
    let among = rw (c.if-not-branch.true, far.places_are) at c.in_ok-add_place.ensures in
    let there = place_seen metals earlier c.loop-number.terminals.items (view c.index-items-number.result) c.in_ok-terminal.terminal far.read.gives_them (given told) among in
    rw c.terminal-path.ensures
    (item_stops _ c.in_ok-items.ensures.items c.loop-number-test.true c.index-items-number.is far.read (TerminalHolds (metals_in document) earlier) (λ check h. h) (λ check h. h) (λ check. refl)
    (goes_on _ _ _ place_checks (is_new ∷ []) _ (passed told) (fails_first _ _ (λ (t : Terminal). Unit {0}) is_new [] (λ new. new there))))

pub loop-number-preserved : goal.loop-number-preserved
loop-number-preserved c seen takes =
    let document = table_view c.args.document.now in
    let metals = map metal_layer c.args.metals.now in
    let earlier = take c.loop-number.number (terminals_in document) in
    let item = view c.index-items-number.result in
    let far = c.loop-number.invariant seen takes in
    let told = c.in_ok-terminal.ensures (metals_in document) earlier (have_names document seen c.args.metals.now takes) in
    let added = rw (c.if-not-branch.false, far.places_are) at c.in_ok-add_place.ensures in
    let holds = TerminalHolds (metals_in document) earlier item in
    let new : holds is_new = λ among. added.1 (seen_place metals earlier c.loop-number.terminals.items item c.in_ok-terminal.terminal
    far.read.gives_them (given told) (layer_names_differ document seen c.args.metals.now takes) among) in
    rw c.in_ok-push.ensures.items (record {
      read = one_more _ c.in_ok-items.ensures.items c.loop-number-test.true c.index-items-number.is far.read (TerminalHolds (metals_in document) earlier) (λ check h. h) (λ check h. h)
          (λ check. refl) _ (All-append holds place_checks (is_new ∷ []) (passed told) (All-from_recursion holds (is_new ∷ []) (new, tt))) (given told);
      places_are = added.0 ∙ sym (map-append place_of_terminal c.loop-number.terminals.items (c.in_ok-terminal.terminal ∷ []));
      differ = different_more _ _ far.differ (λ among. added.1 (Contains-map place_of_terminal _ _ among));
    })

pub returns : goal.returns
returns c seen takes =
    let metals = c.args.metals.now in
    let far = c.loop-number.invariant seen takes in
    all_read _ c.in_ok-items.ensures.items c.loop-number-test.false far.read (λ array few count gives_them whole.
    rw c.from_vec.ensures (record {
      few = omega (arith, few, count);
      gives_them = gives_them;
      differ = far.differ;
      on_metals = zip_each (GivesTerminal (map metal_layer metals)) terminal_of (λ terminal. terminal.metal < length metals)
          (λ d terminal gives. names_within metals _ terminal.metal gives.metal) (terminals_in (table_view c.args.document.now)) c.loop-number.terminals.items gives_them;
    }))

pub returns-in_err-add_place : goal.returns-in_err-add_place
returns-in_err-add_place c seen takes = out_of_memory _ _ c.from_residual-in_err-add_place.result c.from_residual-in_err-add_place.ensures.1

pub returns-in_err-push : goal.returns-in_err-push
returns-in_err-push c seen takes = out_of_memory _ _ c.from_residual-in_err-push.result c.from_residual-in_err-push.ensures.1
