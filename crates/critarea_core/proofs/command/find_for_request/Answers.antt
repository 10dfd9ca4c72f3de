use Rattle.run_inputs.proofs.laws.ReadingLaws.{found_short}
use Rattle.critarea_core.proofs.RunLaws.{fault_on_layout, found_on_layout, map_unfit, no_layout, no_map, starts_both, starts_map}
use Rattle.critarea_core.proofs.command.find_for_request.Goals as goal

pub returns-in_err-map-clause-found : goal.returns-in_err-map-clause-found
returns-in_err-map-clause-found g c words asked =
    no_map words (g.F.Files.holds c.args.files.now) c.args.request.now asked (g.F.Files.sure c.args.files.now) _ c.in_err-map.field-0.0 c.from_residual.result c.from_residual.ensures.1 c.in_err-map.ensures.found

pub returns-in_err-map-clause-started : goal.returns-in_err-map-clause-started
returns-in_err-map-clause-started g c words asked = starts_map words (g.F.Files.holds c.args.files.now) c.args.request.now asked c.in_err-map.ensures.starts

pub returns-in_err-query-clause-found : goal.returns-in_err-query-clause-found
returns-in_err-query-clause-found g c words asked =
    map_unfit words (g.F.Files.holds c.args.files.now) c.args.request.now asked c.in_ok-map.map c.in_ok-map.ensures.found
    (g.F.Files.sure c.args.files.now) c.in_err-query.field-0.0 c.from_residual-in_err-query.result c.from_residual-in_err-query.ensures.1 c.in_err-query.ensures.lacking

pub returns-in_err-query-clause-started : goal.returns-in_err-query-clause-started
returns-in_err-query-clause-started g c words asked = starts_map words (g.F.Files.holds c.args.files.now) c.args.request.now asked c.in_ok-map.ensures.starts

pub returns-in_err-bytes-clause-found : goal.returns-in_err-bytes-clause-found
returns-in_err-bytes-clause-found g c words asked =
    no_layout words (g.F.Files.holds c.args.files.now) c.args.request.now asked c.in_ok-map.map c.in_ok-map.ensures.found _ c.in_ok-query.ensures.query
    (g.F.Files.sure c.args.files.now) _ c.in_ok-map.ensures.sure _ c.in_ok-map.ensures.holds
    c.in_err-bytes.field-0.0 c.from_residual-in_err-bytes.result c.from_residual-in_err-bytes.ensures.1 c.in_err-bytes.ensures.found

pub returns-in_err-bytes-clause-started : goal.returns-in_err-bytes-clause-started
returns-in_err-bytes-clause-started g c words asked =
    starts_both words (g.F.Files.holds c.args.files.now) c.args.request.now asked c.in_ok-map.map c.in_ok-map.ensures.found _ c.in_ok-query.ensures.query c.in_ok-map.ensures.starts c.in_err-bytes.ensures.starts

pub find_in_layout-requires-clause-within : goal.find_in_layout-requires-clause-within
find_in_layout-requires-clause-within g c κs within = found_short _ _ _ _ _ _ c.in_ok-bytes.bytes c.in_ok-bytes.ensures.found

pub returns-in_err-find_in_layout-clause-found : goal.returns-in_err-find_in_layout-clause-found
returns-in_err-find_in_layout-clause-found g c words asked =
    fault_on_layout words (g.F.Files.holds c.args.files.now) c.args.request.now asked c.in_ok-map.map c.in_ok-map.ensures.found _ c.in_ok-query.ensures.query
    (g.F.Files.sure c.args.files.now) _ c.in_ok-map.ensures.sure _ c.in_ok-map.ensures.holds
    c.in_ok-bytes.bytes c.in_ok-bytes.ensures.found
    c.in_err-find_in_layout.field-0.0 c.from_residual-in_err-find_in_layout.result c.from_residual-in_err-find_in_layout.ensures.1 (rw c.top_of-top.ensures at c.in_err-find_in_layout.ensures)

pub returns-in_err-find_in_layout-clause-started : goal.returns-in_err-find_in_layout-clause-started
returns-in_err-find_in_layout-clause-started g c words asked =
    starts_both words (g.F.Files.holds c.args.files.now) c.args.request.now asked c.in_ok-map.map c.in_ok-map.ensures.found _ c.in_ok-query.ensures.query c.in_ok-map.ensures.starts c.in_ok-bytes.ensures.starts

pub returns-clause-found : goal.returns-clause-found
returns-clause-found g c words asked =
    found_on_layout words (g.F.Files.holds c.args.files.now) c.args.request.now asked c.in_ok-map.map c.in_ok-map.ensures.found _ c.in_ok-query.ensures.query
    (g.F.Files.sure c.args.files.now) _ c.in_ok-map.ensures.sure _ c.in_ok-map.ensures.holds
    c.in_ok-bytes.bytes c.in_ok-bytes.ensures.found c.in_ok-find_in_layout.field-0 (rw c.top_of-top.ensures at c.in_ok-find_in_layout.ensures)

pub returns-clause-started : goal.returns-clause-started
returns-clause-started g c words asked =
    starts_both words (g.F.Files.holds c.args.files.now) c.args.request.now asked c.in_ok-map.map c.in_ok-map.ensures.found _ c.in_ok-query.ensures.query c.in_ok-map.ensures.starts c.in_ok-bytes.ensures.starts
