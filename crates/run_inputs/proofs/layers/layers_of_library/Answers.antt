use Rattle.std.proofs.Common.{◌∙◌, ap, length, refl, sym, subst, option_copied}
use Rattle.lists.proofs.Words.{AllZip, zip, AllZip-long}
use Rattle.first_refusal.specs.Answers.{gives}
use Rattle.first_refusal.specs.Checks.{all_hold, one_fails}
use Rattle.first_refusal.specs.Outcomes.{goes_on, stops, kept, retold}
use Rattle.first_refusal.proofs.AnswerLaws.{out_of_memory}
use Rattle.flatten.specs.declared.fault.PlaceFault.TheVariants as place
use Rattle.map_model.specs.MapNames.{layer_map_of}
use Rattle.rect_cover.specs.Coverings.{IsFirstCoverFault}
use Rattle.rect_cover.specs.declared.fault.CoverFault.TheVariants as cover
use Rattle.rect_cover.proofs.laws.ListedCovers.{first_fault, lists_given}
use Rattle.rect_cover.proofs.laws.RouteEnds.{placed_along, well_placed}
use Rattle.run_inputs.specs.StageAnswers.{gives_thing}
use Rattle.run_inputs.specs.Layout.{Subject, LibraryComesTo}
use Rattle.run_inputs.specs.LayoutReaders.{AreLayersFor, AreListsUpTo}
use Rattle.run_inputs.specs.declared.layout_fault.LayoutFault.TheVariants.{Place, Cover}
use Rattle.run_inputs.proofs.CoverReading.{HasCover, all_covered, covered_along, first_refused}
use Rattle.run_inputs.proofs.laws.LayerCounts.{layer_count}
use Rattle.run_inputs.proofs.LayerLaws.{are_layers}
use Rattle.run_inputs.proofs.laws.ReadingLaws.{not_read}
use Rattle.run_inputs.proofs.layers.layers_of_library.Goals as goal

pub returns-in_err-placed : goal.returns-in_err-placed
returns-in_err-placed g c =
    let layer_map = layer_map_of c.args.map.now in
    let why = c.in_err-placed.field-0.0 in
    not_read _ (λ fault. fault) (LibraryComesTo layer_map (option_copied c.args.top) c.args.library) (AreLayersFor layer_map c.args.library.units) place.Memory (λ fault. Place fault) why
    c.from_residual.result c.from_residual.ensures.1 (λ known. stops (retold (c.in_err-placed.ensures.refused known)))

pub cover_all-requires-clause-placed : goal.cover_all-requires-clause-placed
cover_all-requires-clause-placed g c κs within =
    let library = c.args.library in
    let are = c.in_ok-placed.ensures.placed in
    let layer_map = layer_map_of c.args.map.now in
    let along = placed_along library.structures layer_map (option_copied c.args.top) c.in_ok-placed.placed.items are in
    rw c.as_slice.ensures.value (well_placed library.structures layer_map c.requires.pointed are.routes c.in_ok-placed.placed.items along)

pub returns-in_err-covers : goal.returns-in_err-covers
returns-in_err-covers g c =
    let library = c.args.library in
    let are = c.in_ok-placed.ensures.placed in
    let placed = c.in_ok-placed.placed.items in
    let layer_map = layer_map_of c.args.map.now in
    let along = placed_along library.structures layer_map (option_copied c.args.top) placed are in
    let why = c.in_err-covers.field-0.0 in
    not_read _ (λ fault. fault) (LibraryComesTo layer_map (option_copied c.args.top) library) (AreLayersFor layer_map library.units) cover.Memory (λ fault. Cover fault) why c.from_residual-in_err-covers.result
    c.from_residual-in_err-covers.ensures.1 (λ known. goes_on {v = are.routes} (kept are.placing) (one_fails
    (first_refused library.structures layer_map are.routes placed why along (subst (λ ps. IsFirstCoverFault library.structures ps why) c.as_slice.ensures.value
    (first_fault _ _ _ c.in_err-covers.ensures known)))))

pub layers_of-requires : goal.layers_of-requires
layers_of-requires g c =
    ap length c.as_slice-3.ensures.value ∙ AllZip-long _ _ _ (lists_given _ _ _ c.in_ok-covers.ensures) ∙ ap length c.as_slice.ensures.value ∙ sym (ap length c.as_slice-2.ensures.value)

pub returns-in_err-layers_of : goal.returns-in_err-layers_of
returns-in_err-layers_of g c = out_of_memory _ _ c.from_residual-in_err-layers_of.result c.from_residual-in_err-layers_of.ensures.1

pub returns : goal.returns
returns g c =
    let library = c.args.library in
    let are = c.in_ok-placed.ensures.placed in
    let placed = c.in_ok-placed.placed.items in
    let lists = c.in_ok-covers.covers.items in
    let given = c.args.map.now in
    let layer_map = layer_map_of given in
    let wanted = option_copied c.args.top in
    let along = placed_along library.structures layer_map wanted placed are in
    let covers = subst (λ ps. AllZip (HasCover library.structures layer_map) ps lists) c.as_slice.ensures.value (lists_given _ _ _ c.in_ok-covers.ensures) in
    let covered = covered_along library.structures layer_map are.routes placed lists along covers in
    let layers = c.in_ok-layers_of.field-0.lists.items in
    let made_of = subst (λ ps. AreListsUpTo (zip ps c.as_slice-3.result.now) c.count_of.result layers) c.as_slice-2.ensures.value c.in_ok-layers_of.ensures in
    let made_from = subst (λ ls. AreListsUpTo (zip placed ls) c.count_of.result layers) c.as_slice-3.ensures.value made_of in
    let made = subst (λ n. AreListsUpTo (zip placed lists) n layers) (c.count_of.ensures ∙ sym (layer_count given.metals given.cuts)) made_from in
    let subject : Subject = record { layer_map = layer_map; units = library.units; routes = are.routes } in
    let all = all_covered library.structures layer_map are.routes placed lists along covers in
    gives (gives_thing {v = subject} (goes_on {v = are.routes} (kept are.placing) (all_hold all refl))
    (record { of_map = refl; of_units = refl; layers = are_layers subject given.pairs_differ (zip placed lists) covered layers made }))
