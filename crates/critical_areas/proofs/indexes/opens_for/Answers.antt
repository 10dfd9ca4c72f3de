use Rattle.std.proofs.Common.{List, ◌<◌, ◌∙◌, ◌↔◌, ℕ, ap, arith, length, slice_index_or, subst, sym}
use Rattle.lists.proofs.Words.{AllZip-long, IfOk-weaker, IsPermutation}
use Rattle.geo_core.specs.Plane.{Has, IsInUnion}
use Rattle.geo_core.specs.declared.plane.Cell.{Cell}
use Rattle.geo_core.specs.declared.plane.Rect.{Rect}
use Rattle.fault_model.specs.FaultNames.{IslandLists}
use Rattle.questions.specs.Questions.{side_of}
use Rattle.critical_areas.specs.declared.apart.Apart.{Apart}
use Rattle.critical_areas.specs.inside.Indexes.{AreOpensIn}
use Rattle.critical_areas.specs.inside.IslandsApart.{AreApart, IsOneOpen, none_apart}
use Rattle.critical_areas.proofs.IndexLaws.{large_read, large_within, list_read, opens_permuted}
use Rattle.critical_areas.proofs.indexes.opens_for.Goals as goal

pub bounds-apart-metal : goal.bounds-apart-metal
bounds-apart-metal c =
    let of_metal = c.requires.askable.of_metal (λ via. cc (c.in-Open.is, via)) in
    let long = AllZip-long AreApart c.args.parts.now.islands c.args.apart.now c.requires.apart in
    omega (arith, of_metal, long, c.args.parts.now.islands_each)

-- the numbers that were read are those of islands that were read
pub cells_of_islands-requires-clause-within : goal.cells_of_islands-requires-clause-within
cells_of_islands-requires-clause-within c =
    let parts = c.args.parts.now in
    let number = c.args.question.now.number in
    let of_metal = c.requires.askable.of_metal (λ via. cc (c.in-Open.is, via)) in
    let small : number < length parts.islands = omega (arith, of_metal, parts.islands_each) in
    let read = list_read c.as_slice.result.now parts.islands number c.index-as_slice-metal.result c.as_slice-islands.result.now c.as_slice.ensures (omega (arith, ap length c.as_slice.ensures, small))
    c.index-as_slice-metal.is c.as_slice-islands.ensures in
    large_within parts.islands c.args.apart.now number c.requires.apart small c.index-apart-metal.result c.index-apart-metal.is c.as_slice-large.result.now (c.as_slice-large.ensures ∙ ap (λ (both : Apart). both.large) (sym c.index-apart-metal.is))
    c.as_slice-islands.result.now read

-- so the cells are those of the metal's large islands, by the question's side
opens : (c : goal.After-drop-cells) → AreOpensIn c.args.parts.now c.args.apart.now c.args.window c.args.question.now c.in_ok-cells-in-Open.cells.items
opens c =
    let parts = c.args.parts.now in
    let apart = c.args.apart.now in
    let question = c.args.question.now in
    let number = question.number in
    let side = side_of question in
    let of_metal = c.requires.askable.of_metal (λ via. cc (c.in-Open.is, via)) in
    let small : number < length parts.islands = omega (arith, of_metal, parts.islands_each) in
    let islands = c.as_slice-islands.result.now in
    let read = list_read c.as_slice.result.now parts.islands number c.index-as_slice-metal.result islands c.as_slice.ensures (omega (arith, ap length c.as_slice.ensures, small))
    c.index-as_slice-metal.is c.as_slice-islands.ensures in
    let large = large_read parts.islands apart number c.requires.apart small c.index-apart-metal.result c.index-apart-metal.is c.as_slice-large.result.now (c.as_slice-large.ensures ∙ ap (λ (both : Apart). both.large) (sym c.index-apart-metal.is)) in
    let Opens : List IslandLists → List ℕ → ℕ → Type 0 = λ list numbers s. (d : Cell) → IsInUnion c.in_ok-cells-in-Open.cells.items d ↔ (Has c.args.window d × IsOneOpen list numbers s d) in
    subst (λ list. Opens list (slice_index_or apart number none_apart).large side) read
    (subst (λ numbers. Opens islands numbers side) large (subst (Opens islands c.as_slice-large.result.now) c.side-side.ensures c.in_ok-cells-in-Open.ensures))

pub returns-in_ok-cells-in-Open : goal.returns-in_ok-cells-in-Open
returns-in_ok-cells-in-Open c =
    λ kind.
    let cells = c.in_ok-cells-in-Open.cells.items in
    let parts = c.args.parts.now in
    let apart = c.args.apart.now in
    let question = c.args.question.now in
    IfOk-weaker c.new.result (λ (index : List Rect). IsPermutation c.deref.result.now index) (AreOpensIn parts apart c.args.window question) (λ (index : List Rect) order.
    opens_permuted parts apart c.args.window question cells index (subst (λ (rects : List Rect). IsPermutation rects index) c.deref.ensures.value order) (opens c)) c.new.ensures
