use Rattle.std.proofs.Common.{ℕ, List, [], ◌∷◌, ◌++◌, ◌∙◌, ap, get_or, length, refl, subst, sym, take, take_all}
use Rattle.lists.proofs.Words.{slice_get_read, take_more}
use Rattle.geo_core.specs.declared.plane.Rect.{Rect}
use Rattle.critical_areas.proofs.IslandLaws.{AreCellsOf, cells_more, no_cells}
use Rattle.critical_areas.proofs.apart.cells_of_islands.Goals as goal

pub loop-number-init : goal.loop-number-init
loop-number-init c = rw c.new-cells.ensures.items (no_cells c.args.islands.now c.args.window c.args.side)

pub loop-number-preserved : goal.loop-number-preserved
loop-number-preserved c =
    let islands = c.args.islands.now in
    let numbers = c.args.numbers.now in
    let window = c.args.window in
    let side = c.args.side in
    let i = c.loop-number.number-index in
    let number = get_or numbers i 0 in
    let island = c.index-islands-number.result in
    let old = c.loop-number.cells.items in
    let at = slice_get_read islands (length islands) number island refl (c.requires.within i 0 c.loop-number-test.true) c.index-islands-number.is in
    let gained = c.in_ok-extend_from_slice.ensures.items ∙ ap (λ (rects : List Rect). old ++ rects) c.deref.ensures.value in
    subst (λ (front : List ℕ). AreCellsOf islands front window side c.extend_from_slice.new.self.items) (sym (take_more numbers i 0 c.loop-number-test.true))
    (subst (λ (rects : List Rect). AreCellsOf islands (take i numbers ++ number ∷ []) window side rects) (sym gained)
    (cells_more islands window side (take i numbers) number island at old c.in_ok-found.found.items c.loop-number.invariant c.in_ok-found.ensures))

pub returns : goal.returns
returns c =
    subst (λ (front : List ℕ). AreCellsOf c.args.islands.now front c.args.window c.args.side c.loop-number.cells.items)
    (take_all c.loop-number.number-index c.args.numbers.now c.loop-number-test.false) c.loop-number.invariant
