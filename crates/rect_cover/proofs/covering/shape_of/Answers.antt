use Rattle.lists.proofs.Words.{slice_get_within}
use Rattle.rect_cover.proofs.PlacedLaws.{element_read, element_within, shape_read}
use Rattle.rect_cover.proofs.covering.shape_of.Goals as goal

pub bounds-as_slice-placed : goal.bounds-as_slice-placed
bounds-as_slice-placed c =
    rw c.as_slice.ensures (slice_get_within c.args.library.now.structures c.args.placed.now.structure c.requires.is_shape.structure c.requires.is_shape.is_structure)

pub bounds-as_slice-placed-2 : goal.bounds-as_slice-placed-2
bounds-as_slice-placed-2 c =
    let structure = c.index-as_slice-placed in
    rw c.as_slice-2.ensures (element_within c.args.library.now.structures c.args.placed.now c.requires.shape c.requires.is_shape structure.result (rw c.as_slice.ensures at structure.is))

pub unreachable-requires : goal.unreachable-requires
unreachable-requires c =
    let structure = c.index-as_slice-placed in
    let element = c.index-as_slice-placed-2 in
    let is_shape = element_read c.args.library.now.structures c.args.placed.now c.requires.shape c.requires.is_shape structure.result (rw c.as_slice.ensures at structure.is)
    element.result (rw c.as_slice-2.ensures at element.is) in
    let is_reference = c.in-Reference.is in
    cc

pub returns : goal.returns
returns c =
    let structure = c.index-as_slice-placed in
    let element = c.index-as_slice-placed-2 in
    shape_read c.args.library.now.structures c.args.placed.now c.requires.shape c.requires.is_shape structure.result (rw c.as_slice.ensures at structure.is)
    element.result c.in-Shape.shape (rw c.as_slice-2.ensures at element.is) c.in-Shape.is
