use Rattle.std.proofs.Common.{refl, ◌∙◌, w32}
use Rattle.lists.proofs.Words.{to_z-of_z}
use Rattle.region_out.specs.RegionFits.{low_fits, high_fits}
use Rattle.region_out.proofs.FormLaws.{same_cons}
use Rattle.region_out.proofs.library.outline_of.Goals as goal

pub returns : goal.returns
returns c =
    let rect = c.args.rect in
    let left = to_z-of_z w32 rect.x0 (low_fits rect.x0 rect.x1 rect.across) in
    let right = to_z-of_z w32 rect.x1 (high_fits rect.x0 rect.x1 rect.across) in
    let bottom = to_z-of_z w32 rect.y0 (low_fits rect.y0 rect.y1 rect.up) in
    let top = to_z-of_z w32 rect.y1 (high_fits rect.y0 rect.y1 rect.up) in
    same_cons c.corner.ensures (same_cons c.corner-2.ensures (same_cons c.corner-3.ensures (same_cons c.corner-4.ensures (same_cons c.corner-5.ensures refl))))
    ∙ rw (left, right, bottom, top) refl
