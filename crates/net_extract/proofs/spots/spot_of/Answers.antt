use Rattle.std.proofs.Common.{◌∙◌, [], length, refl, subst}
use Rattle.lists.proofs.Words.{get_or_read, slice_get_read}
use Rattle.net_extract.specs.Standing.{groups_of}
use Rattle.net_extract.specs.inside.Anchoring.{IsThere}
use Rattle.net_extract.specs.declared.metal_terminals.MetalTerminal.TheVariants.{Group}
use Rattle.net_extract.proofs.spots.spot_of.Goals as goal

pub returns-in_ok-rects-in-Group : goal.returns-in_ok-rects-in-Group
returns-in_ok-rects-in-Group c =
    let groups = c.args.groups.now in
    let cut = c.in-Group.cut in
    let number = c.in-Group.number in
    let there : IsThere groups (Group cut number) = subst (IsThere groups) c.in-Group.is c.requires in
    let group = c.index-as_slice-number.result in
    let list_is = c.as_slice.ensures ∙ get_or_read groups cut c.index-groups-cut.result there.0 c.index-groups-cut.is [] in
    let at = slice_get_read (groups_of groups cut) (length (groups_of groups cut)) number group refl there.1 (rw list_is at c.index-as_slice-number.is) in
    let rects_are = c.from_vec.ensures ∙ c.in_ok-rects-in-Group.ensures.items ∙ c.as_slice-in-Group.ensures in
    rw c.in-Group.is (group, at, rects_are)
