use Rattle.std.proofs.Common.{◌++◌, ◌∙◌, ap, map}
use Rattle.lists.proofs.Words.{on_ok_weaker}
use Rattle.net_extract.proofs.SlimLaws.{gained, merged_alike, with_label}
use Rattle.net_extract.proofs.merging.add_merged.Goals as goal

pub returns-then-part-lt2 : goal.returns-then-part-lt2
returns-then-part-lt2 c = gained c.args.part.now c.args.part.now _ _ (λ i cell. (λ h. h, λ h. h)) c.in_ok-extend_from_slice.ensures.items

pub returns : goal.returns
returns c =
    let part = c.args.part.now in
    let label = c.args.label in
    let same = merged_alike part label c.deref.result.now c.in_ok-merged.merged.items (c.deref.ensures.value ∙ c.in_ok-rects.ensures) c.requires c.in_ok-merged.ensures.same in
    on_ok_weaker _ (λ e. gained part (map (with_label label) c.in_ok-merged.merged.items) _ _ same (e ∙ ap (λ rs. c.args.slim.now.items ++ map (with_label label) rs) c.deref-2.ensures.value))
    c.add_all.ensures
