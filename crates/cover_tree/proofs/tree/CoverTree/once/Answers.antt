-- the widths of the root are those of the columns
use Rattle.std.proofs.Common.{rules, ap, ◌∙◌, pos, FitsSigned, w64}
use Rattle.lists.proofs.Words.{to_z-of_z}
use Rattle.cover_tree.specs.CoverTrees.{width_of_depth}
use Rattle.cover_tree.proofs.RowLaws.{width_is_whole}
use Rattle.cover_tree.proofs.tree.CoverTree.once.Goals as goal

pub returns : goal.returns
returns c =
    let tree = c.self.inside in
    let fits : FitsSigned w64 tree.widths.once = search rules in
    let whole = width_is_whole tree.columns.places.items tree.columns.height tree.row 1 tree.columns.tall.enough in
    to_z-of_z w64 tree.widths.once fits ∙ c.self.invariant.once ∙ ap pos whole ∙ ap (λ cover. pos (width_of_depth 1 cover)) c.self.view_is
