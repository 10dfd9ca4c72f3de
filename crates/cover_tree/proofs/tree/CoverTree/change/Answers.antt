-- a change of the root is one of the whole tree
use Rattle.std.proofs.Common.{◌*◌, ◌%◌, ◌^◌, refl, sym, ap, subst, arith}
use Rattle.cover_tree.specs.CoverTrees.{Cover, count_of}
use Rattle.cover_tree.specs.TreeNodes.{TreeNode, IsNodeOf, times_in_cut}
use Rattle.cover_tree.specs.TreeParts.{MayChange, IsChangedBy}
use Rattle.cover_tree.specs.TreeRows.{cover_of}
use Rattle.cover_tree.specs.declared.parts.Part.{Part}
use Rattle.cover_tree.proofs.RowLaws.{root_is, root_kept, root_may, root_counts, root_row, one_shifted}
use Rattle.cover_tree.proofs.tree.CoverTree.change.Goals as goal

pub below-widths-requires : goal.below-widths-requires
below-widths-requires g c =
    let tree = c.self.inside in let edit = c.args.edit in
    let places = tree.columns.places.items in let height = tree.columns.height in
    let size = one_shifted height tree.columns.room in
    let root : Part = record { number = 1; level = height; from = 0; size = 1 * 2 ^ height % 2 ^ 64 } in
    let may = subst (λ (cover : Cover). (node : TreeNode) → IsNodeOf cover.height node → MayChange edit.change (times_in_cut cover.height edit.low edit.high node) (count_of cover node))
    (sym c.self.view_is) c.requires in
    record {
      row = c.self.invariant.length;
      part = root_is height root refl refl refl size;
      kept = root_kept places height edit.change edit.low edit.high root refl refl refl size tree.row tree.widths c.self.invariant;
      may = root_may places height edit.change edit.low edit.high root refl refl refl size tree.row may;
      highest = λ column less under. absurd (omega arith);
    }

pub invariant_of-self : goal.invariant_of-self
invariant_of-self g c =
    let tree = c.self.inside in let edit = c.args.edit in
    let places = tree.columns.places.items in let height = tree.columns.height in
    let size = one_shifted height tree.columns.room in
    let root : Part = record { number = 1; level = height; from = 0; size = 1 * 2 ^ height % 2 ^ 64 } in
    let widths = c.below-widths.ensures.widths in
    root_row places height edit.change edit.low edit.high root refl refl refl size tree.row
    c.below-widths.new.row c.below-widths.result c.self.invariant.length c.below-widths.ensures.changed widths.once widths.twice

pub returns : goal.returns
returns g c =
    let tree = c.self.inside in let edit = c.args.edit in
    let places = tree.columns.places.items in let height = tree.columns.height in
    let size = one_shifted height tree.columns.room in
    let root : Part = record { number = 1; level = height; from = 0; size = 1 * 2 ^ height % 2 ^ 64 } in
    let counts = root_counts places height edit.change edit.low edit.high root refl refl refl size tree.row c.below-widths.new.row c.below-widths.ensures.changed in
    let new = cover_of places height c.below-widths.new.row in
    let same_height = ap (λ (cover : Cover). cover.height) c.self.view_is in
    let any = c.below-widths.ensures.any in
    record {
      keeps = record { places = ap (λ (cover : Cover). cover.places) c.self.view_is; height = same_height };
      counts = subst (λ (cover : Cover). (node : TreeNode) → IsNodeOf cover.height node → IsChangedBy edit.change (times_in_cut cover.height edit.low edit.high node) (count_of cover node)
          (count_of new node)) c.self.view_is counts;
      steps = omega (arith, any, same_height);
      some_steps = c.below-widths.ensures.some;
    }
