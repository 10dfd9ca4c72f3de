-- a row of zeros keeps widths of 0
use Rattle.std.proofs.Common.{refl, sym, subst, ◌≡◌}
use Rattle.cover_tree.specs.CoverTrees.{count_of}
use Rattle.cover_tree.specs.TreeRows.{cover_of, IsTreeRow}
use Rattle.cover_tree.proofs.RowLaws.{new_row, new_count, two_shifted}
use Rattle.cover_tree.proofs.tree.CoverTree.new.Goals as goal

pub invariant_of-result : goal.invariant_of-result
invariant_of-result c =
    let columns = c.in_ok-columns.columns in
    subst (λ row. IsTreeRow columns.places.items columns.height row _) (sym c.in_ok-row.ensures) (new_row columns.places.items columns.height _ _ (two_shifted columns.height columns.room) refl refl)

pub returns : goal.returns
returns c =
    let columns = c.in_ok-columns.columns in
    record {
      places = c.in_ok-columns.ensures;
      height = columns.tall;
      counts = λ node n. subst (λ row. count_of (cover_of columns.places.items columns.height row) node ≡ 0) (sym c.in_ok-row.ensures) (new_count columns.places.items columns.height _ node);
    }
