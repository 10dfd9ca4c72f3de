use Rattle.std.proofs.Common.{◌≡◌, ◌++◌, ◌∷◌, [], List, ap, ◌∙◌}
use Rattle.lists.proofs.Words.{IfOk-weaker}
use Rattle.geo_core.specs.declared.plane.Point.{Point}
use Rattle.library_grammar.specs.GrammarNames.{spelling}
use Rattle.gds_write.specs.Bodies.{counts_entry, points_entry}
use Rattle.gds_write.specs.Written.{array_points}
use Rattle.gds_write.proofs.WriteLaws.{two_written}
use Rattle.gds_write.proofs.elements.write_placing.Goals as goal

pub returns-in_ok-write_counts-in-Some : goal.returns-in_ok-write_counts-in-Some
returns-in_ok-write_counts-in-Some c =
    let origin = c.args.origin in
    let lattice = c.in-Some.lattice in
    let columns = c.moved_by-by_columns.ensures in
    let rows = c.moved_by-by_rows.ensures in
    let points : ◌≡◌ {A = List Point} (origin ∷ c.moved_by-by_columns.result ∷ c.moved_by-by_rows.result ∷ []) (array_points origin lattice) = λ i. origin ∷ columns i ∷ rows i ∷ [] in
    rw c.in-Some.is
    (IfOk-weaker c.write_points-in-Some.result _ _
    (λ (u : Unit {0}) h.
    two_written c.args.out.now.items c.write_counts.new.out.items c.write_points-in-Some.new.out.items (counts_entry lattice.columns lattice.rows) (points_entry (array_points origin lattice))
    c.in_ok-write_counts-in-Some.ensures (h ∙ ap (λ (ps : List Point). c.write_counts.new.out.items ++ spelling (points_entry ps)) points))
    c.write_points-in-Some.ensures)
