use Rattle.std.proofs.Common.{sym, subst}
use Rattle.library_grammar.specs.GrammarNames.{ArePoints}
use Rattle.library_grammar.proofs.laws.Points.{are_points}
use Rattle.gds_syntax.proofs.shapes.shape_of.Goals as goal

pub invariant_of-result : goal.invariant_of-result
invariant_of-result c = record {
  kind_fits = c.requires.range;
  layer_fits = c.u16_in.type_inv;
  datatype_fits = c.u16_in-2.type_inv;
  points_fit = subst ArePoints (sym c.in_ok-points_of.ensures) (are_points c.args.own.now);
}
