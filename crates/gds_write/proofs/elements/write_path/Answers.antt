use Rattle.std.proofs.Common.{w16, w32, subst}
use Rattle.lists.proofs.Words.{to_z-of_z}
use Rattle.library_grammar.specs.GrammarNames.{IsKind}
use Rattle.gds_write.proofs.WriteLaws.{appended}
use Rattle.gds_write.proofs.elements.write_path.Goals as goal

pub returns-in_ok-write_length_unless_zero-in-Path-3 : goal.returns-in_ok-write_length_unless_zero-in-Path-3
returns-in_ok-write_length_unless_zero-in-Path-3 c =
    let fit = subst IsKind c.in-Path.is c.requires in
    let a = rw (to_z-of_z w16 c.in-Path.pathtype fit.0) at c.in_ok-write_short_unless_zero-in-Path.ensures in
    let b = rw (to_z-of_z w32 c.in-Path.width fit.1) at c.in_ok-write_length_unless_zero-in-Path.ensures in
    let d = rw (to_z-of_z w32 c.in-Path.begin fit.2) at c.in_ok-write_length_unless_zero-in-Path-2.ensures in
    let e = rw (to_z-of_z w32 c.in-Path.end fit.3) at c.in_ok-write_length_unless_zero-in-Path-3.ensures in
    rw c.in-Path.is (appended _ _ _ _ _ (appended _ _ _ _ _ (appended _ _ _ _ _ a b) d) e)
