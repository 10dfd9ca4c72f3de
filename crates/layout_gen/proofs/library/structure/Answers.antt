use Rattle.std.proofs.Common.{refl, subst, sym, arith}
use Rattle.lists.proofs.Words.{All-from_get_or}
use Rattle.lists.specs.ByteLists.{AreBytes, IsByte}
use Rattle.layout_gen.proofs.library.structure.Goals as goal

pub invariant_of-result : goal.invariant_of-result
invariant_of-result c =
    record { name_fits = subst AreBytes (sym c.in_ok-name.ensures) (All-from_get_or IsByte c.args.bytes.now 0 (λ i within. omega (arith, c.type_inv.bytes i))) }

pub returns : goal.returns
returns c = record { at = refl; name = c.in_ok-name.ensures; elements = c.from_vec.ensures }
