use Rattle.std.proofs.Common.{arith}
use Rattle.lists.proofs.Words.{All-from_get_or}
use Rattle.lists.specs.ByteLists.{IsByte}
use Rattle.region_out.proofs.library.tell_bytes.Goals as goal

pub returns : goal.returns
returns c = All-from_get_or IsByte c.args.bytes.now 0 (λ i lt. omega (arith, c.type_inv.bytes i))
