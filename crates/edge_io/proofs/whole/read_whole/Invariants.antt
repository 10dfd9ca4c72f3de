use Rattle.std.proofs.Common.{◌≡◌, ◌≤◌, ◌↔◌, ◌+◌, ◌-◌, List, [], ◌∷◌, ℕ, vec_len}
use Rattle.edge_io.specs.Bytes.{Appends}
use Rattle.edge_io.proofs.ByteLaws.{HasRead}
use Rattle.edge_io.proofs.whole.read_whole.Given as goal

abbrev pub invariant-loop-buf : goal.invariant-loop-buf
invariant-loop-buf g l =
    let source = g.F.Files in
    record {
      holds : (n : List ℕ) → source.holds l.files n ≡ source.holds l.fn.files n;
      starts : Appends (source.starts l.fn.files) (source.starts l.files) (l.fn.name ∷ []);
      sure : (n : List ℕ) → source.sure l.files n ↔ source.sure l.fn.files n;
      steady : source.sure l.fn.files l.fn.name → source.steady l.files;
      started : source.started l.files;
      calm : source.faults l.files ≡ source.faults l.fn.files;
      within : vec_len l.whole ≤ l.limit + 1;
      read : HasRead (source.holds l.fn.files l.fn.name) (source.rest l.files) l.whole.items;
    }

abbrev pub decreases-loop-buf : goal.decreases-loop-buf
decreases-loop-buf g l = l.limit + 1 - vec_len l.whole
