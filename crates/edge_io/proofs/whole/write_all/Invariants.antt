use Rattle.std.proofs.Common.{◌≡◌, ◌≤◌, ◌+◌, ◌-◌, length, take}
use Rattle.edge_io.specs.Bytes.{Appends}
use Rattle.edge_io.proofs.whole.write_all.Given as goal

abbrev pub invariant-loop-at : goal.invariant-loop-at
invariant-loop-at g l =
    let device = g.S.Sink in
    record {
      within : l.at ≤ length l.bytes;
      written : Appends (device.written l.fn.sink) (device.written l.sink) (take l.at l.bytes);
      sure : device.sure l.fn.sink ≤ device.sure l.sink + l.at;
      calm : device.faults l.sink ≡ device.faults l.fn.sink;
      untouched : l.at ≡ 0 → l.sink ≡ l.fn.sink;
    }

abbrev pub decreases-loop-at : goal.decreases-loop-at
decreases-loop-at g l = length l.bytes - l.at
