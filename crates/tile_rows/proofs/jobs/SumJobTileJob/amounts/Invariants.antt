use Rattle.std.proofs.Common.{ℕ, ◌+◌, ◌<◌, ◌≡◌, length, slice_index}
use Rattle.tile_rows.proofs.jobs.SumJobTileJob.amounts.Given as goal

-- the list holds the amounts of the slots so far
abbrev pub invariant-loop-slot : goal.invariant-loop-slot
invariant-loop-slot l = record {
  one_each : length l.into.items ≡ l.slot;
  in_order : (slot : ℕ) → slot < l.slot → slice_index l.into.items slot ≡ l.ticket + slot;
}
