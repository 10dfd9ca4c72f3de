-- where bars begin and end, and what a sweep knows between two events
use Rattle.std.specs.Prelude.{ℕ, ◌+◌, ◌^◌, ◌<◌, ◌≤◌, ◌≡◌, ◌≤ℤ◌, Bool, true, false, cond, List, [], ◌∷◌, flat_map, sum_by, AllPairs}
use Rattle.std.specs.List.Sorted.{IsPermutation}
use Rattle.cover_tree.specs.CoverTrees.{Cover, IsPut, IsTaken}
use Rattle.depth_sweep.specs.declared.bar.Bar.{Bar}
use Rattle.depth_sweep.specs.declared.bar.Event.{Event}

-- ---- events

abbrev pub begin_of : Bar → Event
begin_of bar = record { row = bar.bottom; begins = true; low = bar.low; high = bar.high; some = bar.across }

abbrev pub end_of : Bar → Event
end_of bar = record { row = bar.top; begins = false; low = bar.low; high = bar.high; some = bar.across }

-- the two events of a bar
abbrev pub ends_of : Bar → List Event
ends_of bar = begin_of bar ∷ end_of bar ∷ []

-- the events of the bars, in the order of their rows
pub record AreEventsOf (bars : List Bar) (events : List Event) : Type 0 where
  pub all : IsPermutation (flat_map ends_of bars) events
  pub ordered : AllPairs (λ one later. one.row ≤ℤ later.row) events

-- ---- what an event changes

-- a count may grow by one, or fall by one
abbrev pub MayHappen : Bool → ℕ → Type 0
MayHappen true count = count + 1 < 2 ^ 64
MayHappen false count = 1 ≤ count

-- the columns are put, or taken
abbrev pub IsPutOrTaken : Bool → ℕ → ℕ → Cover → Cover → Type 0
IsPutOrTaken true low high old new = IsPut low high old new
IsPutOrTaken false low high old new = IsTaken low high old new

-- the event's columns are
abbrev pub IsAfter : Event → Cover → Cover → Type 0
IsAfter event = IsPutOrTaken event.begins event.low event.high

-- ---- what is still to come

-- a weight of the event's columns where it begins a bar, and where it ends one
abbrev pub put_weight : (ℕ → ℕ → ℕ) → Event → ℕ
put_weight weight event = cond event.begins (weight event.low event.high) 0

abbrev pub take_weight : (ℕ → ℕ → ℕ) → Event → ℕ
take_weight weight event = cond event.begins 0 (weight event.low event.high)

-- the value, and what the events still put, is what they still take
pub record IsBalanced (weight : ℕ → ℕ → ℕ) (value : ℕ) (events : List Event) : Type 0 where
  pub balance : value + sum_by (put_weight weight) events ≡ sum_by (take_weight weight) events
