-- rectangles of a list, and lists that were read
use Rattle.std.proofs.Common.{ℕ, ◌<◌, ◌≡◌, sym, ◌∙◌, ap, List, [], length, get_or, Some}
use Rattle.lists.proofs.Words.{get_or_from_slice_get, slice_get-get_or}
-- crates that do not stand on faults cite these from here
pub use Rattle.fault_model.proofs.UnionLaws.{in_union, among_union}

-- a list that was read, by its number
pub read_list : {X : Type 0} (lists : List (List X)) (number : ℕ) (list : List X) → number < length lists → list ≡ get_or lists number list → get_or lists number [] ≡ list
read_list lists number list small is = get_or_from_slice_get lists number list [] (slice_get-get_or lists number list small ∙ ap Some (sym is))
