use Rattle.std.proofs.Common.{subst}
use Rattle.lists.proofs.Words.{IsPermutation}
use Rattle.std.proofs.lemmas.List.Sorted.{IsPermutation-trans}
use Rattle.near_index.proofs.IndexLaws.{all_of}
use Rattle.near_index.proofs.index.NearIndex.new.Goals as goal

pub returns : goal.returns
returns g c =
    let first = subst (λ xs. IsPermutation xs c.sort_unstable_by_key.new.self.items) c.in_ok-sorted.ensures.items c.sort_unstable_by_key.ensures.permutation in
    let second = subst (λ xs. IsPermutation xs (all_of c.in_ok-bands.bands.items)) c.as_slice.ensures.value c.in_ok-bands.ensures in
    IsPermutation-trans c.args.pieces.now c.sort_unstable_by_key.new.self.items (all_of c.in_ok-bands.bands.items) first second
