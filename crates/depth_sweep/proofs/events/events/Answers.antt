use Rattle.std.proofs.Common.{rules, subst, List}
use Rattle.lists.proofs.Words.{IsPermutation}
use Rattle.lists.proofs.Sorting.{AllPairs-from_sort}
use Rattle.depth_sweep.specs.declared.bar.Event.{Event}
use Rattle.depth_sweep.proofs.events.events.Goals as goal

pub returns : goal.returns
returns c = record {
  all = subst (λ (events : List Event). IsPermutation events c.sort_unstable_by_key.new.self.items) c.in_ok-events.ensures c.sort_unstable_by_key.ensures.permutation;
  ordered = AllPairs-from_sort (λ (event : Event). event.row) _ c.sort_unstable_by_key.ensures.sorted (λ a r q k. search rules);
}
