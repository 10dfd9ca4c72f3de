use Rattle.std.proofs.Common.{rules}
use Rattle.net_extract.proofs.ContactGroupLaws.{ordered_by_sort, kept_by_sort}
use Rattle.net_extract.proofs.contact_groups.by_islands.Goals as goal

pub returns : goal.returns
returns c = record {
  ordered = ordered_by_sort _ c.in_ok-sort_by_key.ensures.sorted (λ a r q k. search rules);
  same = rw c.in_ok-sorted.ensures.items at c.in_ok-sort_by_key.ensures.permutation;
  kept = kept_by_sort c.args.contacts.now _ (rw c.in_ok-sorted.ensures.items at c.in_ok-sort_by_key.ensures.stable) (λ a r q k. search rules);
}
