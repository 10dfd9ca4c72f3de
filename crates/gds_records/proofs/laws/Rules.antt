-- the one rule of a kind in the table of records, and what it permits
use Rattle.std.proofs.Common.{◌≡◌, ℕ, ◌%◌, refl, Some, nat_eq, Contains}
use Rattle.lists.proofs.Words.{keys_of, eqb-true, nat_eq_equiv, IsDistinct-from_count}
use Rattle.std.specs.List.{IsDistinct}
use Rattle.std.proofs.lemmas.Map.Views.{Contains-from_lookup, lookup-from_Contains}
use Rattle.gds_records.specs.declared.table.Rule.{Rule}
use Rattle.gds_records.specs.declared.table.Sizes.TheVariants.{Any, Exactly, MultipleOfEight}
use Rattle.gds_records.specs.Table.{table, rule_at, TakesForm, IsRuleFor, IsPermitted}

kinds_differ : IsDistinct nat_eq (keys_of table)
unfolding table
kinds_differ = IsDistinct-from_count nat_eq_equiv (keys_of table) refl

pub listed_at : (k : ℕ) (rule : Rule) → rule_at k ≡ Some rule → Contains table (k, rule)
listed_at k rule h = Contains-from_lookup eqb-true k rule table h

pub only_rule : (k : ℕ) (rule : Rule) → Contains table (k, rule) → rule_at k ≡ Some rule
only_rule k rule h = lookup-from_Contains nat_eq_equiv k rule table kinds_differ h

-- the rule of a kind is that of the kind and the form, or there is none
pub rule_is_for : (k f : ℕ) (rule : Rule) → rule_at k ≡ Some rule → TakesForm rule.form f → IsRuleFor k f rule
rule_is_for k f rule e takes = record { listed = listed_at k rule e; takes_form = takes }

-- what a row of the table permits
pub permits_any : (k f n : ℕ) → rule_at k ≡ Some (record { form = Some f; sizes = Any }) → IsPermitted k f n
permits_any k f n row = (record { form = Some f; sizes = Any }, rule_is_for k f (record { form = Some f; sizes = Any }) row refl, tt)

pub permits_exactly : (k f n m : ℕ) → rule_at k ≡ Some (record { form = Some f; sizes = Exactly m }) → n ≡ m → IsPermitted k f n
permits_exactly k f n m row same =
    (record { form = Some f; sizes = Exactly m }, rule_is_for k f (record { form = Some f; sizes = Exactly m }) row refl, same)

pub permits_multiple_of_eight : (k f n : ℕ) → rule_at k ≡ Some (record { form = Some f; sizes = MultipleOfEight }) → n % 8 ≡ 0 → IsPermitted k f n
permits_multiple_of_eight k f n row whole =
    (record { form = Some f; sizes = MultipleOfEight }, rule_is_for k f (record { form = Some f; sizes = MultipleOfEight }) row refl, whole)
