-- What the table has of a kind, and that the constants are the table, at the kinds' numbers.
use Rattle.std.proofs.Common.{◌≡◌, ℕ, ◌%◌, ◌<◌, ◌≤◌, ◌⊎◌, inl, inr, true, List, get_or, refl, ap, subst, ◌∙◌, arith, Option, Some, None, map, nat_lt, Contains}
use Rattle.lists.proofs.Words.{range_with_len, list_all, ltb-true, get_or-map-range_with_len, All-contains, AllPass-from_list_all}
use Rattle.std.proofs.lemmas.Bool.{cases_eq}
use Rattle.gds_records.specs.declared.table.Rule.{Rule}
use Rattle.gds_records.specs.declared.table.Sizes.{Sizes}
use Rattle.gds_records.specs.declared.table.Sizes.TheVariants.{Any, Exactly, MultipleOfEight}
use Rattle.gds_records.specs.declared.table.TheConstants.{RULES}
use Rattle.gds_records.specs.Table.{table, rule_at, TakesForm, TakesSize, IsRuleFor, IsListed, IsPermitted}
use Rattle.gds_records.proofs.laws.Rules.{listed_at, only_rule, rule_is_for}

-- ---- the constants

-- the constants are the table's rules of the numbers from 0 on
constants_are_rules : RULES ≡ map rule_at (range_with_len 0 60)
unfolding table
constants_are_rules = refl

pub rule_in_constants : (n k : ℕ) (d : Option Rule) → n ≡ k → n < 60 → get_or RULES n d ≡ rule_at k
rule_in_constants n k d e h = ap (λ (rules : List (Option Rule)). get_or rules n d) constants_are_rules ∙ get_or-map-range_with_len rule_at 0 60 n k d h (omega arith)

-- the table has rules of these numbers alone
kinds_are_low : list_all (λ (row : ℕ × Rule). nat_lt row.0 60) table ≡ true
unfolding table
kinds_are_low = refl

-- ---- one rule of a kind

none_above : (k : ℕ) (o : Option Rule) → 60 ≤ k → rule_at k ≡ o → None ≡ o
none_above k None h e = refl
none_above k (Some rule) h e =
    let low = All-contains (λ (row : ℕ × Rule). nat_lt row.0 60 ≡ true) table (k, rule) (AllPass-from_list_all (λ (row : ℕ × Rule). nat_lt row.0 60) table kinds_are_low) (listed_at k rule e) in
    absurd (omega (arith, ltb-true k 60 low))

pub no_rule_above : (n k : ℕ) → n ≡ k → 60 ≤ n → None ≡ rule_at k
no_rule_above n k e h = none_above k (rule_at k) (omega arith) refl

pub rules_agree : (k : ℕ) (one other : Rule) → Contains table (k, one) → Contains table (k, other) → one ≡ other
rules_agree k one other is also = cc (only_rule k one is, only_rule k other also)

-- a record that is permitted has a size that the table says of its kind
pub size_of_permitted : (k f n : ℕ) (rule : Rule) → Contains table (k, rule) → IsPermitted k f n → TakesSize rule.sizes n
size_of_permitted k f n rule listed (other, is, takes) = subst (λ (r : Rule). TakesSize r.sizes n) (rules_agree k other rule is.listed listed) takes

-- ---- what is taken or not

takes_form_or_not : (form : Option ℕ) (f : ℕ) → TakesForm form f ⊎ (TakesForm form f → ⊥)
takes_form_or_not None f = inl tt
takes_form_or_not (Some g) f = cases_eq f g

takes_size_or_not : (sizes : Sizes) (n : ℕ) → TakesSize sizes n ⊎ (TakesSize sizes n → ⊥)
takes_size_or_not Any n = inl tt
takes_size_or_not (Exactly m) n = cases_eq n m
takes_size_or_not MultipleOfEight n = cases_eq (n % 8) 0

pub none_without_rule : (k f : ℕ) → rule_at k ≡ None → IsListed k f → ⊥
none_without_rule k f e (rule, is) = cc (only_rule k rule is.listed)

pub none_of_other_form : (k f : ℕ) (rule : Rule) → rule_at k ≡ Some rule → (TakesForm rule.form f → ⊥) → IsListed k f → ⊥
none_of_other_form k f rule e refuses (other, is) =
    let same : other ≡ rule = cc (only_rule k other is.listed) in
    refuses (subst (λ (r : Rule). TakesForm r.form f) same is.takes_form)

listed_by : (k f : ℕ) (o : Option Rule) → rule_at k ≡ o → IsListed k f ⊎ (IsListed k f → ⊥)
listed_by k f None e = inr (none_without_rule k f e)
listed_by k f (Some rule) e =
    elim (takes_form_or_not rule.form f) [
      | inl takes ↦ inl (rule, rule_is_for k f rule e takes)
      | inr refuses ↦ inr (none_of_other_form k f rule e refuses)
    ]

pub listed_or_not : (k f : ℕ) → IsListed k f ⊎ (IsListed k f → ⊥)
listed_or_not k f = listed_by k f (rule_at k) refl

pub not_permitted : (k f n : ℕ) (rule : Rule) → IsRuleFor k f rule → (TakesSize rule.sizes n → ⊥) → IsPermitted k f n → ⊥
not_permitted k f n rule is refuses permitted = refuses (size_of_permitted k f n rule is.listed permitted)

pub permitted_or_not : (k f n : ℕ) → IsPermitted k f n ⊎ (IsPermitted k f n → ⊥)
permitted_or_not k f n =
    elim (listed_or_not k f) [
      | inr none ↦ inr (λ (rule, is, takes). none (rule, is))
      | inl (rule, is) ↦
          elim (takes_size_or_not rule.sizes n) [ inl takes ↦ inl (rule, is, takes) | inr refuses ↦ inr (not_permitted k f n rule is refuses) ]
    ]
