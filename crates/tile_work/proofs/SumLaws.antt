-- what a board gives that is closed after the work: sums of the amounts of all tickets
use Rattle.std.proofs.Common.{ℕ, zero, suc, ◌<◌, ◌≡◌, refl, sym, ap, ◌∙◌, subst, arith, get_or, List, [], ◌∷◌, All, true, false, length, Bool, if◌then◌else◌}
use Rattle.std.specs.Prelude.{sum_by, count_by, Vec, Result, Ok, Err, IfOk, slice_index, ◌==◌, ◌&&◌}
use Rattle.lists.specs.Words.{Global}
use Rattle.lists.proofs.Words.{All-head, All-tail, nat_tests, sum_by-cons}
use Rattle.tile_board.specs.declared.views.Credit.{Credit}
use Rattle.tile_board.specs.declared.views.View.{View}
use Rattle.tile_board.specs.Counts.{credited}
use Rattle.tile_board.specs.declared.views.Limits.{Limits}
use Rattle.tile_board.specs.HandFacts.{IsHandView}
use Rattle.tile_board.specs.Closing.{AreSums, DrewAll, CreditsEach, sum_below}
use Rattle.tile_work.specs.Crediting.{HasCredits, IsSumOfAmounts}

-- ---- credits of which one passes a test

module _ (p : Credit → Bool) where
  abbrev weight : Credit → ℕ
  weight c = if p c then 1 else 0

  abbrev value : Credit → ℕ
  value c = if p c then c.amount else 0

  -- where none passes nothing is summed up
  none_sum : (cs : List Credit) → count_by p cs ≡ 0 → sum_by value cs ≡ 0
  none_sum [] none = refl
  none_sum (c ∷ cs) none = go (p c) refl (none_sum cs) where
    go : (t : Bool) → p c ≡ t → (count_by p cs ≡ 0 → sum_by value cs ≡ 0) → sum_by value (c ∷ cs) ≡ 0
    go true is behind = let one : weight c ≡ 1 = ap (λ (b : Bool). if b then 1 else 0) is in absurd (omega (arith, sum_by-cons weight c cs, one, none))
    go false is behind =
        let no_weight : weight c ≡ 0 = ap (λ (b : Bool). if b then 1 else 0) is in
        let no_value : value c ≡ 0 = ap (λ (b : Bool). if b then c.amount else 0) is in
        let rest : count_by p cs ≡ 0 = omega (arith, sum_by-cons weight c cs, no_weight, none) in
        omega (arith, sum_by-cons value c cs, no_value, behind rest)

  -- and none of them passes
  none_passes : (cs : List Credit) → count_by p cs ≡ 0 → (k : ℕ) (d : Credit) → k < length cs → p (get_or cs k d) ≡ true → ⊥
  none_passes [] none k d small is = absurd (omega arith)
  none_passes (c ∷ cs) none zero d small is = let one : weight c ≡ 1 = ap (λ (b : Bool). if b then 1 else 0) is in absurd (omega (arith, sum_by-cons weight c cs, one, none))
  none_passes (c ∷ cs) none (suc k) d small is = none_passes cs (omega (arith, sum_by-cons weight c cs, none)) k d (omega arith) is

  -- where one passes its amount is the sum
  one_sum : (P : Credit → Type 0) (cs : List Credit) → count_by p cs ≡ 1 → All P cs → (c : Credit) × P c × (p c ≡ true) × (sum_by value cs ≡ c.amount)
  one_sum P [] one all = absurd (omega arith)
  one_sum P (c ∷ cs) one all = go (p c) refl (λ some. one_sum P cs some (All-tail P c cs all)) where
    go : (t : Bool) → p c ≡ t → (count_by p cs ≡ 1 → (found : Credit) × P found × (p found ≡ true) × (sum_by value cs ≡ found.amount))
        → (found : Credit) × P found × (p found ≡ true) × (sum_by value (c ∷ cs) ≡ found.amount)
    go true is behind =
        let its : weight c ≡ 1 = ap (λ (b : Bool). if b then 1 else 0) is in
        let its_value : value c ≡ c.amount = ap (λ (b : Bool). if b then c.amount else 0) is in
        let rest : count_by p cs ≡ 0 = omega (arith, sum_by-cons weight c cs, its, one) in
        (c, All-head P c cs all, is, omega (arith, sum_by-cons value c cs, its_value, none_sum cs rest))
    go false is behind =
        let its : weight c ≡ 0 = ap (λ (b : Bool). if b then 1 else 0) is in
        let its_value : value c ≡ 0 = ap (λ (b : Bool). if b then c.amount else 0) is in
        let rest = behind (omega (arith, sum_by-cons weight c cs, its, one)) in
        (rest.0, rest.1, rest.2, omega (arith, sum_by-cons value c cs, its_value, rest.3))

  its_sum : (cs : List Credit) → count_by p cs ≡ 1 → (k : ℕ) (d : Credit) → k < length cs → p (get_or cs k d) ≡ true → sum_by value cs ≡ (get_or cs k d).amount
  its_sum [] one k d small is = absurd (omega arith)
  its_sum (c ∷ cs) one zero d small is =
      let its : weight c ≡ 1 = ap (λ (b : Bool). if b then 1 else 0) is in
      let its_value : value c ≡ c.amount = ap (λ (b : Bool). if b then c.amount else 0) is in
      let rest : count_by p cs ≡ 0 = omega (arith, sum_by-cons weight c cs, its, one) in
      omega (arith, sum_by-cons value c cs, its_value, none_sum cs rest)
  its_sum (c ∷ cs) one (suc k) d small is = go (p c) refl (λ some. its_sum cs some k d (omega arith) is) where
    go : (t : Bool) → p c ≡ t → (count_by p cs ≡ 1 → sum_by value cs ≡ (get_or cs k d).amount) → sum_by value (c ∷ cs) ≡ (get_or cs k d).amount
    go true first behind =
        let its : weight c ≡ 1 = ap (λ (b : Bool). if b then 1 else 0) first in
        absurd (none_passes cs (omega (arith, sum_by-cons weight c cs, its, one)) k d (omega arith) is)
    go false first behind =
        let its : weight c ≡ 0 = ap (λ (b : Bool). if b then 1 else 0) first in
        let its_value : value c ≡ 0 = ap (λ (b : Bool). if b then c.amount else 0) first in
        omega (arith, sum_by-cons value c cs, its_value, behind (omega (arith, sum_by-cons weight c cs, its, one)))

-- ---- the amount that a hand credited for a ticket to a slot

-- whether the credit is for the ticket, to the slot
abbrev is_for : ℕ → ℕ → Credit → Bool
is_for ticket slot c = (c.ticket == ticket) && (c.slot == slot)

told_ticket : (a t b s : ℕ) → ((a == t) && (b == s)) ≡ true → a ≡ t
told_ticket a t b s h = grind (arith, nat_tests)

told_slot : (a t b s : ℕ) → ((a == t) && (b == s)) ≡ true → b ≡ s
told_slot a t b s h = grind (arith, nat_tests)

itself : (a b s : ℕ) → b ≡ s → ((a == a) && (b == s)) ≡ true
itself a b s e = grind (arith, nat_tests)

-- what it credited for the ticket
abbrev amount_of : View → ℕ → ℕ → ℕ
amount_of v slot ticket = sum_by (value (is_for ticket slot)) v.credits

module _ (slots : ℕ) (IsAmount : ℕ → ℕ → ℕ → Type 0) (v : View) (facts : IsHandView v) (has : HasCredits slots IsAmount v) (slot : ℕ) (small : slot < slots) where
  -- it is the amount that the ticket has
  its_amount : (ticket : ℕ) → 0 < count_by (λ x. x == ticket) v.tickets → IsAmount ticket slot (amount_of v slot ticket)
  its_amount ticket drew =
      let p = is_for ticket slot in
      let found = one_sum p (λ c. IsAmount c.ticket c.slot c.amount) v.credits (has.each ticket slot drew small) has.amounts in
      let c = found.0 in
      subst (IsAmount ticket slot) (sym found.3)
      (subst (λ t. IsAmount t slot c.amount) (told_ticket c.ticket ticket c.slot slot found.2) (subst (λ s. IsAmount c.ticket s c.amount) (told_slot c.ticket ticket c.slot slot found.2) found.1))

  -- what the board asks of the credits to the slot
  each_credited : CreditsEach v slot (amount_of v slot)
  each_credited = record {
    each = λ ticket drew. has.each ticket slot drew small;
    amounts = λ k d inside at.
        let c = get_or v.credits k d in
        sym (its_sum (is_for c.ticket slot) v.credits (has.each c.ticket slot (facts.drawn k d inside) small) k d inside (itself c.ticket c.slot slot at));
  }

-- the totals are sums of the amounts of all tickets
pub closed_sums : {E : Type 0} (result : Result (Vec ℕ Global) E) (limits : Limits) (v : View) (slots : ℕ) (IsAmount : ℕ → ℕ → ℕ → Type 0)
    → IsHandView v → limits.slots ≡ slots → HasCredits slots IsAmount v → IfOk result (λ totals. AreSums limits v totals.items) → IfOk result (λ totals. DrewAll limits v)
    → ((slot : ℕ) (amount : ℕ → ℕ) → DrewAll limits v → CreditsEach v slot amount → credited v slot ≡ sum_below limits.tickets amount)
    → IfOk result (λ totals. (slot : ℕ) → slot < slots → IsSumOfAmounts limits.tickets IsAmount slot (slice_index totals.items slot))
closed_sums (Ok totals) limits v slots IsAmount facts same has sums all law = λ slot small. record {
  amount = amount_of v slot;
  are_amounts = λ ticket below. its_amount slots IsAmount v facts has slot small ticket ((all ticket).1 below);
  is_sum = sums slot (omega arith) ∙ law slot (amount_of v slot) all (each_credited slots IsAmount v facts has slot small);
}
closed_sums (Err e) limits v slots IsAmount facts same has sums all law = tt

-- ---- one amount at most for each ticket, one sum at most

-- sums of the same numbers are the same
same_sums : (n : ℕ) (f g : ℕ → ℕ) → ((k : ℕ) → k < n → f k ≡ g k) → sum_below n f ≡ sum_below n g
same_sums zero f g same = refl
same_sums (suc n) f g same = omega (arith, same n (omega arith), same_sums n f g (λ k small. same k (omega arith)))

pub one_sum_each : (tickets : ℕ) (IsAmount : ℕ → ℕ → ℕ → Type 0) (slot : ℕ)
    → ((ticket a b : ℕ) → ticket < tickets → IsAmount ticket slot a → IsAmount ticket slot b → a ≡ b)
    → (one other : ℕ) → IsSumOfAmounts tickets IsAmount slot one → IsSumOfAmounts tickets IsAmount slot other → one ≡ other
one_sum_each tickets IsAmount slot agree one other first second =
    first.is_sum ∙ same_sums tickets first.amount second.amount (λ t small. agree t (first.amount t) (second.amount t) small (first.are_amounts t small) (second.are_amounts t small))
    ∙ sym second.is_sum
