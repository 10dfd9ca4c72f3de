-- how large totals can become
use Rattle.std.proofs.Common.{ℕ, zero, suc, ◌+◌, ◌*◌, ◌≤◌, ◌<◌, ◌≡◌, refl, List, [], ◌∷◌, length, arith, get_or, min, All}
use Rattle.std.specs.Prelude.{sum_by, count_by, ◌==◌, ◌&&◌, nat_lt, if◌then◌else◌}
use Rattle.std.proofs.Math.Nat.{add-mul, mul-le-mul_right}
use Rattle.std.proofs.lemmas.Bool.Decides.{nat_tests}
use Rattle.std.proofs.lemmas.List.Elements.{All-head, All-tail, All-from_get_or}
use Rattle.std.proofs.lemmas.List.Sums.{sum_by-cons, get_or-le-sum_by}
use Rattle.tile_board.specs.declared.views.Credit.{Credit}
use Rattle.tile_board.specs.declared.views.Limits.{Limits}
use Rattle.tile_board.specs.declared.views.View.{View}
use Rattle.tile_board.specs.Counts.{times, times_credited, credited}
use Rattle.tile_board.specs.Machine.{BoardState}
use Rattle.tile_board.specs.Sound.{IsSound, once_below}
use Rattle.tile_board.proofs.CountLaws.{credited_within}
use Rattle.tile_board.proofs.JoinLaws.{once_at_most}

module _ {X : Type 0} where
  -- a sum of less is less, where each item is known to be so
  pub sum_by-within : (f g : X → ℕ) (xs : List X) → All (λ x. f x ≤ g x) xs → sum_by f xs ≤ sum_by g xs
  sum_by-within f g [] all = omega arith
  sum_by-within f g (x ∷ xs) all =
      let here : f x ≤ g x = All-head (λ y. f y ≤ g y) x xs all in
      omega (arith, here, sum_by-within f g xs (All-tail (λ y. f y ≤ g y) x xs all), sum_by-cons f x xs, sum_by-cons g x xs)

  -- a sum of sums
  pub sum_by-both : (f g h : X → ℕ) → ((x : X) → h x ≡ f x + g x) → (xs : List X) → sum_by h xs ≡ sum_by f xs + sum_by g xs
  sum_by-both f g h each [] = refl
  sum_by-both f g h each (x ∷ xs) = omega (arith, each x, sum_by-both f g h each xs, sum_by-cons f x xs, sum_by-cons g x xs, sum_by-cons h x xs)

  pub sum_by-scaled : (f : X → ℕ) (k : ℕ) (xs : List X) → sum_by (λ x. f x * k) xs ≡ sum_by f xs * k
  sum_by-scaled f k [] = omega arith
  sum_by-scaled f k (x ∷ xs) = rw (sum_by-cons f x xs) (omega (arith, sum_by-cons (λ y. f y * k) x xs, sum_by-scaled f k xs, add-mul (f x) (sum_by f xs) k))

  pub sum_by-none : (f : X → ℕ) → ((x : X) → f x ≡ 0) → (xs : List X) → sum_by f xs ≡ 0
  sum_by-none f none [] = refl
  sum_by-none f none (x ∷ xs) = omega (arith, sum_by-cons f x xs, none x, sum_by-none f none xs)

-- how many credits to the slot are for tickets below a bound
count_below : ℕ → ℕ → List Credit → ℕ
count_below slot bound credits = count_by (λ c. (c.slot == slot) && nat_lt c.ticket bound) credits

count_below-zero : (slot : ℕ) (credits : List Credit) → count_below slot 0 credits ≡ 0
unfolding count_below
count_below-zero slot credits = sum_by-none (λ c. if (c.slot == slot) && nat_lt c.ticket 0 then 1 else 0) (λ c. grind (arith, nat_tests)) credits

count_below-suc : (slot bound : ℕ) (credits : List Credit) → count_below slot (suc bound) credits ≡ count_below slot bound credits + count_by (λ c. (c.ticket == bound) && (c.slot == slot)) credits
unfolding count_below
count_below-suc slot bound credits =
    sum_by-both (λ c. if (c.slot == slot) && nat_lt c.ticket bound then 1 else 0) (λ c. if (c.ticket == bound) && (c.slot == slot) then 1 else 0)
    (λ c. if (c.slot == slot) && nat_lt c.ticket (suc bound) then 1 else 0) (λ c. grind (arith, nat_tests)) credits

-- the hands together have at most as many credits to the slot as there are tickets
counted_at_most : (slot : ℕ) (views : List View) → ((ticket : ℕ) → sum_by (λ v. times_credited v ticket slot) views ≤ 1) → (bound : ℕ) → sum_by (λ v. count_below slot bound v.credits) views ≤ bound
counted_at_most slot views once zero = omega (arith, sum_by-none (λ v. count_below slot 0 v.credits) (λ v. count_below-zero slot v.credits) views)
counted_at_most slot views once (suc bound) =
    omega (
      arith,
      counted_at_most slot views once bound,
      once bound,
      sum_by-both (λ v. count_below slot bound v.credits) (λ v. times_credited v bound slot) (λ v. count_below slot (suc bound) v.credits) (λ v. count_below-suc slot bound v.credits) views,
    )

-- so many credits, none of which is over the cap
amount_at_most : (cap bound slot : ℕ) (credits : List Credit) → All (λ c. c.amount ≤ cap) credits → All (λ c. c.ticket < bound) credits →
    sum_by (λ c. if c.slot == slot then c.amount else 0) credits ≤ count_below slot bound credits * cap
unfolding count_below
amount_at_most cap bound slot credits amounts tickets =
    let one : Credit → ℕ = λ c. if (c.slot == slot) && nat_lt c.ticket bound then 1 else 0 in
    omega (
      arith,
      sum_by-scaled one cap credits,
      sum_by-within (λ c. if c.slot == slot then c.amount else 0) (λ c. one c * cap) credits
          (λ k d small. each (get_or credits k d) (amounts k d small) (tickets k d small)),
    )
  where
    each : (c : Credit) → c.amount ≤ cap → c.ticket < bound → (if c.slot == slot then c.amount else 0) ≤ (if (c.slot == slot) && nat_lt c.ticket bound then 1 else 0) * cap
    each c small early = grind (arith, nat_tests)

-- no ticket and slot is credited twice, over all hands
pub credited_once : (limits : Limits) (s : BoardState) → IsSound limits s → (ticket slot : ℕ) → sum_by (λ v. times_credited v ticket slot) s.views ≤ 1
credited_once limits s sound ticket slot =
    omega (
      arith,
      sum_by-within (λ v. times_credited v ticket slot) (λ v. times v.tickets ticket) s.views (λ k d small. credited_within limits (get_or s.views k d) (sound.credits k d small) ticket slot),
      sound.tickets ticket,
      once_at_most (min s.next limits.tickets) ticket,
    )

below_both : (next tickets number : ℕ) → 0 < once_below (min next tickets) number → number < tickets
below_both next tickets number some = grind (arith, nat_tests)

pub added_at_most : (limits : Limits) (s : BoardState) → IsSound limits s → (slot : ℕ) → sum_by (λ v. credited v slot) s.views ≤ limits.tickets * limits.cap
added_at_most limits s sound slot =
    let counts = counted_at_most slot s.views (λ ticket. credited_once limits s sound ticket slot) limits.tickets in
    let scaled = sum_by-scaled (λ (v : View). count_below slot limits.tickets v.credits) limits.cap s.views in
    let whole : sum_by (λ v. count_below slot limits.tickets v.credits) s.views * limits.cap ≤ limits.tickets * limits.cap = mul-le-mul_right limits.cap counts in
    omega (arith, whole, scaled, sum_by-within (λ v. credited v slot) (λ v. count_below slot limits.tickets v.credits * limits.cap) s.views each)
  where
    drew_below : (k : ℕ) (d : View) → k < length s.views → (ticket : ℕ) → 0 < times (get_or s.views k d).tickets ticket → ticket < limits.tickets
    drew_below k d small ticket drew = below_both s.next limits.tickets ticket (omega (arith, drew, sound.tickets ticket, get_or-le-sum_by (λ v. times v.tickets ticket) s.views k d small))

    each : All (λ v. credited v slot ≤ count_below slot limits.tickets v.credits * limits.cap) s.views
    each k d small = let v : View = get_or s.views k d in let fits = sound.credits k d small in
        amount_at_most limits.cap limits.tickets slot v.credits fits.amounts (λ j e within. drew_below k d small (get_or v.credits j e).ticket (fits.drawn j e within))

pub total_at_most : (limits : Limits) (s : BoardState) → IsSound limits s → All (λ total. total ≤ limits.tickets * limits.cap) s.totals
total_at_most limits s sound = All-from_get_or (λ total. total ≤ limits.tickets * limits.cap) s.totals 0
    (λ slot small. omega (arith, sound.totals.sums slot (omega (arith, sound.totals.one_each)), added_at_most limits s sound slot))
