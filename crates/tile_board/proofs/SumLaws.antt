-- the sum over all tickets
use Rattle.std.proofs.Common.{inl, inr, ap, ℕ, zero, suc, ◌+◌, ◌*◌, ◌<◌, ◌≡◌, refl, ◌∙◌, List, [], ◌∷◌, arith, get_or, All}
use Rattle.std.specs.Prelude.{sum_by, ◌==◌, ◌&&◌, nat_lt, if◌then◌else◌}
use Rattle.std.proofs.lemmas.Bool.Decides.{nat_tests, eqb_tells}
use Rattle.std.proofs.lemmas.List.Elements.{All-head, All-tail}
use Rattle.std.proofs.lemmas.List.Sums.{sum_by-cons}
use Rattle.tile_board.specs.declared.views.Credit.{Credit}
use Rattle.tile_board.specs.declared.views.Limits.{Limits}
use Rattle.tile_board.specs.declared.views.View.{View}
use Rattle.tile_board.specs.Closing.{DrewAll, CreditsEach, sum_below}
use Rattle.tile_board.specs.Counts.{Drew, credited}
use Rattle.tile_board.specs.HandFacts.{IsHandView}
use Rattle.tile_board.proofs.BoundLaws.{sum_by-both, sum_by-none, sum_by-scaled}

-- a sum of the same
sum_by-same : {X : Type 0} (f g : X → ℕ) (xs : List X) → All (λ x. f x ≡ g x) xs → sum_by f xs ≡ sum_by g xs
sum_by-same f g [] all = refl
sum_by-same f g (x ∷ xs) all =
    let here : f x ≡ g x = All-head (λ y. f y ≡ g y) x xs all in
    omega (arith, here, sum_by-same f g xs (All-tail (λ y. f y ≡ g y) x xs all), sum_by-cons f x xs, sum_by-cons g x xs)

-- what a credit adds to the slot if it is for a ticket below a bound, and if it is for this ticket
added_below : ℕ → ℕ → Credit → ℕ
added_below slot bound c = if (c.slot == slot) && nat_lt c.ticket bound then c.amount else 0

added_at : ℕ → ℕ → Credit → ℕ
added_at slot ticket c = if (c.ticket == ticket) && (c.slot == slot) then c.amount else 0

below_none : (slot : ℕ) (c : Credit) → added_below slot 0 c ≡ 0
unfolding added_below
below_none slot c = grind (arith, nat_tests)

below_more : (slot bound : ℕ) (c : Credit) → added_below slot (suc bound) c ≡ added_below slot bound c + added_at slot bound c
unfolding added_below added_at
below_more slot bound c = grind (arith, nat_tests)

below_all : (slot bound : ℕ) (c : Credit) → c.ticket < bound → (if c.slot == slot then c.amount else 0) ≡ added_below slot bound c
unfolding added_below
below_all slot bound c small = grind (arith, nat_tests)

-- the credits for one ticket add its amount so often
at_ticket : (slot ticket : ℕ) (amount : ℕ → ℕ) (credits : List Credit) → All (λ c. c.slot ≡ slot → c.amount ≡ amount c.ticket) credits →
    sum_by (added_at slot ticket) credits ≡ sum_by (λ c. if (c.ticket == ticket) && (c.slot == slot) then 1 else 0) credits * amount ticket
unfolding added_at
at_ticket slot ticket amount credits amounts =
    let one : Credit → ℕ = λ c. if (c.ticket == ticket) && (c.slot == slot) then 1 else 0 in
    sum_by-same (added_at slot ticket) (λ c. one c * amount ticket) credits (λ k d small. same (get_or credits k d) (amounts k d small)) ∙ sum_by-scaled one (amount ticket) credits
  where
    same : (c : Credit) → (c.slot ≡ slot → c.amount ≡ amount c.ticket) →
        (if (c.ticket == ticket) && (c.slot == slot) then c.amount else 0) ≡ (if (c.ticket == ticket) && (c.slot == slot) then 1 else 0) * amount ticket
    same c right = elim (eqb_tells c.ticket ticket) [
      | inl a ↦ elim (eqb_tells c.slot slot) [
        | inl b ↦ let is : c.amount ≡ amount ticket = right b.1 ∙ ap amount a.1 in rw (a.0, b.0) (omega (arith, is))
        | inr b ↦ rw (a.0, b.0) (omega arith)
      ]
      | inr a ↦ rw a.0 (omega arith)
    ]

summed_below : (v : View) (slot : ℕ) (amount : ℕ → ℕ) (bound : ℕ) → CreditsEach v slot amount → ((ticket : ℕ) → ticket < bound → Drew v ticket)
    → sum_by (added_below slot bound) v.credits ≡ sum_below bound amount
summed_below v slot amount zero each all = sum_by-none (added_below slot zero) (below_none slot) v.credits
summed_below v slot amount (suc bound) each all =
    let here = each.each bound (all bound (omega arith)) in
    let before = summed_below v slot amount bound each (λ ticket small. all ticket (omega arith)) in
    let more = sum_by-both (added_below slot bound) (added_at slot bound) (added_below slot (suc bound)) (below_more slot bound) v.credits in
    let added : sum_by (added_at slot bound) v.credits ≡ 1 * amount bound = at_ticket slot bound amount v.credits each.amounts ∙ ap (λ n. n * amount bound) here in
    omega (arith, before, more, added)

pub summed : (limits : Limits) (v : View) (slot : ℕ) (amount : ℕ → ℕ) → IsHandView v → DrewAll limits v → CreditsEach v slot amount → credited v slot ≡ sum_below limits.tickets amount
summed limits v slot amount facts all each =
    sum_by-same (λ c. if c.slot == slot then c.amount else 0) (added_below slot limits.tickets) v.credits
    (λ k d small. let c : Credit = get_or v.credits k d in below_all slot limits.tickets c ((all c.ticket).0 (facts.drawn k d small)))
    ∙ summed_below v slot amount limits.tickets each (λ ticket small. (all ticket).1 small)
