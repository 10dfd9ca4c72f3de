use Rattle.std.proofs.Common.{ℕ, ◌+◌, ◌<◌, ◌≤◌, ◌≡◌, ◌++◌, ◌∷◌, [], List, length, sum, get_or, take, arith}
use Rattle.lists.proofs.Words.{common_steps}
use Rattle.classes.proofs.index.starts.Goals as goal

sum_more : (xs : List ℕ) (i : ℕ) → i < length xs → sum (take i xs) + get_or xs i 0 ≡ sum (take (i + 1) xs)
sum_more xs i h = grind (arith, common_steps)

sum_part : (xs : List ℕ) (i : ℕ) → i < length xs → sum (take i xs) + get_or xs i 0 ≤ sum xs
sum_part xs i h = grind (arith, common_steps)

summed_more : (degrees starts new : List ℕ) (i total : ℕ) → new ≡ starts ++ total ∷ [] → total ≡ sum (take i degrees) → length starts ≡ i
    → ((k : ℕ) → k + 1 ≤ i → get_or starts k 0 ≡ sum (take k degrees)) → (k : ℕ) → k + 1 ≤ i + 1 → get_or new k 0 ≡ sum (take k degrees)
summed_more degrees starts new i total e t l s k h = grind (arith, common_steps, s k)

pub overflow_add-total : goal.overflow_add-total
overflow_add-total c = let h = sum_part c.args.degrees.now c.loop-degree.degree-index c.loop-degree-test.true in omega arith

pub loop-degree-preserved : goal.loop-degree-preserved
loop-degree-preserved c = record {
  total = let h = sum_more c.args.degrees.now c.loop-degree.degree-index c.loop-degree-test.true in omega arith;
  one_each = grind (arith, common_steps);
  summed = summed_more c.args.degrees.now c.loop-degree.starts.items c.push.new.self.items c.loop-degree.degree-index c.loop-degree.total c.in_ok-push.ensures.items c.loop-degree.invariant.total
      c.loop-degree.invariant.one_each c.loop-degree.invariant.summed;
}

pub returns : goal.returns
returns c =
    let s = summed_more c.args.degrees.now c.loop-degree.starts.items c.push-2.new.self.items c.loop-degree.degree-index c.loop-degree.total c.in_ok-push-2.ensures.items c.loop-degree.invariant.total
    c.loop-degree.invariant.one_each c.loop-degree.invariant.summed in
    record {
      one_more = grind (arith, common_steps);
      summed = λ k h. s k (omega arith);
    }
