-- how halves of the workers share the draws, and what they come to together
use Rattle.std.proofs.Common.{ℕ, ◌+◌, ◌-◌, ◌*◌, ◌/◌, ◌<◌, ◌≤◌, ◌≡◌, sym, ap, subst, ◌∙◌, arith, Result, Ok, Err, OnOk}
use Rattle.std.specs.Result.{result_and}
use Rattle.std.proofs.Math.Nat.{add-mul, mul-div_cancel_left}
use Rattle.tile_board.specs.declared.views.View.{View}
use Rattle.tile_board.specs.Machine.{fresh, without_draws, with_all_of}

module _ (workers half each : ℕ) (some : 0 < workers) (part : half ≤ workers) where
  -- each worker has as many draws
  share : workers * each / workers * half ≡ half * each
  share = let one : workers * each / workers ≡ each = mul-div_cancel_left each some in rw one (omega arith)

  both : (workers - half) * each + half * each ≡ workers * each
  both = sym (add-mul (workers - half) half each) ∙ ap (λ n. n * each) (let all : workers - half + half ≡ workers = omega arith in all)

  pub half_draws : (draws : ℕ) → draws ≡ workers * each / workers * half → draws ≡ half * each
  half_draws draws is = is ∙ share

  pub kept_draws : (v w : View) (draws : ℕ) → v ≡ fresh (workers * each) → draws ≡ half * each → w ≡ without_draws draws v → w ≡ fresh ((workers - half) * each)
  kept_draws v w draws before is after =
      let kept : workers * each - draws ≡ (workers - half) * each = omega (arith, both, is) in
      after ∙ ap (without_draws draws) before ∙ ap fresh kept

  -- the same of a hand that has made no draw
  pub left_draws : (v w : View) (draws : ℕ) → v.made ≡ 0 → v.left ≡ workers * each → draws ≡ half * each →
      w ≡ without_draws draws v → w.made + w.left ≡ (workers - half) * each
  left_draws v w draws none all is after =
      omega (arith, both, none, all, is, ap (λ (u : View). u.made) after, ap (λ (u : View). u.left) after)

  pub joined_draws : (v other w : View) → w ≡ with_all_of other v → v.made + v.left ≡ (workers - half) * each → other.made + other.left ≡ half * each → w.made + w.left ≡ workers * each
  joined_draws v other w joined first second =
      omega (arith, both, first, second, ap (λ (u : View). u.made) joined, ap (λ (u : View). u.left) joined)

-- so many workers have as many draws as their part of all draws
pub part_draws : (workers some each all draws : ℕ) → 1 ≤ workers → all ≡ workers * each → draws ≡ some * (all / workers) →
    draws ≡ some * each
part_draws workers some each all draws any is part =
    part ∙ ap (λ n. some * n) (ap (λ n. n / workers) is ∙ mul-div_cancel_left each any)

-- what follows where both answers are `Ok`
pub both_ok : {E P Q R : Type 0} (a b r : Result (Unit {0}) E) → r ≡ result_and a b → (P → Q → R) → OnOk a P → OnOk b Q → OnOk r R
both_ok {R} (Ok x) (Ok y) r is then p q = subst (λ z. OnOk z R) (sym is) (then p q)
both_ok {R} (Ok x) (Err e) r is then p q = subst (λ z. OnOk z R) (sym is) tt
both_ok {R} (Err e) b r is then p q = subst (λ z. OnOk z R) (sym is) tt
