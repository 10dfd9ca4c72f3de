-- walks as lists
use Rattle.std.proofs.Common.{ℕ, zero, suc, ◌≡◌, refl, sym, ap, ◌∙◌, subst, List, [], ◌∷◌, length, arith, Some, slice_get}
use Rattle.geo_core.specs.declared.plane.Half.{Half}
use Rattle.fault_model.specs.FaultNames.{Neighbours, Walk}
use Rattle.paths.specs.Paths.{stay, step}
use Rattle.fault_model.specs.FaultConsequences.{IsListWalk}

some_is : (a b : Half) → Some a ≡ Some b → a ≡ b
some_is a b e = cc e

-- one half square more in front
longer : {S : Half → Type 0} {a b q : Half} → S a → Neighbours a b → IsListWalk S b q → IsListWalk S a q
longer {S} {a} {b} {q} s n w = record { halves = a ∷ w.halves; last = suc w.last; counted = ap suc w.counted; begins = refl; ends = w.ends; all_in = all; next = next } where
  all : (k : ℕ) (h : Half) → slice_get (a ∷ w.halves) k ≡ Some h → S h
  all zero h e = subst S (some_is a h e) s
  all (suc k) h e = w.all_in k h e

  next : (k : ℕ) (h g : Half) → slice_get (a ∷ w.halves) k ≡ Some h → slice_get (a ∷ w.halves) (suc k) ≡ Some g → Neighbours h g
  next zero h g e f =
      let c : b ≡ g = some_is b g (sym w.begins ∙ f) in
      subst (λ x. Neighbours x g) (some_is a h e) (subst (Neighbours a) c n)
  next (suc k) h g e f = w.next k h g e f

alone : {S : Half → Type 0} {a : Half} → S a → IsListWalk S a a
alone {S} {a} s = record { halves = a ∷ []; last = 0; counted = refl; begins = refl; ends = refl; all_in = all; next = next } where
  all : (k : ℕ) (h : Half) → slice_get (a ∷ []) k ≡ Some h → S h
  all zero h e = subst S (some_is a h e) s
  all (suc k) h e = cc e

  next : (k : ℕ) (h g : Half) → slice_get (a ∷ []) k ≡ Some h → slice_get (a ∷ []) (suc k) ≡ Some g → Neighbours h g
  next k h g e f = absurd (cc f)

pub to_list : {S : Half → Type 0} {p q : Half} → Walk S p q → IsListWalk S p q
to_list (stay h) = alone h
to_list (step h n w) = longer h n (to_list w)

from : {S : Half → Type 0} (q : Half) (xs : List Half) (p : Half) (n : ℕ) → length xs ≡ suc n → slice_get xs 0 ≡ Some p → slice_get xs n ≡ Some q → ((k : ℕ) (h : Half) → slice_get xs k ≡ Some h → S h)
    → ((k : ℕ) (h g : Half) → slice_get xs k ≡ Some h → slice_get xs (suc k) ≡ Some g → Neighbours h g) → Walk S p q
from q [] p n l e f i m = absurd (omega arith)
from {S} q (x ∷ []) p zero l e f i m = subst (Walk S p) (some_is p q (sym e ∙ f)) (stay (i 0 p e))
from q (x ∷ []) p (suc n) l e f i m = absurd (cc f)
from q (x ∷ (y ∷ ys)) p zero l e f i m = absurd (omega arith)
from q (x ∷ (y ∷ ys)) p (suc n) l e f i m = step (i 0 p e) (m 0 p y e refl) (from q (y ∷ ys) y n (omega arith) refl f (λ k. i (suc k)) (λ k. m (suc k)))

pub from_list : {S : Half → Type 0} {p q : Half} → IsListWalk S p q → Walk S p q
from_list {p = p} {q = q} w = from q w.halves p w.last w.counted w.begins w.ends w.all_in w.next
