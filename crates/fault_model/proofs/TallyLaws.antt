-- tallies: they agree, add up, and follow the truth of the property
use Rattle.std.proofs.Common.{ℕ, suc, ◌+◌, ◌≤◌, ◌≡◌, refl, sym, ap, subst, List, [], ◌∷◌, ◌++◌, length, Bool, true, false, cond, zero-add, arith, inl, inr, Contains, IsTrue, count_by, ◌↔◌}
use Rattle.lists.proofs.Words.{sum_by-cons}
use Rattle.geo_core.specs.declared.plane.Cell.{Cell}
use Rattle.fault_model.specs.FaultNames.{Tally, none, hit, miss}
use Rattle.lists.proofs.Containing.{Contains-cons_cases, Contains-head, Contains-tail}

pub Tally-unique : {P : Cell → Type 0} (cells : List Cell) (m n : ℕ) → Tally P cells m → Tally P cells n → m ≡ n
Tally-unique [] m n none none = refl
Tally-unique (c ∷ cs) m n (hit {n = k} h s) (hit {n = l} i t) = ap suc (Tally-unique cs k l s t)
Tally-unique (c ∷ cs) m n (hit h s) (miss i t) = absurd (i h)
Tally-unique (c ∷ cs) m n (miss h s) (hit i t) = absurd (h i)
Tally-unique (c ∷ cs) m n (miss h s) (miss i t) = Tally-unique cs m n s t

pub Tally-append : {P : Cell → Type 0} (cs ds : List Cell) (m n : ℕ) → Tally P cs m → Tally P ds n → Tally P (cs ++ ds) (m + n)
Tally-append [] ds m n none t = rw zero-add t
Tally-append (c ∷ cs) ds m n (hit {n = k} h s) t = let e : suc k + n ≡ suc (k + n) = omega arith in rw e (hit h (Tally-append cs ds k n s t))
Tally-append (c ∷ cs) ds m n (miss h s) t = miss h (Tally-append cs ds m n s t)

-- the tally of a property that holds of no cell of the list
pub Tally-none : {P : Cell → Type 0} (cells : List Cell) → ((c : Cell) → Contains cells c → P c → ⊥) → Tally P cells 0
Tally-none [] never = none
Tally-none (c ∷ cs) never = miss (never c (Contains-head c cs)) (Tally-none cs (λ d h. never d (Contains-tail c cs d h)))

-- two properties that hold of the same cells of the list have the same tally
pub Tally-same : {P Q : Cell → Type 0} (cells : List Cell) (n : ℕ) → ((c : Cell) → Contains cells c → P c ↔ Q c) → Tally P cells n → Tally Q cells n
Tally-same [] n same none = none
Tally-same (c ∷ cs) n same (hit {n = k} h t) = hit ((same c (Contains-head c cs)).0 h) (Tally-same cs k (λ d i. same d (Contains-tail c cs d i)) t)
Tally-same (c ∷ cs) n same (miss h t) = miss (λ q. h ((same c (Contains-head c cs)).1 q)) (Tally-same cs n (λ d i. same d (Contains-tail c cs d i)) t)

-- and so have two that hold of the same cells everywhere
pub Tally-same_all : {P Q : Cell → Type 0} (cells : List Cell) (n : ℕ) → ((c : Cell) → P c ↔ Q c) → Tally P cells n → Tally Q cells n
Tally-same_all cells n same t = Tally-same cells n (λ c i. same c) t

-- a property that holds wherever another does has no smaller tally
pub Tally-grows : {P Q : Cell → Type 0} (cells : List Cell) (m n : ℕ) → ((c : Cell) → Contains cells c → P c → Q c) → Tally P cells m → Tally Q cells n → m ≤ n
Tally-grows [] m n more none none = omega arith
Tally-grows (c ∷ cs) m n more (hit {n = k} h s) (hit {n = l} i t) = let rest = Tally-grows cs k l (λ d a. more d (Contains-tail c cs d a)) s t in omega arith
Tally-grows (c ∷ cs) m n more (hit h s) (miss i t) = absurd (i (more c (Contains-head c cs) h))
Tally-grows (c ∷ cs) m n more (miss h s) (hit {n = l} i t) = let rest = Tally-grows cs m l (λ d a. more d (Contains-tail c cs d a)) s t in omega arith
Tally-grows (c ∷ cs) m n more (miss h s) (miss i t) = Tally-grows cs m n (λ d a. more d (Contains-tail c cs d a)) s t

pub Tally-le-length : {P : Cell → Type 0} (cells : List Cell) (n : ℕ) → Tally P cells n → n ≤ length cells
Tally-le-length [] n none = omega arith
Tally-le-length (c ∷ cs) n (hit {n = k} h t) = let rest = Tally-le-length cs k t in omega arith
Tally-le-length (c ∷ cs) n (miss h t) = let rest = Tally-le-length cs n t in omega arith

module _ (test : Cell → Bool) where
  abbrev Passes : Cell → Type 0
  Passes c = IsTrue (test c)

  one_more : (c : Cell) (cs : List Cell) (n : ℕ) (b : Bool) → test c ≡ b → Tally Passes cs n → Tally Passes (c ∷ cs) (cond b 1 0 + n)
  one_more c cs n true e t = let f : 1 + n ≡ suc n = omega arith in rw f (hit e t)
  one_more c cs n false e t = rw zero-add (miss {c = c} (λ passes. absurd (cc (passes, e))) t)

  -- a test is tallied by the count of what passes
  pub Tally-test : (cells : List Cell) → Tally Passes cells (count_by test cells)
  Tally-test [] = none
  Tally-test (c ∷ cs) = subst (Tally Passes (c ∷ cs)) (sym (sum_by-cons (λ x. cond (test x) 1 0) c cs)) (one_more c cs (count_by test cs) (test c) refl (Tally-test cs))

-- where a tally is not 0, the property holds of a cell of the list
pub Tally-some : {P : Cell → Type 0} (cells : List Cell) (n : ℕ) → 1 ≤ n → Tally P cells n → (c : Cell) × Contains cells c × P c
Tally-some [] n some none = absurd (omega arith)
Tally-some (c ∷ cs) n some (hit h t) = (c, Contains-head c cs, h)
Tally-some (c ∷ cs) n some (miss h t) = let rest = Tally-some cs n some t in (rest.0, Contains-tail c cs rest.0 rest.1, rest.2)

-- where it holds of one, the tally is not 0
pub Tally-counts : {P : Cell → Type 0} (cells : List Cell) (n : ℕ) (d : Cell) → Contains cells d → P d → Tally P cells n → 1 ≤ n
Tally-counts [] n d (k, small, e) p none = absurd (omega arith)
Tally-counts (c ∷ cs) n d i p (hit h t) = omega arith
Tally-counts {P} (c ∷ cs) n d i p (miss h t) =
    elim (Contains-cons_cases c cs d i) [ inl e ↦ absurd (h (subst P (sym e) p)) | inr rest ↦ Tally-counts cs n d rest p t ]
