-- tallies of two properties of which no cell has both, and tallies over a part of a window
use Rattle.std.proofs.Common.{ℕ, suc, ◌+◌, ◌≡◌, refl, sym, subst, List, [], ◌∷◌, arith, inl, inr, ◌⊎◌, Contains}
use Rattle.geo_core.specs.Plane.{Has}
use Rattle.geo_core.specs.declared.plane.Cell.{Cell}
use Rattle.geo_core.specs.declared.plane.Rect.{Rect}
use Rattle.fault_model.specs.FaultNames.{Tally, none, hit, miss, cells_of}
use Rattle.fault_model.proofs.CellLaws.{Contains-cells_of, once}
use Rattle.fault_model.proofs.TallyLaws.{Tally-counts, Tally-none, Tally-same_all}
use Rattle.lists.proofs.Containing.{Contains-cons_cases, Contains-head, Contains-none, Contains-tail}

-- two properties of which no cell has both
pub Tally-either : {P Q : Cell → Type 0} (cs : List Cell) (m n : ℕ) → ((c : Cell) → P c → Q c → ⊥) → Tally P cs m → Tally Q cs n → Tally (λ c. P c ⊎ Q c) cs (m + n)
Tally-either [] m n apart none none = none
Tally-either (c ∷ cs) m n apart (hit p s) (hit q t) = absurd (apart c p q)
Tally-either (c ∷ cs) m n apart (hit {n = k} p s) (miss q t) = let e : suc k + n ≡ suc (k + n) = omega arith in rw e (hit (inl p) (Tally-either cs k n apart s t))
Tally-either (c ∷ cs) m n apart (miss p s) (hit {n = k} q t) = let e : m + suc k ≡ suc (m + k) = omega arith in rw e (hit (inr q) (Tally-either cs m k apart s t))
Tally-either (c ∷ cs) m n apart (miss p s) (miss q t) = miss (λ h. elim h [ inl a ↦ p a | inr b ↦ q b ]) (Tally-either cs m n apart s t)

-- each cell of the list stands there once
abbrev IsOnce : List Cell → Type 0
IsOnce cs = (c : Cell) → Contains cs c → Tally (λ d. d ≡ c) cs 1

-- a cell that stands once in a list, and behind its first, is another one than that
behind_first : (c d : Cell) (cs : List Cell) (n : ℕ) → n ≡ 1 → Contains cs d → Tally (λ x. x ≡ d) (c ∷ cs) n → Tally (λ x. x ≡ d) cs 1 × (c ≡ d → ⊥)
behind_first c d cs n one behind (hit {n = k} e t) = let some = Tally-counts cs k d behind refl t in absurd (omega arith)
behind_first c d cs n one behind (miss never t) = (subst (Tally (λ x. x ≡ d) cs) one t, never)

others : (c : Cell) (cs : List Cell) → IsOnce (c ∷ cs) → IsOnce cs
others c cs each d h = (behind_first c d cs 1 refl h (each d (Contains-tail c cs d h))).0

-- a tally over cells that stand once each in a list, and in the window, is one over the window
module _ {P : Cell → Type 0} (window : Rect) where
  tally_of_listed : (cs : List Cell) (n : ℕ) → IsOnce cs → ((c : Cell) → Contains cs c → Has window c) → Tally P cs n → Tally (λ c. P c × Contains cs c) (cells_of window) n
  tally_of_listed [] n each within none = Tally-none (cells_of window) (λ c listed h. Contains-none h.1)
  tally_of_listed (c ∷ cs) n each within (hit {n = k} p t) =
      let first = Contains-head c cs in
      let e : 1 + k ≡ suc k = omega arith in
      let apart : (d : Cell) → d ≡ c → P d × Contains cs d → ⊥ = λ d same both. (behind_first c c cs 1 refl (subst (Contains cs) same both.1) (each c first)).1 refl in
      Tally-same_all (cells_of window) (suc k) (λ d. (
        λ h. elim h [ inl same ↦ (subst P (sym same) p, subst (Contains (c ∷ cs)) (sym same) first) | inr both ↦ (both.0, Contains-tail c cs d both.1) ],
        λ both. elim (Contains-cons_cases c cs d both.1) [ inl same ↦ inl (sym same) | inr rest ↦ inr (both.0, rest) ],
      )) (subst (Tally (λ d. (d ≡ c) ⊎ (P d × Contains cs d)) (cells_of window)) e
      (Tally-either (cells_of window) 1 k apart (once window c (within c first)) (tally_of_listed cs k (others c cs each) (λ d h. within d (Contains-tail c cs d h)) t)))
  tally_of_listed (c ∷ cs) n each within (miss never t) =
      Tally-same_all (cells_of window) n (λ d. (
        λ both. (both.0, Contains-tail c cs d both.1),
        λ both. elim (Contains-cons_cases c cs d both.1) [ inl same ↦ absurd (never (subst P (sym same) both.0)) | inr rest ↦ (both.0, rest) ],
      )) (tally_of_listed cs n (others c cs each) (λ d h. within d (Contains-tail c cs d h)) t)

  -- a tally over a part is one over the window of the cells in the part
  pub tally_of_part : (part : Rect) (n : ℕ) → ((c : Cell) → Has part c → Has window c) → Tally P (cells_of part) n → Tally (λ c. P c × Has part c) (cells_of window) n
  tally_of_part part n within t =
      let there = λ (c : Cell). Contains-cells_of part c in
      Tally-same_all (cells_of window) n (λ c. (λ both. (both.0, (there c).0 both.1), λ both. (both.0, (there c).1 both.1)))
      (tally_of_listed (cells_of part) n (λ c h. once part c ((there c).0 h)) (λ c h. within c ((there c).0 h)) t)
