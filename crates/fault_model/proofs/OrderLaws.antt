-- two lists that have each cell equally often have the same tally
use Rattle.std.proofs.Common.{ℕ, suc, ◌≤◌, ◌≡◌, refl, subst, List, [], ◌∷◌, arith, inl, inr, Contains}
use Rattle.geo_core.specs.declared.plane.Cell.{Cell}
use Rattle.fault_model.specs.FaultNames.{Tally, none, hit, miss}
use Rattle.geo_core.proofs.RectLaws.{cells_equal_or_not}
use Rattle.fault_model.proofs.TallyLaws.{Tally-append, Tally-counts, Tally-grows, Tally-le-length, Tally-none, Tally-same, Tally-some, Tally-test, Tally-unique}
use Rattle.lists.proofs.Containing.{Contains-cons_cases, Contains-head}

abbrev Is : Cell → Cell → Type 0
Is c = λ d. d ≡ c

-- how often a list has a cell
times : (c : Cell) (ds : List Cell) → (k : ℕ) × Tally (Is c) ds k
times c [] = (0, none)
times c (d ∷ ds) = let rest = times c ds in elim (cells_equal_or_not d c) [ inl e ↦ (suc rest.0, hit e rest.1) | inr e ↦ (rest.0, miss e rest.1) ]

-- the second list is the first with `c` put in somewhere
data IsInserted (c : Cell) : List Cell → List Cell → Type 0 where
  front : {ds : List Cell} → IsInserted c ds (c ∷ ds)
  later : {d : Cell} {ds es : List Cell} → IsInserted c ds es → IsInserted c (d ∷ ds) (d ∷ es)

abbrev Taken : Cell → List Cell → Type 0
Taken c es = (ds : List Cell) × IsInserted c ds es

taken : (c : Cell) (es : List Cell) → Contains es c → Taken c es
taken c [] (k, small, e) = absurd (omega arith)
taken c (d ∷ es) h = elim (Contains-cons_cases d es c h) [
  | inl e ↦ subst (λ x. Taken x (d ∷ es)) e (es, front)
  | inr rest ↦ let t = taken c es rest in (d ∷ t.0, later t.1)
]

counted : {P : Cell → Type 0} {c : Cell} {ds es : List Cell} (n : ℕ) → IsInserted c ds es → P c → Tally P ds n → Tally P es (suc n)
counted n front p t = hit p t
counted n (later i) p (hit {n = k} h t) = hit h (counted k i p t)
counted n (later i) p (miss h t) = miss h (counted n i p t)

passed : {P : Cell → Type 0} {c : Cell} {ds es : List Cell} (n : ℕ) → IsInserted c ds es → (P c → ⊥) → Tally P ds n → Tally P es n
passed n front p t = miss p t
passed n (later i) p (hit {n = k} h t) = hit h (passed k i p t)
passed n (later i) p (miss h t) = miss h (passed n i p t)

-- the second list has each cell as often as the first
abbrev pub HasAsOften : List Cell → List Cell → Type 0
HasAsOften cs ds = (c : Cell) (k : ℕ) → Tally (λ d. d ≡ c) cs k → Tally (λ d. d ≡ c) ds k

-- the first cell of the one list, taken out of the other
out : (c : Cell) (cs ds : List Cell) → HasAsOften (c ∷ cs) ds → Taken c ds
out c cs ds same =
    let k = times c cs in
    let some = Tally-some ds (suc k.0) (omega arith) (same c (suc k.0) (hit refl k.1)) in
    taken c ds (subst (Contains ds) some.2 some.1)

rest_as_often : (c : Cell) (cs ds es : List Cell) → IsInserted c ds es → HasAsOften (c ∷ cs) es → HasAsOften cs ds
rest_as_often c cs ds es i same d k t = let found = times d ds in elim (cells_equal_or_not c d) [
  | inl e ↦ let f : suc found.0 ≡ suc k = Tally-unique es (suc found.0) (suc k) (counted found.0 i e found.1) (same d (suc k) (hit e t)) in
      let g : found.0 ≡ k = omega (arith, f) in subst (Tally (Is d) ds) g found.1
  | inr e ↦ let f : found.0 ≡ k = Tally-unique es found.0 k (passed found.0 i e found.1) (same d k (miss e t)) in subst (Tally (Is d) ds) f found.1
]

pub Tally-as_often : {P : Cell → Type 0} (cs ds : List Cell) (n : ℕ) → HasAsOften cs ds → Tally P cs n → Tally P ds n
Tally-as_often [] [] n same none = none
Tally-as_often [] (d ∷ ds) n same none = let h : 1 ≤ 0 = Tally-counts (d ∷ ds) 0 d (Contains-head d ds) refl (same d 0 none) in absurd (omega (arith, h))
Tally-as_often (c ∷ cs) ds n same (hit {n = k} h t) = let o = out c cs ds same in counted k o.1 h (Tally-as_often cs o.0 k (rest_as_often c cs o.0 ds o.1 same) t)
Tally-as_often (c ∷ cs) ds n same (miss h t) = let o = out c cs ds same in passed n o.1 h (Tally-as_often cs o.0 n (rest_as_often c cs o.0 ds o.1 same) t)

-- the laws of tallies
pub ruleset tally_laws = (Tally-append, Tally-unique, Tally-le-length, Tally-same, Tally-grows, Tally-none, Tally-test, Tally-as_often)
