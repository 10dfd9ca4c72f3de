-- the least cells of a list that have a property
use Rattle.std.proofs.Common.{sym, subst, ◌∙◌, inl, inr, arith, List, [], ◌∷◌, Contains}
use Rattle.lists.proofs.Containing.{Contains-cons_cases, Contains-head, Contains-none, Contains-tail}
use Rattle.lists.proofs.Words.{ints}
use Rattle.geo_core.specs.declared.plane.Cell.{Cell}
use Rattle.net_numbers.specs.FirstCells.{Precedes}
use Rattle.net_numbers.proofs.OrderLaws.{not_itself}

through : (a b c : Cell) → Precedes a b → Precedes b c → Precedes a c
through a b c (inl less) (inl more) = inl (omega (arith, ints))
through a b c (inl less) (inr (e, more)) = inl (omega (arith, ints))
through a b c (inr (e, less)) (inl more) = inl (omega (arith, ints))
through a b c (inr (e, less)) (inr (f, more)) = inr (e ∙ f, omega (arith, ints))

module _ (Q : Cell → Type 0) where
  -- the cell is in the list and has the property, and no such cell precedes it
  pub record IsLeastIn (cells : List Cell) (c : Cell) : Type 0 where
    pub among : Contains cells c
    pub has : Q c
    pub least : (d : Cell) → Contains cells d → Q d → Precedes d c → ⊥

  module _ (x : Cell) (xs : List Cell) where
    -- of a cell in front and those behind it, none precedes the cell in front
    front_is_least : Q x → ((d : Cell) → Contains xs d → Q d → Precedes d x → ⊥) → IsLeastIn (x ∷ xs) x
    front_is_least has none = record {
      among = Contains-head x xs;
      has = has;
      least = λ d in_list q before. elim (Contains-cons_cases x xs d in_list) [
        | inl e ↦ not_itself x (subst (λ y. Precedes y x) (sym e) before)
        | inr behind ↦ none d behind q before
      ];
    }

    -- the least of those behind stays so, unless the one in front has the property and precedes it
    behind_is_least : (m : Cell) → IsLeastIn xs m → (Q x → Precedes x m → ⊥) → IsLeastIn (x ∷ xs) m
    behind_is_least m is none = record {
      among = Contains-tail x xs m is.among;
      has = is.has;
      least = λ d in_list q before. elim (Contains-cons_cases x xs d in_list) [
        | inl e ↦ none (subst Q (sym e) q) (subst (λ y. Precedes y m) (sym e) before)
        | inr behind ↦ is.least d behind q before
      ];
    }

    -- so where there is no least one of all, there is none of those behind
    none_behind : ((c : Cell) → IsLeastIn (x ∷ xs) c → ⊥) → (m : Cell) → IsLeastIn xs m → ⊥
    none_behind none m is = none m (behind_is_least m is
        (λ has first. none x (front_is_least has (λ d behind q before. is.least d behind q (through d x m before first)))))

  -- a list without a least cell that has the property has no cell with it
  pub none_has : (cells : List Cell) → ((c : Cell) → IsLeastIn cells c → ⊥) → (c : Cell) → Contains cells c → Q c → ⊥
  none_has [] none c in_list q = Contains-none in_list
  none_has (x ∷ xs) none c in_list q =
      let rest : (d : Cell) → Contains xs d → Q d → ⊥ = none_has xs (none_behind x xs none) in
      elim (Contains-cons_cases x xs c in_list) [
        | inl e ↦ none x (front_is_least x xs (subst Q (sym e) q) (λ d behind p before. rest d behind p))
        | inr behind ↦ rest c behind q
      ]
