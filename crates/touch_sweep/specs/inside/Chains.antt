-- pairs by which entries of two lists are joined where they touch
use Rattle.std.specs.Prelude.{ℕ, ℤ, List, [], ◌∷◌, ◌++◌, Contains, pos, ◌+ℤ◌, ◌≤ℤ◌, ◌≡◌, ◌⊎◌, ◌↔◌}
use Rattle.paths.specs.Paths.{Path}
use Rattle.classes.specs.Classes.{IsPair}
use Rattle.geo_core.specs.Plane.{Touch}
use Rattle.touch_sweep.specs.inside.Entries.{IsByRow}
use Rattle.touch_sweep.specs.inside.Matches.{IsMatchOf, IsMatchWith, Gains}
use Rattle.touch_sweep.specs.declared.numbered.Numbered.{Numbered}

-- a chain of the pairs leads from the one number to the other
pub record IsLinked (pairs : List (ℕ × ℕ)) (a b : ℕ) : Type 0 where
  pub path : Path (λ k. Unit {0}) (IsPair pairs) a b

-- a list joins what it joined, and the numbers of all pairs of the one kind, and gains none but of the other kind
pub record Links (must may : ℕ × ℕ → Type 0) (old new : List (ℕ × ℕ)) : Type 0 where
  pub kept : (a b : ℕ) → IsLinked old a b → IsLinked new a b
  pub joined : (p : ℕ × ℕ) → must p → IsLinked new p.0 p.1
  pub none_else : (p : ℕ × ℕ) → Contains new p → Contains old p ⊎ may p

-- two entries, one of each list, touch, and the first one begins no later than the second one; these are their numbers
pub record IsMatchAfter (points spans : List Numbered) (p : ℕ × ℕ) : Type 0 where
  pub found : IsMatchOf points spans p
  pub reached : found.match.other.rect.x0 ≤ℤ found.point.rect.x0

-- each of the two begins no less than `gap` rows below the end of the other one
abbrev pub RowsMeet : ℤ → Numbered → Numbered → Type 0
RowsMeet gap a b = ((a.rect.y0 +ℤ gap) ≤ℤ b.rect.y1) × ((b.rect.y0 +ℤ gap) ≤ℤ a.rect.y1)

-- two entries, one of each list, touch exactly where their rows meet
pub record AreInRow (points spans : List Numbered) : Type 0 where
  pub gap : ℤ
  pub small : gap ≤ℤ pos 1
  pub tell : (p s : Numbered) → Contains points p → Contains spans s → Touch p.rect s.rect ↔ RowsMeet gap p s

-- an open entry that is linked with this one stands for it: it reaches as far up
pub record StandsFor (among_these : List Numbered) (pairs : List (ℕ × ℕ)) (e : Numbered) : Type 0 where
  pub other : Numbered
  pub among : Contains among_these other
  pub reaches : e.rect.y1 ≤ℤ other.rect.y1
  pub linked : IsLinked pairs e.number other.number

-- of the entries of two lists those of `mine` and `theirs` are left; of the others some are open, and each of them that
-- reaches up to one that is left is stood for by one that is open
pub record IsChaining (all_mine all_theirs mine theirs own others : List Numbered) (old now : List (ℕ × ℕ)) : Type 0 where
  pub rows : AreInRow all_mine all_theirs
  pub gains : Gains (λ p. ⊥) (IsMatchOf all_mine all_theirs) old now
  pub mine_by_row : IsByRow mine
  pub theirs_by_row : IsByRow theirs
  pub mine_among : (e : Numbered) → Contains mine e → Contains all_mine e
  pub theirs_among : (e : Numbered) → Contains theirs e → Contains all_theirs e
  pub own_among : (e : Numbered) → Contains own e → Contains all_mine e
  pub others_among : (e : Numbered) → Contains others e → Contains all_theirs e
  pub below : (o e : Numbered) → Contains own o ⊎ Contains others o → Contains mine e ⊎ Contains theirs e →
      o.rect.y0 ≤ℤ e.rect.y0
  pub mine_kept : (m : Numbered) → Contains all_mine m → Contains mine m ⊎
      ((e : Numbered) → Contains mine e ⊎ Contains theirs e → (e.rect.y0 +ℤ rows.gap) ≤ℤ m.rect.y1 → StandsFor own now m)
  pub theirs_kept : (t : Numbered) → Contains all_theirs t → Contains theirs t ⊎
      ((e : Numbered) → Contains mine e ⊎ Contains theirs e → (e.rect.y0 +ℤ rows.gap) ≤ℤ t.rect.y1 → StandsFor others now t)
  pub joined : (m t : Numbered) → Contains all_mine m → Contains all_theirs t → Touch m.rect t.rect →
      Contains mine m ⊎ Contains theirs t ⊎ IsLinked now m.number t.number

-- with what is left of the one list, where the other has none left, all entries that touch get joined
abbrev pub ChainsRest : List Numbered → List Numbered → List Numbered → List (ℕ × ℕ) → List (ℕ × ℕ) → Type 0
ChainsRest rest own others pairs new =
    (all_mine all_theirs : List Numbered) (old : List (ℕ × ℕ)) → IsChaining all_mine all_theirs rest [] own others old pairs →
    Links (IsMatchOf all_mine all_theirs) (IsMatchOf all_mine all_theirs) old new

-- the entry is one of the list, and none of them reaches farther up
pub record IsFarthestOf (entries : List Numbered) (farthest : Numbered) : Type 0 where
  pub among : Contains entries farthest
  pub most : (e : Numbered) → Contains entries e → e.rect.y1 ≤ℤ farthest.rect.y1

-- of a list that has entries one is left, and none of them reaches farther up
pub record KeepsFarthest (old new : List Numbered) : Type 0 where
  pub kept : (e : Numbered) → Contains new e → Contains old e
  pub some : (e : Numbered) → Contains old e → (farthest : Numbered) × Contains new farthest × (e.rect.y1 ≤ℤ farthest.rect.y1)

-- an entry is paired with those open ones of the other list that it touches, of all of which the farthest stays open
pub record ChainsOne (one : Numbered) (own others own' others' : List Numbered) (old new : List (ℕ × ℕ)) : Type 0 where
  pub paired : Gains (IsMatchWith one others) (IsMatchWith one others) old new
  pub opened : own' ≡ own ++ one ∷ []
  pub farthest : KeepsFarthest others others'
