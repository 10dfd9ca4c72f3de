-- islands one by one: where one more is open, and where one more has a ring of many arcs
use Rattle.std.proofs.Common.{ℕ, ◌+◌, ◌<◌, ◌≤◌, ◌≡◌, List, [], ◌∷◌, ◌++◌, ◌↔◌, ◌⊎◌, inl, inr, sym, subst, arith, drop, get_or, length, take, Contains}
use Rattle.lists.proofs.Containing.{Contains-none, Contains-one}
use Rattle.lists.proofs.Reading.{taken_more}
use Rattle.lists.proofs.Words.{Contains-append_left, Contains-push, Contains-push_cases, cases_lt, take-append-drop}
use Rattle.geo_core.specs.Plane.{Has, IsInUnion}
use Rattle.geo_core.specs.declared.plane.Cell.{Cell}
use Rattle.geo_core.specs.declared.plane.Rect.{Rect}
use Rattle.fault_model.proofs.UnionLaws.{union_none}
use Rattle.fault_model.specs.FaultNames.{IslandLists, IsIslandOpen}
use Rattle.severing.specs.Severing.{IsSomeOpen}
use Rattle.open_grid.specs.RingCounts.{IsSomeRingMany}
use Rattle.open_grid.specs.inside.ZoneCounts.{CountsMany}
use Rattle.open_grid.proofs.laws.GatheredLaws.{gathered}

-- the rectangles have the cells of the window at which one of the islands is open
abbrev pub AreOpenCells : List IslandLists → Rect → ℕ → List Rect → Type 0
AreOpenCells islands window side rects = (c : Cell) → IsInUnion rects c ↔ (Has window c × IsSomeOpen islands side c)

-- a ring with many arcs of an island of the one list is one of an island of the other
many_within : (islands others : List IslandLists) (window : Rect) (side : ℕ) → ((island : IslandLists) → Contains islands island → Contains others island) → IsSomeRingMany islands window side
    → IsSomeRingMany others window side
many_within islands others window side all r = record { island = r.island; among = all r.island r.among; cell = r.cell; in_window = r.in_window; many = r.many }

module _ (window : Rect) (side : ℕ) where
  pub none_open : AreOpenCells [] window side []
  none_open c = (λ u. absurd (union_none c u), λ h. absurd (Contains-none h.1.among))

  -- of one island
  pub one_open : (island : IslandLists) (rects : List Rect) → AreOpenCells (island ∷ []) window side rects → (c : Cell) → IsInUnion rects c ↔ (Has window c × IsIslandOpen island side c)
  one_open island rects are c = (
    λ u. let h = (are c).0 u in (h.0, subst (λ i. IsIslandOpen i side c) (sym (Contains-one island h.1.island h.1.among)) h.1.is_open),
    λ h. (are c).1 (h.0, record { island = island; among = Contains-push [] island; is_open = h.1 }),
  )

  module _ (islands : List IslandLists) (island : IslandLists) where
    -- an island of those before is open, or the next one
    some_open_more : (c : Cell) → IsSomeOpen (islands ++ island ∷ []) side c ↔ (IsSomeOpen islands side c ⊎ IsIslandOpen island side c)
    some_open_more c = (
      λ s. elim (Contains-push_cases islands island s.island s.among) [
        | inl before ↦ inl (record { island = s.island; among = before; is_open = s.is_open })
        | inr now ↦ inr (subst (λ i. IsIslandOpen i side c) (sym now) s.is_open)
      ],
      λ h. elim h [
        | inl s ↦ record { island = s.island; among = Contains-append_left islands (island ∷ []) s.island s.among; is_open = s.is_open }
        | inr o ↦ record { island = island; among = Contains-push islands island; is_open = o }
      ],
    )

    pub open_more : (old found : List Rect) → AreOpenCells islands window side old → ((c : Cell) → IsInUnion found c ↔ (Has window c × IsIslandOpen island side c))
        → AreOpenCells (islands ++ island ∷ []) window side (old ++ found)
    open_more old found before here c =
        gathered (Has window c) (IsSomeOpen islands side c) (IsIslandOpen island side c) (IsSomeOpen (islands ++ island ∷ []) side c) old found c (some_open_more c) (before c) (here c)

    pub counted_more : (old mid new : ℕ) → CountsMany islands window side old mid → mid ≤ new → (mid < new → IsSomeRingMany (island ∷ []) window side)
        → CountsMany (islands ++ island ∷ []) window side old new
    counted_more old mid new so_far grows here = record {
      never_falls = let a = so_far.never_falls in omega arith;
      rises_by_many = λ less. elim (cases_lt old mid) [
        | inl before ↦ many_within islands (islands ++ island ∷ []) window side (Contains-append_left islands (island ∷ [])) (so_far.rises_by_many before)
        | inr not ↦ many_within (island ∷ []) (islands ++ island ∷ []) window side last (here (omega arith))
      ];
    } where
      last : (one : IslandLists) → Contains (island ∷ []) one → Contains (islands ++ island ∷ []) one
      last one among = subst (Contains (islands ++ island ∷ [])) (Contains-one island one among) (Contains-push islands island)

-- nothing is counted yet
pub none_counted : (window : Rect) (side n : ℕ) → CountsMany [] window side n n
none_counted window side n = record { never_falls = omega arith; rises_by_many = λ less. absurd (omega arith) }

-- what is counted of the first islands and the next one is counted of all
pub counted_so_far : (window : Rect) (side : ℕ) (islands : List IslandLists) (i : ℕ) (island : IslandLists) → i < length islands → island ≡ get_or islands i island → (old mid new : ℕ)
    → CountsMany (take i islands) window side old mid → mid ≤ new → (mid < new → IsSomeRingMany (island ∷ []) window side) → CountsMany islands window side old new
counted_so_far window side islands i island small is old mid new so_far grows here =
    let more = taken_more islands i island small is in
    let counts = counted_more window side (take i islands) island old mid new so_far grows here in
    record {
      never_falls = counts.never_falls;
      rises_by_many = λ less. many_within (take i islands ++ island ∷ []) islands window side (λ one among. from_front one (subst (λ front. Contains front one) (sym more) among))
          (counts.rises_by_many less);
    }
  where
    from_front : (one : IslandLists) → Contains (take (i + 1) islands) one → Contains islands one
    from_front one among = subst (λ all. Contains all one) (take-append-drop (i + 1) islands) (Contains-append_left (take (i + 1) islands) (drop (i + 1) islands) one among)
