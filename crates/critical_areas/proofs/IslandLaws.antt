-- islands that are apart: which of them are open, and that those near a tile decide it there
use Rattle.std.proofs.Common.{ℕ, ◌+◌, ◌<◌, ◌≤◌, ◌/◌, ◌≡◌, List, [], ◌∷◌, ◌++◌, ◌↔◌, ◌⊎◌, inl, inr, subst, sym, arith, get_or, length, map, take, All, Contains, Some, slice_get}
use Rattle.std.proofs.lemmas.List.Sorted.{All-permutation}
use Rattle.lists.proofs.Containing.{Contains-cons_cases, Contains-head, Contains-none, Contains-slice_get, Contains-tail, all_of_each, number_of}
use Rattle.lists.proofs.Mapping.{Contains-map, Contains-map_from}
use Rattle.lists.proofs.Reading.{taken_more}
use Rattle.lists.proofs.Words.{All-contains, All-nil, All-push, cases_lt, Contains-append_left, Contains-permutation, Contains-push, Contains-push_cases, IsPermutation, slice_get_within}
use Rattle.geo_core.specs.Plane.{Has, IsInUnion, IsJoin}
use Rattle.geo_core.specs.declared.plane.Cell.{Cell}
use Rattle.geo_core.specs.declared.plane.Labelled.{Labelled}
use Rattle.geo_core.specs.declared.plane.Rect.{Rect}
use Rattle.fault_model.specs.FaultNames.{IslandLists, IsIslandOpen}
use Rattle.fault_model.proofs.UnionLaws.{union_none}
use Rattle.severing.specs.Severing.{IsSomeOpen}
use Rattle.open_grid.proofs.laws.GatheredLaws.{gathered}
use Rattle.tile_plan.specs.NearTiles.{AreKept, AreNear, all_seen, kept, dropped}
use Rattle.tile_plan.proofs.laws.SeamLaws.{exactly_near}
use Rattle.critical_areas.specs.RoundPieces.{IsRound}
use Rattle.critical_areas.proofs.laws.NearIslandLaws.{far_parts_none}
use Rattle.critical_areas.specs.inside.IslandsApart.{AreFirstApart, IsOneOpen, IsRoundIsland}

-- the rectangle round an island, its number, and the numbers of several
abbrev round_rect : Labelled → Rect
round_rect hull = hull.rect

abbrev pub labels : List Labelled → List ℕ
labels hulls = map (λ hull. hull.label) hulls

-- ---- rectangles round others

-- one more
pub round_more : (rects : List Rect) (i : ℕ) (rect hull joined : Rect) → i < length rects → rect ≡ get_or rects i rect → IsJoin hull rect joined → IsRound hull (take i rects)
    → IsRound joined (take (i + 1) rects)
round_more rects i rect hull joined small is join so_far one c among has =
    elim (Contains-push_cases (take i rects) rect one (subst (λ front. Contains front one) (taken_more rects i rect small is) among)) [
      | inl before ↦ join.first c (so_far one c before has)
      | inr now ↦ join.second c (subst (λ (r : Rect). Has r c) (sym now) has)
    ]

pub none_round : (hull : Rect) → IsRound hull []
none_round hull one c among has = absurd (Contains-none among)

-- ---- islands with some numbers

-- the rectangles have the cells of the window at which one of the islands with these numbers is open
abbrev pub AreCellsOf : List IslandLists → List ℕ → Rect → ℕ → List Rect → Type 0
AreCellsOf islands numbers window side rects = (c : Cell) → IsInUnion rects c ↔ (Has window c × IsOneOpen islands numbers side c)

module _ (islands : List IslandLists) (window : Rect) (side : ℕ) where
  pub no_cells : AreCellsOf islands [] window side []
  no_cells c = (λ u. absurd (union_none c u), λ h. absurd (Contains-none h.1.among))

  module _ (numbers : List ℕ) (number : ℕ) (island : IslandLists) (at : slice_get islands number ≡ Some island) where
    -- an island of those before is open, or the next one
    one_open_more : (c : Cell) → IsOneOpen islands (numbers ++ number ∷ []) side c ↔ (IsOneOpen islands numbers side c ⊎ IsIslandOpen island side c)
    one_open_more c = (
      λ o. elim (Contains-push_cases numbers number o.number o.among) [
        | inl before ↦ inl (record { number = o.number; island = o.island; among = before; at = o.at; is_open = o.is_open })
        | inr now ↦ let there = o.at in let same : o.island ≡ island = cc in inr (subst (λ i. IsIslandOpen i side c) same o.is_open)
      ],
      λ h. elim h [
        | inl o ↦ record { number = o.number; island = o.island; among = Contains-append_left numbers (number ∷ []) o.number o.among; at = o.at; is_open = o.is_open }
        | inr o ↦ record { number = number; island = island; among = Contains-push numbers number; at = at; is_open = o }
      ],
    )

    pub cells_more : (old found : List Rect) → AreCellsOf islands numbers window side old → ((c : Cell) → IsInUnion found c ↔ (Has window c × IsIslandOpen island side c))
        → AreCellsOf islands (numbers ++ number ∷ []) window side (old ++ found)
    cells_more old found before here c =
        gathered (Has window c) (IsOneOpen islands numbers side c) (IsIslandOpen island side c) (IsOneOpen islands (numbers ++ number ∷ []) side c) old found c (one_open_more c) (before c) (here c)

-- ---- islands apart

module _ (islands : List IslandLists) where
  pub none_apart_yet : AreFirstApart islands 0 [] []
  none_apart_yet = record { round = All-nil (IsRoundIsland islands); within = All-nil (λ number. number < length islands); each = λ number less. absurd (omega arith) }

  -- past the last island that is so for all
  pub apart_done : (count : ℕ) (small : List Labelled) (large : List ℕ) → length islands ≤ count → AreFirstApart islands count small large → AreFirstApart islands (length islands) small large
  apart_done count small large past apart = record { round = apart.round; within = apart.within; each = λ number less. apart.each number (omega arith) }

  -- the same rectangles in another order
  pub apart_permuted : (count : ℕ) (small others : List Labelled) (large : List ℕ) → IsPermutation small others → AreFirstApart islands count small large → AreFirstApart islands count others large
  apart_permuted count small others large order apart = record {
    round = All-permutation (IsRoundIsland islands) small others order apart.round;
    within = apart.within;
    each = λ number less. elim (apart.each number less) [
      | inl among ↦
          let from = Contains-map_from (λ (hull : Labelled). hull.label) small number among in
          inl (subst (Contains (labels others)) from.2 (Contains-map (λ (hull : Labelled). hull.label) others from.0 (Contains-permutation small others from.0 order from.1)))
      | inr among ↦ inr among
    ];
  }

  module _ (count : ℕ) (small : List Labelled) (large : List ℕ) (island : IslandLists) (at : slice_get islands count ≡ Some island) (apart : AreFirstApart islands count small large) where
    -- one small island more
    pub small_more : (rect : Rect) → IsRound rect island.pieces → (hull : Labelled) → hull.rect ≡ rect → hull.label ≡ count
        → AreFirstApart islands (count + 1) (small ++ hull ∷ []) large
    small_more rect round hull is_rect is_label = record {
      round = All-push (IsRoundIsland islands) small hull apart.round (record {
        island = island;
        at = subst (λ number. slice_get islands number ≡ Some island) (sym is_label) at;
        round = subst (λ r. IsRound r island.pieces) (sym is_rect) round;
      });
      within = apart.within;
      each = λ number less. elim (cases_lt number count) [
        | inl before ↦ elim (apart.each number before) [
          | inl among ↦
              let from = Contains-map_from (λ (h : Labelled). h.label) small number among in
              inl (subst (Contains (labels (small ++ hull ∷ []))) from.2
              (Contains-map (λ (h : Labelled). h.label) (small ++ hull ∷ []) from.0 (Contains-append_left small (hull ∷ []) from.0 from.1)))
          | inr among ↦ inr among
        ]
        | inr not ↦
            let last : hull.label ≡ number = omega arith in
            inl (subst (Contains (labels (small ++ hull ∷ []))) last (Contains-map (λ (h : Labelled). h.label) (small ++ hull ∷ []) hull (Contains-push small hull)))
      ];
    }

    -- one large island more
    pub large_more : AreFirstApart islands (count + 1) small (large ++ count ∷ [])
    large_more = record {
      round = apart.round;
      within = All-push (λ number. number < length islands) large count apart.within (slice_get_within islands count island at);
      each = λ number less. elim (cases_lt number count) [
        | inl before ↦ elim (apart.each number before) [ inl among ↦ inl among | inr among ↦ inr (Contains-append_left large (count ∷ []) number among) ]
        | inr not ↦
            let last : count ≡ number = omega arith in
            inr (subst (Contains (large ++ count ∷ [])) last (Contains-push large count))
      ];
    }

-- ---- islands near a tile

-- what is listed is kept, or it is not so
kept_or_not : {X : Type 0} {P : X → Type 0} (xs ys : List X) (x : X) → AreKept P xs ys → Contains xs x → Contains ys x ⊎ (P x → ⊥)
kept_or_not [] ys x all_seen among = absurd (Contains-none among)
kept_or_not (y ∷ xs) ys x (kept {ys = zs} q k) among = elim (Contains-cons_cases y xs x among) [
  | inl e ↦ inl (subst (Contains (y ∷ zs)) e (Contains-head y zs))
  | inr d ↦ elim (kept_or_not xs zs x k d) [ inl there ↦ inl (Contains-tail y zs x there) | inr far ↦ inr far ]
]
kept_or_not {P = P} (y ∷ xs) ys x (dropped n k) among = elim (Contains-cons_cases y xs x among) [
  | inl e ↦ inr (subst (λ z. P z → ⊥) e n)
  | inr d ↦ kept_or_not xs ys x k d
]

module _ (islands : List IslandLists) (small : List Labelled) (large : List ℕ) (apart : AreFirstApart islands (length islands) small large) (tile : Rect) (reach : ℕ) (near : List Labelled)
    (are_near : AreNear round_rect tile reach small near) where
  -- the numbers of what is near are those of islands
  pub near_within : All (λ number. number < length islands) (labels near)
  near_within =
      all_of_each (λ number. number < length islands) (labels near) (λ number among.
      let from = Contains-map_from (λ (hull : Labelled). hull.label) near number among in
      let round = All-contains (IsRoundIsland islands) small from.0 apart.round (((exactly_near round_rect tile reach small near are_near).same from.0).0 from.1).0 in
      subst (λ k. k < length islands) from.2 (slice_get_within islands from.0.label round.island round.at))

  module _ (side : ℕ) (far : side / 2 ≤ reach) (c : Cell) (has : Has tile c) where
    some_of_one : (numbers : List ℕ) → IsOneOpen islands numbers side c → IsSomeOpen islands side c
    some_of_one numbers o = record { island = o.island; among = Contains-slice_get islands o.number o.island o.at; is_open = o.is_open }

    -- an island is open at a cell of the tile where a large one is, or one of the small ones that come near
    open_by_parts : IsSomeOpen islands side c ↔ (IsOneOpen islands large side c ⊎ IsOneOpen islands (labels near) side c)
    open_by_parts = (
      λ o.
          let number = number_of islands o.island o.among in
          elim (apart.each number.0 (slice_get_within islands number.0 o.island number.1)) [
            | inl among ↦
                let from = Contains-map_from (λ (hull : Labelled). hull.label) small number.0 among in
                let round = All-contains (IsRoundIsland islands) small from.0 apart.round from.1 in
                let there = round.at in
                let here = number.1 in
                let label = from.2 in
                let same : round.island ≡ o.island = cc in
                let hull = subst (λ (i : IslandLists). IsRound from.0.rect i.pieces) same round.round in
                elim (kept_or_not small near from.0 are_near from.1) [
                  | inl comes ↦ inr (record {
                    number = number.0;
                    island = o.island;
                    among = subst (Contains (labels near)) from.2 (Contains-map (λ (h : Labelled). h.label) near from.0 comes);
                    at = number.1;
                    is_open = o.is_open;
                  })
                  | inr beyond ↦ absurd (far_parts_none tile from.0.rect o.island reach side c hull has far beyond o.is_open)
                ]
            | inr among ↦ inl (record { number = number.0; island = o.island; among = among; at = number.1; is_open = o.is_open })
          ],
      λ h. elim h [ inl o ↦ some_of_one large o | inr o ↦ some_of_one (labels near) o ],
    )

    -- so the rectangles of both have the cells of the tile at which one is
    pub tile_opens : (old found : List Rect) → IsInUnion old c ↔ IsOneOpen islands large side c → IsInUnion found c ↔ (Has tile c × IsOneOpen islands (labels near) side c)
        → IsInUnion (old ++ found) c ↔ IsSomeOpen islands side c
    tile_opens old found before here =
        let both = gathered (Has tile c) (IsOneOpen islands large side c) (IsOneOpen islands (labels near) side c) (IsSomeOpen islands side c) old found c open_by_parts
        (λ u. (has, before.0 u), λ h. before.1 h.1) here in
        (λ u. (both.0 u).1, λ o. both.1 (has, o))
