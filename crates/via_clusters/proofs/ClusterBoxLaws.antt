-- the least rectangles of groups of contact pieces
use Rattle.std.proofs.Common.{ℕ, ◌≡◌, sym, subst, List, [], ◌∷◌, ◌++◌, inl, inr, ◌↔◌, map, get_or, filter, All, Contains}
use Rattle.lists.proofs.Words.{AllZip, All-head, All-tail, All-contains, Contains-get_or}
use Rattle.lists.proofs.Filtering.{Contains-filter, Contains-from_filter, Contains-filter_passes}
use Rattle.lists.proofs.Mapping.{Contains-map, Contains-map_from}
use Rattle.geo_core.specs.Plane.{Has, IsInUnion, IsJoin}
use Rattle.geo_core.specs.declared.plane.Cell.{Cell}
use Rattle.geo_core.specs.declared.plane.Rect.{Rect}
use Rattle.fault_model.specs.FaultNames.{IsBoundsOf}
use Rattle.fault_model.proofs.UnionLaws.{corner_of, in_union, among_union, union_append, union_one, union_push}
use Rattle.net_extract.specs.ContactGroups.{AreGroupsOf, carries_both, ends_of_group, rects_between}
use Rattle.net_extract.specs.NetLists.{NetLists, contacts_of}
use Rattle.net_extract.specs.declared.pieces.ContactGroup.{ContactGroup}
use Rattle.net_extract.specs.declared.pieces.ContactPiece.{ContactPiece}
use Rattle.net_extract.proofs.laws.CarryLaws.{group_cells}
use Rattle.net_extract.proofs.laws.UnitLaws.{unit}
use Rattle.via_clusters.specs.Clusters.{AreClusterBoxes, IsClusterCell}

-- ---- bounds of a list

-- the same set has the same bounds
bounds_same : (one other : Cell → Type 0) (box : Rect) → ((c : Cell) → one c ↔ other c) → IsBoundsOf one box → IsBoundsOf other box
bounds_same one other box same bounds = record {
  all_in = λ c h. bounds.all_in c ((same c).1 h);
  least = λ rect all c h. bounds.least rect (λ d k. all d ((same d).0 k)) c h;
}

pub bounds_of_first : (first : Rect) → IsBoundsOf (IsInUnion (first ∷ [])) first
bounds_of_first first = record {
  all_in = λ c h. (union_one c first).0 h;
  least = λ other all c h. all c ((union_one c first).1 h);
}

-- one more rectangle
pub bounds_of_more : (rects : List Rect) (rect box joined : Rect) → IsBoundsOf (IsInUnion rects) box → IsJoin box rect joined → IsBoundsOf (IsInUnion (rects ++ rect ∷ [])) joined
bounds_of_more rects rect box joined bounds join = record {
  all_in = λ c h. elim ((union_push c rects rect).0 h) [ inl old ↦ join.first c (bounds.all_in c old) | inr new ↦ join.second c new ];
  least = λ other all. join.least other (bounds.least other (λ d k. all d ((union_push d rects rect).1 (inl k)))) (λ d k. all d ((union_push d rects rect).1 (inr k)));
}

-- a list with its first item once more
pub bounds_of_all : (rects : List Rect) (first box : Rect) → Contains rects first → IsBoundsOf (IsInUnion (first ∷ rects)) box → IsBoundsOf (IsInUnion rects) box
bounds_of_all rects first box among = bounds_same (IsInUnion (first ∷ rects)) (IsInUnion rects) box (λ c. (
  λ h. elim ((union_append c (first ∷ []) rects).0 h) [ inl one ↦ in_union rects first c among ((union_one c first).0 one) | inr rest ↦ rest ],
  λ h. (union_append c (first ∷ []) rects).1 (inr h),
))

-- ---- groups

abbrev pub IsGroupBox : ContactGroup → Rect → Type 0
IsGroupBox group box = IsBoundsOf (IsInUnion group.rects) box

module _ (nets : NetLists) (cut : ℕ) where
  abbrev contacts : List ContactPiece
  contacts = contacts_of nets cut

  box_of_group : (group : ContactGroup) (box : Rect) → group.rects ≡ rects_between contacts group.lower group.upper → IsGroupBox group box
      → IsBoundsOf (IsClusterCell nets cut (ends_of_group group)) box
  box_of_group group box rects is =
      bounds_same (IsInUnion (rects_between contacts group.lower group.upper)) (IsClusterCell nets cut (ends_of_group group)) box (group_cells contacts group.lower group.upper)
      (subst (λ rs. IsBoundsOf (IsInUnion rs) box) rects is)

  boxes_of_groups : (groups : List ContactGroup) (boxes : List Rect) → All (λ group. group.rects ≡ rects_between contacts group.lower group.upper) groups → AllZip IsGroupBox groups boxes
      → AllZip (λ islands box. IsBoundsOf (IsClusterCell nets cut islands) box) (map ends_of_group groups) boxes
  boxes_of_groups [] [] rects zip = tt
  boxes_of_groups [] (b ∷ boxes) rects zip = absurd zip
  boxes_of_groups (g ∷ groups) [] rects zip = absurd zip
  boxes_of_groups (g ∷ groups) (b ∷ boxes) rects zip =
      let Told : ContactGroup → Type 0 = λ group. group.rects ≡ rects_between contacts group.lower group.upper in
      (box_of_group g b (All-head Told g groups rects) zip.0, boxes_of_groups groups boxes (All-tail Told g groups rects) zip.1)

  -- a group has a cell
  some_group_cell : (group : ContactGroup) → group.rects ≡ rects_between contacts group.lower group.upper → (c : Cell) × IsClusterCell nets cut (ends_of_group group) c
  some_group_cell group rects =
      let any : Rect = get_or group.rects 0 unit in
      let cell = corner_of any in
      let among = Contains-get_or group.rects 0 unit group.some in
      (cell.0, (group_cells contacts group.lower group.upper cell.0).0 (subst (λ rs. IsInUnion rs cell.0) rects (in_union group.rects any cell.0 among cell.1)))

  pub are_boxes : (groups : List ContactGroup) (boxes : List Rect) → AreGroupsOf contacts groups → AllZip IsGroupBox groups boxes → AreClusterBoxes nets cut boxes
  are_boxes groups boxes are zip = record {
    clusters = map ends_of_group groups;
    once = are.once;
    exactly = λ islands. (
      λ among.
          let found = Contains-map_from ends_of_group groups islands among in
          let told = All-contains (λ (group : ContactGroup). group.rects ≡ rects_between contacts group.lower group.upper) groups found.0 are.rects found.1 in
          subst (λ i. (c : Cell) × IsClusterCell nets cut i c) found.2 (some_group_cell found.0 told),
      λ some. subst (Contains (map ends_of_group groups)) some.1.carries (are.all some.1.contact some.1.among),
    );
    each = boxes_of_groups groups boxes are.rects zip;
  }
