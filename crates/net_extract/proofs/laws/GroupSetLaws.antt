-- a group of contact pieces has exactly the half squares of a via cluster
use Rattle.std.proofs.Common.{ℕ, ◌≡◌, ◌≢◌, ◌<◌, refl, sym, ◌∙◌, subst, inl, inr, arith, List, Contains, Some, slice_get, length, map, ◌↔◌}
use Rattle.lists.proofs.Words.{All-contains, cases_lt, get_or_from_slice_get, slice_get_within}
use Rattle.lists.proofs.Containing.{Contains-slice_get, number_of}
use Rattle.lists.proofs.Mapping.{Contains-map_from}
use Rattle.geo_core.specs.Plane.{IsInUnion, IsCoveredIn}
use Rattle.geo_core.specs.declared.plane.Cell.{Cell}
use Rattle.geo_core.specs.declared.plane.Half.{Half}
use Rattle.geo_core.specs.declared.plane.Rect.{Rect}
use Rattle.fault_model.specs.FaultNames.{IsOn, Cut, IsContact}
use Rattle.fault_model.specs.Faults.{IsSameCluster}
use Rattle.fault_model.specs.Vias.{IsInClusterOf}
use Rattle.map_model.specs.MapNames.{LayerMap}
use Rattle.net_extract.specs.ContactGroups.{AreGroupsOf, CarryClusters, IsGroupCell, ends_of_contact, ends_of_group, rects_between}
use Rattle.net_extract.specs.Cuts.{cuts_of}
use Rattle.net_extract.specs.Extraction.{AreNetsOf}
use Rattle.net_extract.specs.NetLists.{NetLists, contacts_of}
use Rattle.net_extract.specs.declared.pieces.ContactGroup.{ContactGroup}
use Rattle.net_extract.specs.declared.pieces.ContactPiece.{ContactPiece}
use Rattle.net_extract.proofs.IslandLaws.{got_mapped}
use Rattle.net_extract.proofs.laws.CarryLaws.{group_cells}
use Rattle.net_extract.proofs.laws.ClusterLaws.{carry_clusters}

-- the half square lies on a contact piece that carries these two islands
abbrev pub IsOnContact : List ContactPiece → ℕ × ℕ → Half → Type 0
IsOnContact contacts islands = IsOn (IsGroupCell contacts islands)

module _ (contacts : List ContactPiece) (groups : List ContactGroup) (grouped : AreGroupsOf contacts groups) where
  abbrev IsTold : ContactGroup → Type 0
  IsTold group = group.rects ≡ rects_between contacts group.lower group.upper

  -- what a group has lies on the contact pieces that carry its islands
  pub group_has : (group : ContactGroup) (h : Half) → Contains groups group → IsOn (IsInUnion group.rects) h ↔ IsOnContact contacts (ends_of_group group) h
  group_has group h listed =
      let told = All-contains IsTold groups group grouped.rects listed in
      let same : (d : Cell) → IsInUnion (rects_between contacts group.lower group.upper) d ↔ IsGroupCell contacts (ends_of_group group) d = group_cells contacts group.lower group.upper in (
        λ on. (on.0, on.1, (same on.0).0 (subst (λ rects. IsInUnion rects on.0) told on.2)),
        λ on. (on.0, on.1, subst (λ rects. IsInUnion rects on.0) (sym told) ((same on.0).1 on.2)),
      )

  -- a group with the islands of a contact piece, by its number
  pub record IsGroupWith (islands : ℕ × ℕ) : Type 0 where
    pub number : ℕ
    pub group : ContactGroup
    pub at : slice_get groups number ≡ Some group
    pub ends : ends_of_group group ≡ islands

  pub group_with : (islands : ℕ × ℕ) (h : Half) → IsOnContact contacts islands h → IsGroupWith islands
  group_with islands h k =
      let v = k.2 in
      let from = Contains-map_from ends_of_group groups (ends_of_contact v.contact) (grouped.all v.contact v.among) in
      let n = number_of groups from.0 from.1 in
      record { number = n.0; group = from.0; at = n.1; ends = from.2 ∙ v.carries }

  -- groups with the same islands have the same number
  pub one_group : (i k : ℕ) (a b : ContactGroup) → slice_get groups i ≡ Some a → slice_get groups k ≡ Some b → i ≢ k → ends_of_group a ≢ ends_of_group b
  one_group i k a b at_i at_k apart same =
      let ends = map ends_of_group groups in
      let one = got_mapped ends_of_group groups i a at_i in
      let other = got_mapped ends_of_group groups k b at_k in
      let read : (n : ℕ) (g : ContactGroup) → slice_get ends n ≡ Some (ends_of_group g) → (n < length ends) = λ n g at. slice_get_within ends n (ends_of_group g) at in
      elim (cases_lt i k) [
        | inl l ↦ grouped.once i k (ends_of_group a) l (read k b other) (get_or_from_slice_get ends i (ends_of_group a) (ends_of_group a) one ∙ same
            ∙ sym (get_or_from_slice_get ends k (ends_of_group b) (ends_of_group a) other))
        | inr l ↦ grouped.once k i (ends_of_group a) (omega arith) (read i a one) (get_or_from_slice_get ends k (ends_of_group b) (ends_of_group a) other ∙ sym same
            ∙ sym (get_or_from_slice_get ends i (ends_of_group a) (ends_of_group a) one))
      ]

module _ (layer_map : LayerMap) (lists : List (List Rect)) (nets : NetLists) (are : AreNetsOf layer_map lists nets) (number : ℕ) (cut : Cut)
    (at : slice_get (cuts_of layer_map) number ≡ Some cut) where
  abbrev covers : ℕ → Cell → Type 0
  covers = IsCoveredIn lists

  abbrev contacts_here : List ContactPiece
  contacts_here = contacts_of nets number

  carry : CarryClusters covers cut nets number
  carry = carry_clusters layer_map lists nets number cut are at

  -- what lies on a contact piece is a contact, and the other way round
  is_contact : (islands : ℕ × ℕ) (h : Half) → IsOnContact contacts_here islands h → IsContact covers cut h
  is_contact islands h k = (carry.contacts h).0 (k.0, k.1, record { contact = k.2.contact; among = k.2.among; has = k.2.has })

  of_contact : (h : Half) → IsContact covers cut h → (islands : ℕ × ℕ) × IsOnContact contacts_here islands h
  of_contact h is =
      let on = (carry.contacts h).1 is in
      let v = on.2 in
      (ends_of_contact v.contact, (on.0, on.1, record { contact = v.contact; among = v.among; carries = refl; has = v.has }))

  -- two of them are of one cluster exactly where they carry the same islands
  same_islands : (a b : ℕ × ℕ) (p q : Half) → IsOnContact contacts_here a p → IsOnContact contacts_here b q → (a ≡ b) ↔ IsSameCluster covers cut p q
  same_islands a b p q k l =
      let v = k.2 in
      let w = l.2 in
      let same = carry.same v.contact w.contact p q v.among w.among (k.0, k.1, v.has) (l.0, l.1, w.has) in (
        λ e. same.0 (v.carries ∙ e ∙ sym w.carries),
        λ c. sym v.carries ∙ same.1 c ∙ w.carries,
      )

  module _ (groups : List ContactGroup) (grouped : AreGroupsOf contacts_here groups) where
    -- a group with a contact has the half squares of its cluster
    pub group_is_cluster : (group : ContactGroup) (contact h : Half) → Contains groups group → IsOn (IsInUnion group.rects) contact
        → IsOn (IsInUnion group.rects) h ↔ IsInClusterOf covers cut contact h
    group_is_cluster group contact h listed has =
        let ends = ends_of_group group in
        let k = (group_has contacts_here groups grouped group contact listed).0 has in (
          λ on.
              let l = (group_has contacts_here groups grouped group h listed).0 on in
              (is_contact ends contact k, is_contact ends h l, (same_islands ends ends contact h k l).0 refl),
          λ c.
              let l = of_contact h c.1 in
              let e = (same_islands ends l.0 contact h k l.1).1 c.2 in
              (group_has contacts_here groups grouped group h listed).1 (subst (λ islands. IsOnContact contacts_here islands h) (sym e) l.1),
        )

    -- each contact is in a group
    pub record IsInGroup (h : Half) : Type 0 where
      pub place : ℕ
      pub group : ContactGroup
      pub numbered : slice_get groups place ≡ Some group
      pub on : IsOn (IsInUnion group.rects) h

    pub group_at : (h : Half) → IsContact covers cut h → IsInGroup h
    group_at h is =
        let k = of_contact h is in
        let g = group_with contacts_here groups grouped k.0 h k.1 in
        let listed = Contains-slice_get groups g.number g.group g.at in
        record {
          place = g.number;
          group = g.group;
          numbered = g.at;
          on = (group_has contacts_here groups grouped g.group h listed).1 (subst (λ islands. IsOnContact contacts_here islands h) (sym g.ends) k.1);
        }

    -- groups under different numbers are different clusters
    pub groups_apart : (i k : ℕ) (a b : ContactGroup) (p q : Half) → slice_get groups i ≡ Some a → slice_get groups k ≡ Some b → i ≢ k
        → IsOn (IsInUnion a.rects) p → IsOn (IsInUnion b.rects) q → IsInClusterOf covers cut p q → ⊥
    groups_apart i k a b p q at_i at_k apart p_on q_on c =
        let one = (group_has contacts_here groups grouped a p (Contains-slice_get groups i a at_i)).0 p_on in
        let other = (group_has contacts_here groups grouped b q (Contains-slice_get groups k b at_k)).0 q_on in
        one_group contacts_here groups grouped i k a b at_i at_k apart ((same_islands (ends_of_group a) (ends_of_group b) p q one other).1 c.2)
