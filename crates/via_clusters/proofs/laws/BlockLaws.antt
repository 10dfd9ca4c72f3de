-- blocks of clusters are covered rectangles
use Rattle.std.proofs.Common.{ℕ, ◌+◌, ◌/◌, ◌≤◌, refl, sym, subst, ◌∙◌, arith, inl, inr, ℤ, neg_ℤ, ◌≤ℤ◌, ◌<ℤ◌, List, [], ◌↔◌, All, get_or, length}
use Rattle.lists.proofs.Words.{ints, leb_tells, get_or_past, All-contains, All-get_or, All-nil}
use Rattle.geo_core.specs.Plane.{Has, IsIn, IsInterval, IsInLayout, IsCoveredIn}
use Rattle.geo_core.specs.declared.bounds.TheConstants.{FARTHEST}
use Rattle.geo_core.specs.declared.plane.Cell.{Cell}
use Rattle.geo_core.specs.declared.plane.Rect.{Rect}
use Rattle.fault_model.specs.FaultNames.{IsBoundsOf, Cut, IsViaBlock, Tally}
use Rattle.fault_model.proofs.FaultLaws.{block_at}
use Rattle.fault_model.proofs.HalfLaws.{cell_on, some_half}
use Rattle.fault_model.proofs.TallyLaws.{Tally-same_all}
use Rattle.lists.proofs.Containing.{Contains-slice_get, all_of_each}
use Rattle.net_extract.specs.ContactGroups.{CarryClusters, ends_of_contact}
use Rattle.net_extract.specs.NetLists.{NetLists}
use Rattle.net_extract.proofs.laws.BesideLaws.{across_from, back_from}
use Rattle.via_clusters.specs.Blocks.{CoversSomeBox}
use Rattle.via_clusters.specs.Clusters.{AreClusterBoxes, IsClusterCell}
use Rattle.via_clusters.proofs.BoundLaws.{whole_covered, left_edge, right_edge, bottom_edge, top_edge}

module _ (covers : ℕ → Cell → Type 0) (cut : Cut) (nets : NetLists) (number : ℕ) (carry : CarryClusters covers cut nets number) (boxes : List Rect) (are : AreClusterBoxes nets number boxes) where
  abbrev IsBox : ℕ × ℕ → Rect → Type 0
  IsBox islands box = IsBoundsOf (IsClusterCell nets number islands) box

  to_box : (r : ℕ) (c : Cell) → 1 ≤ r → IsViaBlock covers cut (r + r) c → CoversSomeBox boxes r c
  to_box r c some block =
      let first = (carry.contacts block.contact).1 block.is_contact in
      let islands = ends_of_contact first.2.contact in
      let member : IsClusterCell nets number islands first.0 = record { contact = first.2.contact; among = first.2.among; carries = refl; has = first.2.has } in
      let found = across_from IsBox are.clusters boxes islands are.each ((are.exactly islands).1 (first.0, member)) in
      let all = whole_covered (IsClusterCell nets number islands) found.0 found.2 first.0 member (r + r) c (omega arith)
      (λ d k h lies. block.covered h ((carry.contacts h).0 (d, lies, record { contact = k.contact; among = k.among; has = k.has }))
      ((carry.same first.2.contact k.contact block.contact h first.2.among k.among (first.0, first.1, first.2.has) (d, lies, k.has)).0 (sym k.carries))) in
      record { box = found.0; among = found.1; covered = λ h on. all on.0 on.2 h on.1 }

  from_box : (r : ℕ) (c : Cell) → CoversSomeBox boxes r c → IsViaBlock covers cut (r + r) c
  from_box r c b =
      let found = back_from IsBox are.clusters boxes b.box are.each b.among in
      let member = (are.exactly found.0).0 found.1 in
      let half = some_half member.0 in
      let k = member.1 in
      record {
        contact = half.0;
        is_contact = (carry.contacts half.0).0 (member.0, half.1, record { contact = k.contact; among = k.among; has = k.has });
        covered = λ h is same.
            let on = (carry.contacts h).1 is in
            let carries = (carry.same k.contact on.2.contact half.0 h k.among on.2.among (member.0, half.1, k.has) (on.0, on.1, on.2.has)).1 same in
            b.covered h (on.0, on.1, found.2.all_in on.0 (record { contact = on.2.contact; among = on.2.among; carries = sym carries ∙ k.carries; has = on.2.has }));
      }

  pub block_is_box : (s : ℕ) (c : Cell) → 1 ≤ s → IsViaBlock covers cut s c ↔ CoversSomeBox boxes ((s + 1) / 2) c
  block_is_box s c some =
      let r = (s + 1) / 2 in
      let alike = block_at covers s some cut c in
      (λ block. to_box r c (omega arith) (alike.0 block), λ b. alike.1 (from_box r c b))

  pub tally_of_boxes : (s : ℕ) (cells : List Cell) (n : ℕ) → 1 ≤ s → Tally (CoversSomeBox boxes ((s + 1) / 2)) cells n → Tally (IsViaBlock covers cut s) cells n
  tally_of_boxes s cells n some t = Tally-same_all cells n (λ c. let alike = block_is_box s c some in (alike.1, alike.0)) t

-- ---- where the rectangles lie

list_within : (lists : List (List Rect)) (n : ℕ) → All (All IsInLayout) lists → All IsInLayout (get_or lists n [])
list_within lists n within = elim (leb_tells (length lists) n) [
  | inl past ↦ subst (All IsInLayout) (sym (get_or_past lists n [] past.1)) (All-nil IsInLayout)
  | inr small ↦ All-get_or (All IsInLayout) lists n [] small.1 within
]

from_edge : (far low high i : ℤ) → IsInterval far low high → IsIn low high i → neg_ℤ far ≤ℤ i
from_edge far low high i h k = let a = h.least in let b = k.from in omega (arith, ints)

before_edge : (far low high i : ℤ) → IsInterval far low high → IsIn low high i → i <ℤ far
before_edge far low high i h k = let a = h.most in let b = k.before in omega (arith, ints)

module _ (lists : List (List Rect)) (within : All (All IsInLayout) lists) (cut : Cut) (nets : NetLists) (number : ℕ) (carry : CarryClusters (IsCoveredIn lists) cut nets number)
    (boxes : List Rect) (are : AreClusterBoxes nets number boxes) where
  -- a cell of a cluster lies in a rectangle of the layout
  in_cut : (islands : ℕ × ℕ) (d : Cell) → IsClusterCell nets number islands d → (rect : Rect) × IsInLayout rect × Has rect d
  in_cut islands d k =
      let half = some_half d in
      let contact = (carry.contacts half.0).0 (d, half.1, record { contact = k.contact; among = k.among; has = k.has }) in
      let on = cell_on half.0 d half.1 contact.0 in
      let list = list_within lists cut.number within in
      (on.rect, All-contains IsInLayout _ on.rect list (Contains-slice_get _ on.number on.rect on.at), on.has)

  pub boxes_in_layout : All IsInLayout boxes
  boxes_in_layout = all_of_each IsInLayout boxes (λ box among.
      let found = back_from (λ (islands : ℕ × ℕ) (b : Rect). IsBoundsOf (IsClusterCell nets number islands) b) are.clusters boxes box are.each among in
      let member = (are.exactly found.0).0 found.1 in
      let cells = IsClusterCell nets number found.0 in
      let inside = λ (d : Cell) (k : cells d). in_cut found.0 d k in
      let left = left_edge cells box found.2 member.0 member.1 (neg_ℤ FARTHEST) (λ d k. let r = inside d k in from_edge FARTHEST r.0.x0 r.0.x1 d.i r.1.across r.2.across) in
      let right = right_edge cells box found.2 member.0 member.1 FARTHEST (λ d k. let r = inside d k in before_edge FARTHEST r.0.x0 r.0.x1 d.i r.1.across r.2.across) in
      let bottom = bottom_edge cells box found.2 member.0 member.1 (neg_ℤ FARTHEST) (λ d k. let r = inside d k in from_edge FARTHEST r.0.y0 r.0.y1 d.j r.1.up r.2.up) in
      let top = top_edge cells box found.2 member.0 member.1 FARTHEST (λ d k. let r = inside d k in before_edge FARTHEST r.0.y0 r.0.y1 d.j r.1.up r.2.up) in
      record {
        across = record { some = box.across.some; least = left; most = right };
        up = record { some = box.up.some; least = bottom; most = top };
      })
