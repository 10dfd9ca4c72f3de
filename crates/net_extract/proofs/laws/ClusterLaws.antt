-- groups of contact pieces are via clusters
use Rattle.geo_core.specs.Plane.{Has, IsCoveredIn}
use Rattle.geo_core.specs.declared.plane.Cell.{Cell}
use Rattle.geo_core.specs.declared.plane.Rect.{Rect}
use Rattle.fault_model.specs.FaultNames.{Cut}
use Rattle.map_model.specs.MapNames.{LayerMap, MappedCut}
use Rattle.net_extract.specs.ContactGroups.{CarryClusters}
use Rattle.net_extract.specs.Cuts.{cut_of, cuts_of, numbered_cuts}
use Rattle.net_extract.specs.Extraction.{AreNetsOf}
use Rattle.net_extract.specs.NetLists.{NetLists, IsIslandCell, contacts_of}
use Rattle.net_extract.specs.declared.pieces.ContactPiece.{ContactPiece}
use Rattle.net_extract.proofs.IslandLaws.{got_mapped, got_unmapped}
use Rattle.net_extract.proofs.WalkLaws.{got_unnumbered}
use Rattle.std.proofs.Common.{ℕ, ◌≡◌, sym, ap, ◌∙◌, subst, List, Contains, Some, slice_get, length}

module _ (layer_map : LayerMap) (lists : List (List Rect)) (nets : NetLists) (number : ℕ) (cut : Cut) (are : AreNetsOf layer_map lists nets)
    (at : slice_get (cuts_of layer_map) number ≡ Some cut) where
  abbrev pub pair : ℕ → ℕ → ℕ × ℕ
  pair i k = (i, k)

  -- the lower and the upper metal of the cut
  pub metals_at : slice_get nets.ends number ≡ Some (pair cut.lower cut.upper)
  metals_at =
      let numbered = got_unmapped cut_of (numbered_cuts layer_map) number cut at in
      let mapped = got_unnumbered (length layer_map.metals) layer_map.cuts number numbered.0 numbered.1 in
      let listed = got_mapped (λ (c : MappedCut). pair c.lower c.upper) layer_map.cuts number numbered.0.1 mapped.0 in
      ap (λ (xs : List (ℕ × ℕ)). slice_get xs number) are.ends ∙ listed ∙ ap (λ (c : Cut). Some (pair c.lower c.upper)) numbered.2

  lies : (contact : ContactPiece) (c : Cell) → Contains (contacts_of nets number) contact → Has contact.rect c
      → IsIslandCell nets cut.lower contact.lower c × IsIslandCell nets cut.upper contact.upper c
  lies contact c among has =
      let on = are.facts.contacts number contact among in
      let e : Some (pair on.lower on.upper) ≡ Some (pair cut.lower cut.upper) = sym on.ends ∙ metals_at in
      let f : pair on.lower on.upper ≡ pair cut.lower cut.upper = cc in (
        subst (λ m. IsIslandCell nets m contact.lower c) (ap (λ (p : ℕ × ℕ). p.0) f) (on.on_lower c has),
        subst (λ m. IsIslandCell nets m contact.upper c) (ap (λ (p : ℕ × ℕ). p.1) f) (on.on_upper c has),
      )

  pub carry_clusters : CarryClusters (IsCoveredIn lists) cut nets number
  carry_clusters = record {
    contacts = λ h. are.contacts number cut h at;
    same = λ one other p q one_among other_among p_on q_on.
        let a = lies one p_on.0 one_among p_on.2 in
        let b = lies other q_on.0 other_among q_on.2 in
        let low = are.islands cut.lower one.lower other.lower p q (p_on.0, p_on.1, a.0) (q_on.0, q_on.1, b.0) in
        let high = are.islands cut.upper one.upper other.upper p q (p_on.0, p_on.1, a.1) (q_on.0, q_on.1, b.1) in (
          λ e. (low.0 (ap (λ (x : ℕ × ℕ). x.0) e), high.0 (ap (λ (x : ℕ × ℕ). x.1) e)),
          λ joined. ap (λ i. pair i one.upper) (low.1 joined.0) ∙ ap (pair other.lower) (high.1 joined.1),
        );
  }
