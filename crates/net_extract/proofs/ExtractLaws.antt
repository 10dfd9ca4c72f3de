-- what layers come to
use Rattle.std.proofs.Common.{ℕ, ◌<◌, ◌≡◌, refl, sym, ◌∙◌, subst, List, ◌∷◌, length, map, All, Contains, Err}
use Rattle.lists.proofs.Words.{AllZip, enumerate_from, length-map, map-map, All-contains, All-weaker, Contains-append_right}
use Rattle.first_refusal.specs.Checks.{one_fails, IsRefusalOfFirst}
use Rattle.geo_core.specs.declared.plane.Cell.{Cell}
use Rattle.geo_core.specs.declared.plane.Labelled.{Labelled}
use Rattle.geo_core.specs.declared.plane.Rect.{Rect}
use Rattle.map_model.specs.MapNames.{MappedCut, JoinsMetals, metal_layer, mapped_cut, layer_map_of, terminal_of}
use Rattle.map_model.specs.declared.layers.Cut.{Cut as GivenCut}
use Rattle.map_model.specs.declared.layers.Terminal.{Terminal}
use Rattle.map_model.specs.declared.map.Map.{Map}
use Rattle.net_extract.specs.inside.Anchoring.{IsAnchorOf, IsOnIsland}
use Rattle.first_refusal.specs.Answers.{refuses, no_memory}
use Rattle.first_refusal.proofs.JudgeLaws.{Judges}
use Rattle.net_extract.specs.Extraction.{AreNetsOf, IsOnItsMetal, off_metal}
use Rattle.net_extract.specs.inside.Numbering.{AreIslandsOf, AreContactLists, AreNetNumbers, piece_of}
use Rattle.net_extract.specs.declared.fault.NetFault.{NetFault}
use Rattle.net_extract.specs.declared.fault.NetFault.TheVariants.{Memory}
use Rattle.net_extract.specs.declared.pieces.Anchor.{Anchor}
use Rattle.net_extract.specs.declared.pieces.ContactPiece.{ContactPiece}
use Rattle.net_extract.proofs.IslandLaws.{got_unmapped}
use Rattle.net_extract.proofs.MadeLaws.{made, covered, islands_tell, nets_tell, contacts_tell, anchor_places, are_nets}
use Rattle.net_extract.proofs.WalkLaws.{got_unnumbered, island_metal}
use Rattle.lists.proofs.Containing.{Contains-head, Contains-slice_get, number_of}

-- ---- terminals

module _ (lists : List (List Rect)) (metals count : ℕ) (islands : List (List Labelled)) (are : AreIslandsOf lists metals count islands) (terminals : List Terminal)
    (on_metals : All (λ (terminal : Terminal). terminal.metal < metals) terminals) where
  abbrev numbered : List (ℕ × (ℕ × Cell))
  numbered = enumerate_from 0 (map terminal_of terminals)

  to_metal : (n : ℕ × (ℕ × Cell)) → IsOnIsland islands n → IsOnItsMetal lists n
  to_metal n h = (are.covered n.1.0 n.1.1 (island_metal lists metals count islands are n.1.0 h.0 n.1.1 h.1)).0 h

  numbered_small : (n : ℕ × (ℕ × Cell)) → Contains numbered n → n.1.0 < metals
  numbered_small n among =
      let number = number_of numbered n among in
      let place = got_unnumbered 0 (map terminal_of terminals) number.0 n number.1 in
      let terminal = got_unmapped terminal_of terminals number.0 n.1 place.0 in
      subst (λ (p : ℕ × Cell). p.0 < metals) terminal.2 (All-contains (λ (t : Terminal). t.metal < metals) terminals terminal.0 on_metals (Contains-slice_get terminals number.0 terminal.0 terminal.1))

  pub all_on_metals : All (IsOnIsland islands) numbered → All (IsOnItsMetal lists) numbered
  all_on_metals all = All-weaker (IsOnIsland islands) (IsOnItsMetal lists) to_metal numbered all

  pub first_off_metal : (fault : NetFault) → IsRefusalOfFirst (IsOnIsland islands) numbered off_metal fault → IsRefusalOfFirst (IsOnItsMetal lists) numbered off_metal fault
  first_off_metal fault r =
      let f = r.is_first in
      let among = subst (λ xs. Contains xs r.check) (sym f.parts) (Contains-append_right f.before (r.check ∷ f.after) r.check (Contains-head r.check f.after)) in
      record {
        check = r.check;
        is_first = record {
          before = f.before;
          after = f.after;
          parts = f.parts;
          all_before = All-weaker (IsOnIsland islands) (IsOnItsMetal lists) to_metal f.before f.all_before;
          fails = λ on. f.fails ((are.covered r.check.1.0 r.check.1.1 (numbered_small r.check among)).1 on);
        };
        is_its_refusal = r.is_its_refusal;
      }

  -- the answer for terminals, where it is refused, is the answer for the layers
  pub refused_alike : {V W : Type 0} (Is : V → Type 0) (Gives : W → Type 0) (fault : NetFault) → Judges Memory (IsOnIsland islands) numbered off_metal Is (Err fault)
      → Judges Memory (IsOnItsMetal lists) numbered off_metal Gives (Err fault)
  refused_alike Is Gives fault (refuses (one_fails r)) = refuses (one_fails (first_off_metal fault r))
  refused_alike Is Gives _ no_memory = no_memory

-- ---- nets

module _ (given : Map) (lists : List (List Rect)) (islands : List (List Labelled)) (nets : List ℕ) (contacts : List (List ContactPiece)) (ends : List (ℕ × ℕ)) (anchors : List Anchor) (count : ℕ)
    (are : AreIslandsOf lists (length given.metals) count islands) (lists_are : AreContactLists lists islands given.cuts contacts) (numbers : AreNetNumbers count contacts nets)
    (ends_are : ends ≡ map (λ (cut : GivenCut). (cut.lower, cut.upper)) given.cuts) (zip : AllZip (IsAnchorOf islands) given.terminals anchors) where
  as_many : length given.metals ≡ length (map metal_layer given.metals)
  as_many = sym (length-map given.metals metal_layer)

  pub nets_are : AreNetsOf (layer_map_of given) lists (made islands nets contacts ends anchors given.contacts)
  nets_are =
      let metals = length (map metal_layer given.metals) in
      let are = subst (λ n. AreIslandsOf lists n count islands) as_many are in
      let joins = subst (λ n. All (JoinsMetals n) given.cuts) as_many given.cuts_join in
      record {
        covered = covered islands nets contacts ends anchors given.contacts lists metals count are given.cuts joins lists_are;
        islands = islands_tell islands nets contacts ends anchors given.contacts lists metals count are given.cuts joins lists_are;
        nets = nets_tell islands nets contacts ends anchors given.contacts lists metals count are given.cuts joins lists_are numbers;
        metals = length-map islands (map (piece_of nets)) ∙ are.one_each;
        cuts = lists_are.one_each ∙ sym (length-map given.cuts mapped_cut);
        terminals = refl;
        ends = ends_are ∙ sym (map-map (λ (cut : MappedCut). (cut.lower, cut.upper)) mapped_cut given.cuts);
        contacts = contacts_tell islands nets contacts ends anchors given.contacts lists metals count are given.cuts joins lists_are;
        anchors = anchor_places islands given.terminals anchors zip;
        facts = are_nets islands nets contacts ends anchors given.contacts lists metals count are given.cuts joins lists_are given.terminals ends_are zip given.terminals_differ;
      }
