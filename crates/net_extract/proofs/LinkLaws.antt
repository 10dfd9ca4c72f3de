-- islands that contact pieces link
use Rattle.std.proofs.Common.{ℕ, ◌<◌, ◌≡◌, sym, ap, subst, List, map, get_or, arith, inl, inr, ◌⊎◌, Contains, ◌↔◌}
use Rattle.lists.proofs.Words.{flat_map, Contains-get_or, slice_get-get_or}
use Rattle.paths.proofs.PathLaws.{retold}
use Rattle.classes.specs.Classes.{AreBelow, IsPair, IsClasses}
use Rattle.classes.specs.ClassConsequences.{EqualWhereJoined}
use Rattle.net_extract.specs.inside.Numbering.{IsLink, AreNetNumbers}
use Rattle.net_extract.specs.declared.pieces.ContactPiece.{ContactPiece}
use Rattle.lists.proofs.Mapping.{Contains-flat_map, Contains-flat_map_from, Contains-map, Contains-map_from}

-- the two islands of a contact piece
abbrev pub carried : ContactPiece → ℕ × ℕ
carried contact = (contact.lower, contact.upper)

pub links_are : (contacts : List (List ContactPiece)) (links : List (ℕ × ℕ)) → links ≡ flat_map (map carried) contacts → (i k : ℕ) → Contains links (i, k) ↔ IsLink contacts i k
links_are contacts links e i k = (
  λ h.
      let in_list = Contains-flat_map_from (map carried) contacts (i, k) (subst (λ xs. Contains xs (i, k)) e h) in
      let found = Contains-map_from carried in_list.0 (i, k) in_list.2 in
      record { list = in_list.0; contact = found.0; listed = in_list.1; among = found.1; lower_is = ap (λ p. p.0) found.2; upper_is = ap (λ p. p.1) found.2 },
  λ l.
      let there = Contains-flat_map (map carried) contacts l.list (carried l.contact) l.listed (Contains-map carried l.list l.contact l.among) in
      let same : carried l.contact ≡ (i, k) = cc (l.lower_is, l.upper_is) in
      subst (λ xs. Contains xs (i, k)) (sym e) (subst (Contains (flat_map (map carried) contacts)) same there),
)

module _ (count : ℕ) (contacts : List (List ContactPiece)) (links : List (ℕ × ℕ)) (are : (i k : ℕ) → Contains links (i, k) ↔ IsLink contacts i k) where
  pub links_below : ((i k : ℕ) → IsLink contacts i k → (i < count) × (k < count)) → AreBelow count links
  links_below below n d small = let link = get_or links n d in below link.0 link.1 ((are link.0 link.1).0 (Contains-get_or links n d small))

  linked : (i k : ℕ) → IsPair links i k → IsLink contacts i k ⊎ IsLink contacts k i
  linked i k (inl c) = inl ((are i k).0 c)
  linked i k (inr c) = inr ((are k i).0 c)

  paired : (i k : ℕ) → IsLink contacts i k ⊎ IsLink contacts k i → IsPair links i k
  paired i k (inl l) = inl ((are i k).1 l)
  paired i k (inr l) = inr ((are k i).1 l)

  -- classes of the links are numbers of nets
  pub classes_are_nets : (nets : List ℕ) → IsClasses count links nets → EqualWhereJoined count links nets → AreNetNumbers count contacts nets
  classes_are_nets nets classes equal = record {
    one_each = classes.one_each;
    joined = λ i k i_small k_small.
        let one_each = classes.one_each in
        let tells = equal i k (get_or nets i 0) (get_or nets k 0) (slice_get-get_or nets i 0 (omega arith)) (slice_get-get_or nets k 0 (omega arith)) in (
          λ same. retold (λ a b h g p. inr (linked a b p)) (tells.0 same),
          λ path. tells.1 (retold (λ a b h g l. inr (paired a b l)) path),
        );
  }
