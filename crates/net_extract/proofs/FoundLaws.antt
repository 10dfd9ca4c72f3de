-- islands that are found for terminals
use Rattle.std.proofs.Common.{ℕ, zero, suc, ◌+◌, ◌<◌, ◌≤◌, ◌≡◌, refl, sym, ap, ◌∙◌, subst, List, [], ◌∷◌, ◌++◌, length, set, replicate, length-set, arith, inl, inr, ◌⊎◌, Option, Some, None, slice_get}
use Rattle.lists.proofs.Words.{length-replicate, Contains-append_left, Contains-push, Contains-push_cases, slice_get_within}
use Rattle.geo_core.specs.declared.plane.Labelled.{Labelled}
use Rattle.map_model.specs.declared.layers.Terminal.{Terminal}
use Rattle.net_extract.specs.inside.LabelledCells.{HasLabelled, AreMeetings}
use Rattle.net_extract.specs.inside.Numbering.{islands_on}
use Rattle.net_extract.specs.inside.Anchoring.{IsTerminalAt, AreTerminalsOn, Meets, IsMarked, AreFound}
use Rattle.net_extract.specs.declared.pieces.ContactPiece.{ContactPiece}
use Rattle.net_extract.proofs.MetalLaws.{before_or_past}
use Rattle.fault_model.proofs.UnionLaws.{corner_of}
use Rattle.lists.proofs.Containing.{Contains-none}

-- ---- lists, item by item

-- what stands in a list after a write is what was written, or stood there before
got_set : {X : Type 0} (xs : List X) (i n : ℕ) (v x : X) → slice_get (set xs i v) n ≡ Some x → ((n ≡ i) × (v ≡ x)) ⊎ (slice_get xs n ≡ Some x)
got_set [] i n v x e = inr e
got_set (y ∷ xs) zero zero v x e = let same : v ≡ x = cc e in inl (refl, same)
got_set (y ∷ xs) zero (suc n) v x e = inr e
got_set (y ∷ xs) (suc i) zero v x e = inr e
got_set (y ∷ xs) (suc i) (suc n) v x e = elim (got_set xs i n v x e) [ inl s ↦ inl (ap suc s.0, s.1) | inr s ↦ inr s ]

got_set_same : {X : Type 0} (xs : List X) (i : ℕ) (v : X) → i < length xs → slice_get (set xs i v) i ≡ Some v
got_set_same [] i v small = absurd (omega arith)
got_set_same (y ∷ xs) zero v small = refl
got_set_same (y ∷ xs) (suc i) v small = got_set_same xs i v (omega arith)

got_replicate : {X : Type 0} (n k : ℕ) (v x : X) → slice_get (replicate n v) k ≡ Some x → v ≡ x
got_replicate zero k v x e = cc e
got_replicate (suc n) zero v x e = cc e
got_replicate (suc n) (suc k) v x e = got_replicate n k v x e

-- ---- marks

pub none_marked : (found : List (Option ℕ)) → IsMarked found [] found
none_marked found = record {
  one_each = refl;
  sound = λ number island at. inl at;
  had_none = λ number at. at;
  meets_none = λ number island at m. Contains-none m.among;
}

module _ (old new : List (Option ℕ)) (met : List ContactPiece) (is : IsMarked old met new) (meeting : ContactPiece) where
  abbrev more : List ContactPiece
  more = met ++ meeting ∷ []

  met_before : (number island : ℕ) → Meets met number island → Meets more number island
  met_before number island m = record { meeting = m.meeting; among = Contains-append_left met (meeting ∷ []) m.meeting m.among; lower_is = m.lower_is; upper_is = m.upper_is }

  -- a number that meets an island by the new meeting is that meeting's
  before_or_now : (number island : ℕ) → Meets more number island → Meets met number island ⊎ (meeting.lower ≡ number)
  before_or_now number island m = elim (Contains-push_cases met meeting m.meeting m.among) [
    | inl before ↦ inl (record { meeting = m.meeting; among = before; lower_is = m.lower_is; upper_is = m.upper_is })
    | inr now ↦ inr (ap (λ (x : ContactPiece). x.lower) now ∙ m.lower_is)
  ]

  pub mark_left_out : length new ≤ meeting.lower → IsMarked old more new
  mark_left_out past = record {
    one_each = is.one_each;
    sound = λ number island at. elim (is.sound number island at) [ inl h ↦ inl h | inr m ↦ inr (met_before number island m) ];
    had_none = is.had_none;
    meets_none = λ number island at m. elim (before_or_now number island m) [
      | inl before ↦ is.meets_none number island at before
      | inr same ↦ let small = slice_get_within new number None at in omega arith
    ];
  }

  marked : List (Option ℕ)
  marked = set new meeting.lower (Some meeting.upper)

  still_none : (number : ℕ) → slice_get (set new meeting.lower (Some meeting.upper)) number ≡ Some None → slice_get new number ≡ Some None
  still_none number at = elim (got_set new meeting.lower number (Some meeting.upper) None at) [ inl s ↦ let never = s.1 in cc never | inr h ↦ h ]

  pub mark_more : meeting.lower < length new → IsMarked old more (set new meeting.lower (Some meeting.upper))
  mark_more small = record {
    one_each = length-set new meeting.lower (Some meeting.upper) ∙ is.one_each;
    sound = λ number island at. elim (got_set new meeting.lower number (Some meeting.upper) (Some island) at) [
      | inl s ↦
          let same = s.1 in
          let upper_is : meeting.upper ≡ island = cc same in
          inr (record { meeting = meeting; among = Contains-push met meeting; lower_is = sym s.0; upper_is = upper_is })
      | inr h ↦ elim (is.sound number island h) [ inl g ↦ inl g | inr m ↦ inr (met_before number island m) ]
    ];
    had_none = λ number at. is.had_none number (still_none number at);
    meets_none = λ number island at m. elim (before_or_now number island m) [
      | inl before ↦ is.meets_none number island (still_none number at) before
      | inr same ↦
          let here = got_set_same new meeting.lower (Some meeting.upper) small in
          let there : slice_get (set new meeting.lower (Some meeting.upper)) meeting.lower ≡ Some None =
          subst (λ n. slice_get (set new meeting.lower (Some meeting.upper)) n ≡ Some None) (sym same) at in
          cc (here, there)
    ];
  }

-- ---- metal by metal

module _ (terminals : List Terminal) (islands : List (List Labelled)) where
  pub none_found : (count : ℕ) → count ≡ length terminals → AreFound terminals islands 0 (replicate count None)
  none_found count e = record {
    one_each = length-replicate count None ∙ e;
    on_island = λ number island terminal t_at at. let never = got_replicate count number None (Some island) at in cc never;
    on_none = λ number island terminal t_at at small. absurd (omega arith);
  }

  module _ (metal : ℕ) (old new : List (Option ℕ)) (cells : List Labelled) (met : List ContactPiece) (are : AreFound terminals islands metal old) (are_cells : AreTerminalsOn terminals metal cells)
      (meet : AreMeetings cells (islands_on islands metal) met) (is : IsMarked old met new) where
    -- a terminal's number meets an island exactly where the terminal stands on it
    stands : (number island : ℕ) (terminal : Terminal) → slice_get terminals number ≡ Some terminal → Meets met number island → HasLabelled (islands_on islands terminal.metal) island terminal.cell
    stands number island terminal at m =
        let cell = corner_of m.meeting.rect in
        let both = (meet number island cell.0).0 (record { contact = m.meeting; among = m.among; lower_is = m.lower_is; upper_is = m.upper_is; has = cell.1 }) in
        let t = are_cells.sound number cell.0 both.0 in
        let t_at = t.numbered in
        let same : t.terminal ≡ terminal = cc (at, t_at) in
        let metal_is = sym t.on_metal ∙ ap (λ (x : Terminal). x.metal) same in
        let cell_is = sym t.at ∙ ap (λ (x : Terminal). x.cell) same in
        subst (λ k. HasLabelled (islands_on islands k) island terminal.cell) metal_is (subst (HasLabelled (islands_on islands metal) island) cell_is both.1)

    meets : (number island : ℕ) (terminal : Terminal) → slice_get terminals number ≡ Some terminal → terminal.metal ≡ metal → HasLabelled (islands_on islands metal) island terminal.cell
        → Meets met number island
    meets number island terminal at e h =
        let t : IsTerminalAt terminals metal number terminal.cell = record { terminal = terminal; numbered = at; on_metal = e; at = refl } in
        let m = (meet number island terminal.cell).1 (are_cells.complete number terminal.cell h.labelled.rect t h.has, h) in
        record { meeting = m.contact; among = m.among; lower_is = m.lower_is; upper_is = m.upper_is }

    pub one_metal_more : AreFound terminals islands (metal + 1) new
    one_metal_more = record {
      one_each = is.one_each ∙ are.one_each;
      on_island = λ number island terminal at found. elim (is.sound number island found) [
        | inl before ↦ are.on_island number island terminal at before
        | inr m ↦ stands number island terminal at m
      ];
      on_none = λ number island terminal at found small h. elim (before_or_past terminal.metal metal) [
        | inl less ↦ are.on_none number island terminal at (is.had_none number found) less h
        | inr (inl e) ↦ is.meets_none number island found (meets number island terminal at e (subst (λ k. HasLabelled (islands_on islands k) island terminal.cell) e h))
        | inr (inr past) ↦ absurd (omega arith)
      ];
    }
