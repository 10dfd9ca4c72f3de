-- What is kept of an element is one thing at most.
use Rattle.std.proofs.Common.{◌≡◌, ◌↔◌, ℕ, ℤ, pos, negsuc, suc, ◌+ℤ◌, ◌*ℤ◌, ◌*◌, ◌/◌, ◌<◌, ◌≤◌, Bool, true, false, List, Option, Some, None, IsTrue, refl, sym, ap, ◌∙◌, arith, MatchOption}
use Rattle.lists.proofs.Words.{pos-*ℤ-negsuc, le-mul_of_pos_right, ints}
use Rattle.std.proofs.Math.IntN.{pos-*ℤ-pos}
use Rattle.std.proofs.Math.Nat.{mul-div_cancel_left}
use Rattle.library_grammar.specs.GrammarNames.{IsUnique, HasValue, Entry, IsShape, IsTurn, IsReference, IsLattice, IsKept, boundary, path, sref, aref, text, node, box, field, body_of, columns_of}
use Rattle.library_grammar.specs.GrammarNames.{rows_of, Leads}
use Rattle.geo_core.specs.declared.plane.Point.{Point}
use Rattle.gds_records.specs.declared.kinds.TheConstants as kind
use Rattle.gds_records.proofs.laws.Reals.{values_agree}
use Rattle.gds_records.proofs.laws.Bodies.{texts_agree}
use Rattle.library_model.specs.declared.element.Element.TheVariants.{Shape as shape_element, Reference as reference_element}
use Rattle.library_model.specs.declared.element.Reference.{Reference}
use Rattle.library_model.specs.declared.element.ShapeKind.{ShapeKind}
use Rattle.library_model.proofs.laws.SameParts.{same_shape, same_turn, same_lattice, same_reference}

shapes_agree : (at : ℕ) (shape_kind : ShapeKind) (datatype_kind : ℕ) (own : List Entry) → IsUnique (IsShape at shape_kind datatype_kind own)
shapes_agree at shape_kind datatype_kind own s t a b =
    same_shape s t (a.place ∙ sym b.place) (a.is_kind ∙ sym b.is_kind) (a.on_layer ∙ sym b.on_layer) (a.of_datatype ∙ sym b.of_datatype) (a.has_points ∙ sym b.has_points)

-- ---- turns

-- an angle is one number of quarters
quarters_tell : (angle : Option (List ℕ)) (q r : ℤ) → MatchOption angle (q ≡ pos 0) (λ body. HasValue body (pos 90 *ℤ q))
    → MatchOption angle (r ≡ pos 0) (λ body. HasValue body (pos 90 *ℤ r)) → q ≡ r
quarters_tell None q r a b = a ∙ sym b
quarters_tell (Some body) q r a b = let same : pos 90 *ℤ q ≡ pos 90 *ℤ r = values_agree body (pos 90 *ℤ q) (pos 90 *ℤ r) a b in omega (arith, ints)

-- of which those below four are told by all but whole circles
few_tell : (q r : ℕ) (c d : ℤ) → q < 4 → r < 4 → pos q +ℤ (pos 4 *ℤ c) ≡ pos r +ℤ (pos 4 *ℤ d) → q ≡ r
few_tell q r c d few also same = omega (arith, ints)

answers_agree : {P : Type 0} (b c : Bool) → IsTrue b ↔ P → IsTrue c ↔ P → b ≡ c
answers_agree true true a d = refl
answers_agree true false a d = sym (d.1 (a.0 refl))
answers_agree false true a d = a.1 (d.0 refl)
answers_agree false false a d = refl

turns_agree : (own : List Entry) → IsUnique (IsTurn own)
turns_agree own s t a b =
    let same = quarters_tell (field kind.ANGLE own) (pos s.quarters +ℤ (pos 4 *ℤ a.circles)) (pos t.quarters +ℤ (pos 4 *ℤ b.circles)) a.turns b.turns in
    same_turn s t (answers_agree s.reflect t.reflect a.mirrors b.mirrors) (few_tell s.quarters t.quarters a.circles b.circles s.whole t.whole same)

-- ---- arrays

-- a product by a count that is not 0 tells the other factor
module _ (n : ℕ) (some : 1 ≤ n) where
  product_tells_size : (a b : ℕ) → n * a ≡ n * b → a ≡ b
  product_tells_size a b same = sym (mul-div_cancel_left a some) ∙ ap (λ (p : ℕ). p / n) same ∙ mul-div_cancel_left b some

  product_tells : (a b : ℤ) → pos n *ℤ a ≡ pos n *ℤ b → a ≡ b
  product_tells (pos a) (pos b) same =
      let products : n * a ≡ n * b = cc (sym (pos-*ℤ-pos n a) ∙ same ∙ pos-*ℤ-pos n b) in
      ap pos (product_tells_size a b products)
  product_tells (pos a) (negsuc b) same =
      let products = sym (pos-*ℤ-pos n a) ∙ same ∙ pos-*ℤ-negsuc n b in
      let more : n ≤ n * suc b = le-mul_of_pos_right n (omega arith) in
      absurd (omega (arith, ints))
  product_tells (negsuc a) (pos b) same =
      let products = sym (pos-*ℤ-negsuc n a) ∙ same ∙ pos-*ℤ-pos n b in
      let more : n ≤ n * suc a = le-mul_of_pos_right n (omega arith) in
      absurd (omega (arith, ints))
  product_tells (negsuc a) (negsuc b) same =
      let products = sym (pos-*ℤ-negsuc n a) ∙ same ∙ pos-*ℤ-negsuc n b in
      let sizes : n * suc a ≡ n * suc b = omega (arith, ints) in
      let factors : suc a ≡ suc b = product_tells_size (suc a) (suc b) sizes in
      ap negsuc (omega arith)

  step_tells : (from to a b : ℤ) → from +ℤ (pos n *ℤ a) ≡ to → from +ℤ (pos n *ℤ b) ≡ to → a ≡ b
  step_tells from to a b one other = let products : pos n *ℤ a ≡ pos n *ℤ b = omega (arith, ints) in product_tells a b products

steps_agree : (n : ℕ) (count : ℤ) (from to : Point) (one other : ℤ × ℤ) → 1 ≤ n → pos n ≡ count → Leads count from to one → Leads count from to other → one ≡ other
steps_agree n count from to (across, up) (across', up') some is a b =
    let across_agree : across ≡ across' =
    step_tells n some from.x to.x across across' (ap (λ (k : ℤ). from.x +ℤ (k *ℤ across)) is ∙ a.across) (ap (λ (k : ℤ). from.x +ℤ (k *ℤ across')) is ∙ b.across)
    in
    let up_agree : up ≡ up' =
    step_tells n some from.y to.y up up' (ap (λ (k : ℤ). from.y +ℤ (k *ℤ up)) is ∙ a.up) (ap (λ (k : ℤ). from.y +ℤ (k *ℤ up')) is ∙ b.up)
    in
    cc

lattices_agree : (own : List Entry) → IsUnique (IsLattice own)
lattices_agree own s t a b =
    same_lattice s t (cc (a.columns ∙ sym b.columns)) (cc (a.rows ∙ sym b.rows))
    (steps_agree s.columns (columns_of own) _ _ s.column_step t.column_step s.some_columns a.columns a.steps.columns b.steps.columns)
    (steps_agree s.rows (rows_of own) _ _ s.row_step t.row_step s.some_rows a.rows a.steps.rows b.steps.rows)

-- ---- references

references_agree : (at : ℕ) (own : List Entry) (s t : Reference) → IsReference at own s → IsReference at own t → s.lattice ≡ t.lattice → s ≡ t
references_agree at own s t a b lattices =
    same_reference s t (a.place ∙ sym b.place) (texts_agree (body_of kind.SNAME own) s.target t.target a.is_target b.is_target)
    (turns_agree own s.turn t.turn a.is_turn b.is_turn) (a.is_origin ∙ sym b.is_origin) lattices

-- ---- what is kept

pub kept_agree : (at : ℕ) (own : List Entry) (k : ℕ) → IsUnique (IsKept at own k)
kept_agree at own k _ _ (boundary {shape = s} a) (boundary {shape = t} b) = ap (λ x. Some (shape_element x)) (shapes_agree at _ _ own s t a b)
kept_agree at own k _ _ (path {shape = s} a) (path {shape = t} b) = ap (λ x. Some (shape_element x)) (shapes_agree at _ _ own s t a b)
kept_agree at own k _ _ (box {shape = s} a) (box {shape = t} b) = ap (λ x. Some (shape_element x)) (shapes_agree at _ _ own s t a b)
kept_agree at own k _ _ (sref {reference = s} a none) (sref {reference = t} b none') =
    ap (λ x. Some (reference_element x)) (references_agree at own s t a b (none ∙ sym none'))
kept_agree at own k _ _ (aref {reference = s} {lattice = l} a some is) (aref {reference = t} {lattice = m} b some' is') =
    ap (λ x. Some (reference_element x)) (references_agree at own s t a b (some ∙ ap (λ x. Some x) (lattices_agree own l m is is') ∙ sym some'))
kept_agree at own k _ _ text text = refl
kept_agree at own k _ _ node node = refl
