-- rows that say the same are one
use Rattle.std.proofs.Common.{ℕ, ◌≡◌, ◌<◌, ◌≤◌, ◌^◌, List, subst, ap, ◌∙◌}
use Rattle.std.proofs.Math.Bridge.{le_prop}
use Rattle.map_model.specs.declared.limits.TheConstants.{GREATEST_WEIGHT}
use Rattle.map_model.specs.declared.measure.Measure.{Measure}
use Rattle.questions.specs.declared.kind.Kind.{Kind}
use Rattle.questions.specs.declared.row.Row.{Row}

abbrev row_with : Kind → List ℕ → Measure → (size area weight : ℕ) → area < 2 ^ 63 → weight ≤ GREATEST_WEIGHT → Row
row_with kind layer measure size area weight small_area small_weight =
    record { kind = kind; layer = layer; measure = measure; size = size; area = area; weight = weight; small_area = small_area; small_weight = small_weight }

-- the row is the one that says this, however its numbers are known to be small
abbrev Says : Row → Kind → List ℕ → Measure → ℕ → ℕ → ℕ → Type 0
Says row kind layer measure size area weight =
    (small_area : area < 2 ^ 63) (small_weight : weight ≤ GREATEST_WEIGHT) → row ≡ row_with kind layer measure size area weight small_area small_weight

says_its_fields : (row : Row) → Says row row.kind row.layer row.measure row.size row.area row.weight
says_its_fields row small_area small_weight =
    ap (λ known. row_with row.kind row.layer row.measure row.size row.area row.weight known row.small_weight) (le_prop row.small_area small_area)
    ∙ ap (row_with row.kind row.layer row.measure row.size row.area row.weight small_area) (le_prop row.small_weight small_weight)

pub same_row : (a b : Row) → a.kind ≡ b.kind → a.layer ≡ b.layer → a.measure ≡ b.measure → a.size ≡ b.size → a.area ≡ b.area → a.weight ≡ b.weight → a ≡ b
same_row a b kinds layers measures sizes areas weights = says b.small_area b.small_weight where
  says : Says a b.kind b.layer b.measure b.size b.area b.weight
  says = subst (Says a b.kind b.layer b.measure b.size b.area) weights
      (subst (λ area. Says a b.kind b.layer b.measure b.size area a.weight) areas
      (subst (λ size. Says a b.kind b.layer b.measure size a.area a.weight) sizes
      (subst (λ measure. Says a b.kind b.layer measure a.size a.area a.weight) measures
      (subst (λ layer. Says a b.kind layer a.measure a.size a.area a.weight) layers
      (subst (λ kind. Says a kind a.layer a.measure a.size a.area a.weight) kinds (says_its_fields a))))))
