-- a document gives one layer map at most, and bytes are one document at most
use Rattle.std.proofs.Common.{◌≡◌, ℕ, ℤ, List, [], ◌∷◌, map, Bool, Option, Some, refl, sym, ap, ◌∙◌, subst}
use Rattle.lists.proofs.Words.{AllZip, same_Some}
use Rattle.geo_core.specs.declared.plane.Cell.{Cell}
use Rattle.first_refusal.specs.Laws.{IsUnique}
use Rattle.toml.specs.Data.{Data, Members}
use Rattle.layer_map.specs.Documents.{GivesCut, GivesLayer, GivesMap, GivesTerminal, IsDocument}
use Rattle.map_model.specs.MapNames.{DefectSize, MappedCut, MappedLayer, names_of, sizes_of, LayerMap}
use Rattle.map_model.specs.declared.measure.Measure.{Measure}
use Rattle.lists.specs.Differing.{AreDifferent}
use Rattle.layer_map.specs.Values.{array_of, pair_value, cuts_in, terminals_in, values_in, whole_number}
use Rattle.layer_map.proofs.ValueLaws.{listed-items_of}
use Rattle.layer_map.proofs.SpelledLaws.{lists_tell}
use Rattle.layer_map.proofs.SeenLaws.{pair_tells}
use Rattle.layer_map.proofs.CutLaws.{one_metal_named}

-- what is read of each of some things is one list at most
zip_tells : {A B : Type 0} (R : A → B → Type 0) → ((a : A) (x y : B) → R a x → R a y → x ≡ y) → (ds : List A) (xs ys : List B) → AllZip R ds xs → AllZip R ds ys → xs ≡ ys
zip_tells R tells [] [] [] p q = refl
zip_tells R tells (d ∷ ds) (x ∷ xs) (y ∷ ys) p q = ap (λ z. z ∷ xs) (tells d x y p.0 q.0) ∙ ap (λ zs. y ∷ zs) (zip_tells R tells ds xs ys p.1 q.1)
zip_tells R tells [] xs (y ∷ ys) p q = absurd q
zip_tells R tells (d ∷ ds) xs [] p q = absurd q
zip_tells R tells ds xs ys p q = absurd p

arrays_tell : {A : Type 0} (written : A → Data) → ((one other : A) → written one ≡ written other → one ≡ other) → (there : Option Data) (xs ys : List A) → there ≡ Some (array_of (map written xs))
    → there ≡ Some (array_of (map written ys)) → xs ≡ ys
arrays_tell written tells there xs ys one other =
    lists_tell written tells xs ys (sym (listed-items_of (map written xs)) ∙ ap values_in (sym one ∙ other) ∙ listed-items_of (map written ys))

number_tells : (m n : ℕ) → whole_number m ≡ whole_number n → m ≡ n
number_tells m n same = cc same

layers_tell : (item : Data) (one other : MappedLayer) → GivesLayer item one → GivesLayer item other → one ≡ other
layers_tell item one other p q =
    let names : one.name ≡ other.name = cc (p.name, q.name) in
    let pairs : one.pairs ≡ other.pairs = arrays_tell pair_value pair_tells _ one.pairs other.pairs p.pairs q.pairs in
    ap (λ (n : List ℕ). record { name = n; pairs = one.pairs }) names ∙ ap (λ (ps : List (ℕ × ℕ)). record { name = other.name; pairs = ps }) pairs

module _ (metals : List MappedLayer) (differ : AreDifferent (names_of metals)) where
  cuts_tell : (item : Data) (one other : MappedCut) → GivesCut metals item one → GivesCut metals item other → one ≡ other
  cuts_tell item one other p q =
      let mapped : one.mapped ≡ other.mapped = layers_tell item one.mapped other.mapped p.layer q.layer in
      let lower : one.lower ≡ other.lower = one_metal_named metals _ one.lower other.lower differ p.lower q.lower in
      let upper : one.upper ≡ other.upper = one_metal_named metals _ one.upper other.upper differ p.upper q.upper in
      let made : MappedLayer → ℕ → ℕ → MappedCut = λ m l u. record { mapped = m; lower = l; upper = u } in
      let same : made one.mapped one.lower one.upper ≡ made other.mapped other.lower other.upper = cc (mapped, lower, upper) in same

  terminals_tell : (item : Data) (one other : ℕ × Cell) → GivesTerminal metals item one → GivesTerminal metals item other → one ≡ other
  terminals_tell item (m, c) (n, d) p q =
      let number : m ≡ n = one_metal_named metals _ m n differ p.metal q.metal in
      let columns : c.i ≡ d.i = cc (p.column, q.column) in
      let rows : c.j ≡ d.j = cc (p.row, q.row) in
      let made : ℕ → ℤ → ℤ → ℕ × Cell = λ k x y. (k, record { i = x; j = y }) in
      let same : made m c.i c.j ≡ made n d.i d.j = cc (number, columns, rows) in same

pub maps_tell : (document : Members) → IsUnique (GivesMap document)
maps_tell document one other p q =
    let metals : one.metals ≡ other.metals = zip_tells GivesLayer layers_tell _ one.metals other.metals p.metals q.metals in
    let cuts : one.cuts ≡ other.cuts = zip_tells (GivesCut one.metals) (cuts_tell one.metals p.names_differ) _ one.cuts other.cuts p.cuts
    (subst (λ (ms : List MappedLayer). AllZip (GivesCut ms) (cuts_in document) other.cuts) (sym metals) q.cuts) in
    let terminals : one.terminals ≡ other.terminals = zip_tells (GivesTerminal one.metals) (terminals_tell one.metals p.names_differ) _ one.terminals other.terminals p.terminals
    (subst (λ (ms : List MappedLayer). AllZip (GivesTerminal ms) (terminals_in document) other.terminals) (sym metals) q.terminals) in
    let numbers : p.numbers ≡ q.numbers = arrays_tell whole_number number_tells _ p.numbers q.numbers p.has_sizes q.has_sizes in
    let weights : p.weights ≡ q.weights = arrays_tell whole_number number_tells _ p.weights q.weights p.has_weights q.has_weights in
    let sizes : one.sizes ≡ other.sizes = p.sizes ∙ ap (λ (ns : List ℕ). sizes_of ns p.weights) numbers ∙ ap (λ (ws : List ℕ). sizes_of q.numbers ws) weights ∙ sym q.sizes in
    let measures : one.measure ≡ other.measure = p.measure ∙ sym q.measure in
    let contacts : one.contacts ≡ other.contacts = p.contacts ∙ sym q.contacts in
    let made : List MappedLayer → List MappedCut → Measure → List DefectSize → List (ℕ × Cell) → Bool → LayerMap =
    λ ms cs measure ss ts contacts. record { metals = ms; cuts = cs; measure = measure; sizes = ss; terminals = ts; contacts = contacts } in
    let same : made one.metals one.cuts one.measure one.sizes one.terminals one.contacts ≡ made other.metals other.cuts other.measure other.sizes other.terminals other.contacts =
    cc (metals, cuts, measures, sizes, terminals, contacts) in same

pub documents_agree : (bytes : List ℕ) → IsUnique (IsDocument bytes)
documents_agree bytes one other p q = same_Some _ _ (sym p.parsed ∙ q.parsed)
