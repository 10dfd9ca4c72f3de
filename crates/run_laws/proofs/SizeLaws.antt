-- where a size is refused that a task names
use Rattle.std.proofs.Common.{ℕ, ◌≤◌, ◌<◌, ◌-◌, ◌≡◌, ◌↔◌, arith, List, length, map, refl, sym, ap, subst, ◌∙◌, Option, inl, inr, lit≤}
use Rattle.std.proofs.lemmas.Bool.{cases_lt}
use Rattle.std.proofs.lemmas.List.{length-map}
use Rattle.std.proofs.lemmas.Option.{slice_get_within}
use Rattle.lists.proofs.Containing.{some_item}
use Rattle.first_refusal.specs.Outcomes.{refused, lacks, Then, stops, goes_on}
use Rattle.command_line.specs.RequestLimits.{IsWithinLimits}
use Rattle.command_line.specs.Requests.{Ask}
use Rattle.command_line.specs.declared.request.Request.{Request}
use Rattle.command_line.specs.declared.task.Task.{Task}
use Rattle.command_line.specs.declared.task.Task.TheVariants.{Pairs, Regions}
use Rattle.map_model.specs.MapNames.{LayerMap}
use Rattle.questions.specs.declared.kind.Kind.{Kind}
use Rattle.critarea_core.specs.Contents.{Contents}
use Rattle.critarea_core.specs.Inquiries.{IsSizeNumbered, QueryComesTo}
use Rattle.run_inputs.specs.declared.query.ListedSize.{ListedSize}
use Rattle.run_inputs.specs.declared.query.Query.TheVariants.{Pairs as for_pairs}
use Rattle.critarea_core.specs.Refusals.{no_such_size}
use Rattle.critarea_core.specs.Verdict.{IsVerdict, MapTextComesTo}
use Rattle.run_inputs.specs.declared.refusal.Refusal.{Refusal}
use Rattle.run_laws.specs.ListedSizes.{ListsFewer}
use Rattle.run_laws.proofs.NameLaws.{OnMapComesTo, task_outcome}
use Rattle.run_laws.proofs.StageLaws.{IsOfLack, no_layout_refuses_so, no_map_refuses_so}

-- ---- the sizes of a map

module _ (layer_map : LayerMap) (number : ℕ) where
  abbrev sizes : List ℕ
  sizes = map (λ listed. listed.size) layer_map.sizes

  as_many : length sizes ≡ length layer_map.sizes
  as_many = length-map layer_map.sizes (λ listed. listed.size)

  -- a size that has a number is one of so many
  pub number_within : (size : ListedSize) → IsSizeNumbered layer_map number size → number ≤ length layer_map.sizes
  number_within size is =
      let within : size.place < length sizes = slice_get_within sizes size.place size.size is.listed in
      omega (arith, within, as_many, is.counted)

  -- so a number behind them has none
  none_behind : length layer_map.sizes < number → (size : ListedSize) → IsSizeNumbered layer_map number size → ⊥
  none_behind fewer size is = let most = number_within size is in omega (arith, most, fewer)

  module _ (some : 1 ≤ number) where
    -- and each number of so many has a size
    pub size_at : number ≤ length layer_map.sizes → (size : ListedSize) × IsSizeNumbered layer_map number size
    size_at small =
        let found = some_item sizes (number - 1) (omega (arith, some, small, as_many)) in
        (record { place = number - 1; size = found.0 }, record { counted = omega (arith, some); listed = found.1 })

    -- a map in which it has none lists fewer
    fewer_where_none : (refusal : Refusal) (count : ℕ) → refusal ≡ no_such_size count → refusal ≡ no_such_size (length layer_map.sizes)
        → ((size : ListedSize) → IsSizeNumbered layer_map number size → ⊥) → (length layer_map.sizes ≡ count) × (count < number)
    fewer_where_none refusal count e is none =
        let same : length layer_map.sizes ≡ count = ap (λ (r : Refusal). r.place) (sym is ∙ e) in
        elim (cases_lt (length layer_map.sizes) number) [
          | inl fewer ↦ (same, omega (arith, fewer, same))
          | inr enough ↦ let found = size_at enough in absurd (none found.0 found.1)
        ]

-- ---- what tasks refuse that name a size

-- a map of too few sizes is refused with their number
abbrev LacksSizes : Task → ℕ → Type 0
LacksSizes task number = (layer_map : LayerMap) → length layer_map.sizes < number
    → QueryComesTo task layer_map (refused (no_such_size (length layer_map.sizes)))

-- and no other map is
abbrev HasElseSizes : Task → ℕ → Type 0
HasElseSizes task number = (layer_map : LayerMap) (refusal : Refusal) (count : ℕ) → refusal ≡ no_such_size count
    → QueryComesTo task layer_map (refused refusal) → (length layer_map.sizes ≡ count) × (count < number)

module _ (layout name : List ℕ) (top : Option (List ℕ)) (number : ℕ) (some : 1 ≤ number) where
  pairs_lack : LacksSizes (Pairs layout name top number) number
  pairs_lack layer_map fewer = lacks (λ query are. none_behind layer_map number fewer are.size are.numbered)

  pairs_have : HasElseSizes (Pairs layout name top number) number
  pairs_have layer_map refusal count e (lacks none) =
      fewer_where_none layer_map number some refusal count e refl
      (λ size is. none (for_pairs size) (record { size = size; numbered = is; is_asked = refl }))

  module _ (kind : Kind) (layer : List ℕ) where
    region_lacks : LacksSizes (Regions layout name top kind layer number) number
    region_lacks layer_map fewer = stops (lacks (none_behind layer_map number fewer))

    region_has : HasElseSizes (Regions layout name top kind layer number) number
    region_has layer_map refusal count e (stops (lacks none)) = fewer_where_none layer_map number some refusal count e refl none
    region_has layer_map refusal count e (goes_on numbered (lacks none)) =
        let numbers : 49 ≡ 48 = ap (λ (r : Refusal). r.number) e in absurd (omega (arith, numbers))

-- ---- the refusal of a task that names its map's file

module _ (task : Task) (text layout : List ℕ) (number count : ℕ) (lacking : LacksSizes task number) (else_has : HasElseSizes task number) where
  abbrev Comes : Refusal → Type 0
  Comes refusal = Then (MapTextComesTo text) (OnMapComesTo task layout) (refused refusal)

  refuses : ListsFewer text number count → Comes (no_such_size count)
  refuses is =
      let fewer : length is.layer_map.sizes < number = omega (arith, is.listed, is.fewer) in
      subst (λ (n : ℕ). Comes (no_such_size n)) is.listed (goes_on {v = is.layer_map} is.comes (stops (lacking is.layer_map fewer)))

  is_lack : (refusal : Refusal) → refusal ≡ no_such_size count → IsOfLack refusal.number
  is_lack refusal e = subst (λ (r : Refusal). IsOfLack r.number) (sym e) (lit≤ tt, lit≤ tt)

  refused_so : (refusal : Refusal) → refusal ≡ no_such_size count → Comes refusal → ListsFewer text number count
  refused_so refusal e (stops comes) = absurd (no_map_refuses_so text refusal comes (is_lack refusal e))
  refused_so refusal e (goes_on {v = layer_map} comes (stops lack)) =
      let is = else_has layer_map refusal count e lack in record { layer_map = layer_map; comes = comes; listed = is.0; fewer = is.1 }
  refused_so refusal e (goes_on comes (goes_on fits of_layout)) = absurd (no_layout_refuses_so _ _ _ _ refusal of_layout (is_lack refusal e))

  refused_where : Comes (no_such_size count) ↔ ListsFewer text number count
  refused_where = (refused_so (no_such_size count) refl, refuses)

module _ (words : List (List ℕ)) (request : Request) (layout name : List ℕ) (top : Option (List ℕ)) (contents : Contents)
    (asks : Ask words request) where
  abbrev IsRefused : ℕ → Type 0
  IsRefused count = IsVerdict words contents (refused (no_such_size count))

  pub pairs_size_is_refused : (number count : ℕ) → request.task ≡ Pairs layout name top number
      → IsRefused count ↔ ListsFewer (contents.map name) number count
  pairs_size_is_refused number count e =
      let some = (subst IsWithinLimits e request.task_limits).least in
      let task = Pairs layout name top number in
      let verdict = task_outcome words request task asks e contents (refused (no_such_size count)) in
      let same = refused_where task (contents.map name) (contents.layout layout) number count
      (pairs_lack layout name top number some) (pairs_have layout name top number some) in
      (λ is. same.0 (verdict.0 is), λ fewer. verdict.1 (same.1 fewer))

  pub region_size_is_refused : (kind : Kind) (layer : List ℕ) (number count : ℕ) → request.task ≡ Regions layout name top kind layer number
      → IsRefused count ↔ ListsFewer (contents.map name) number count
  region_size_is_refused kind layer number count e =
      let some = (subst IsWithinLimits e request.task_limits).least in
      let task = Regions layout name top kind layer number in
      let verdict = task_outcome words request task asks e contents (refused (no_such_size count)) in
      let same = refused_where task (contents.map name) (contents.layout layout) number count
      (region_lacks layout name top number some kind layer) (region_has layout name top number some kind layer) in
      (λ is. same.0 (verdict.0 is), λ fewer. verdict.1 (same.1 fewer))
