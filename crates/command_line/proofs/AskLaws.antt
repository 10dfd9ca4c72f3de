-- what words ask for, by what they give
use Rattle.std.proofs.Common.{ℕ, ◌≤◌, List, refl, [], ◌∷◌, ◌≡◌, ◌∙◌, sym, ap, arith, length, subst, Option, Some, None, Result, Ok, Err, IfErr, IsErrAnd}
use Rattle.lists.proofs.Words.{All-weaker}
use Rattle.command_line.specs.declared.cause.Refusal.{Refusal}
use Rattle.command_line.specs.declared.cause.Refusal.TheVariants.{Words, Memory}
use Rattle.command_line.specs.declared.cause.WordsCause.{WordsCause}
use Rattle.command_line.specs.declared.option_name.OptionName.{OptionName}
use Rattle.command_line.specs.declared.option_name.OptionName.TheVariants.{Map, Top, Tile, Workers, Layer, Datatype, Radius, Generate, Pairs, Probe}
use Rattle.command_line.specs.declared.option_name.OptionName.TheVariants.{Regions}
use Rattle.command_line.specs.declared.request.Request.{Request}
use Rattle.command_line.specs.declared.task.Task.{Task}
use Rattle.command_line.specs.inside.Arguments.{AreSingle}
use Rattle.command_line.specs.inside.WordsRefusals.{HasCause, IsFirstCause}
use Rattle.command_line.specs.OptionNames.{Text}
use Rattle.command_line.specs.Requests.{AreRegionsOnce, Ask, GiveNoOther, HasNoEmptyText, IsCellOnce, IsNumberOnce, IsNumberOrDefault}
use Rattle.command_line.specs.Requests.{IsTextIfGiven, as_given as number_given, left_out, IsTask, of_one_metal, of_map, of_pairs, of_probe}
use Rattle.command_line.specs.Requests.{of_regions, of_generator, options_for, IsRequestOf, values_of}
use Rattle.command_line.specs.Spelling.{Given, AreSpelled}
use Rattle.command_line.specs.WordsCauses.{IsCauseOf, bad_number, no_cell, bad_column, bad_row, no_region, bad_kind, bad_layer_name}
use Rattle.command_line.specs.WordsCauses.{bad_size_number, no_layout, layout_beside_generate, beside_generate, beside_map, no_map, two_tasks}
use Rattle.command_line.specs.WordsCauses.{beside_task, missing, no_metals, metal_options}
use Rattle.command_line.proofs.SpellingLaws.{spellings_agree}

-- ---- the same values ask for the same

module _ (v w : OptionName → List Text) (p q : List Text) (same : (name : OptionName) → v name ≡ w name) (at : p ≡ q) where
  once_moved : (name : OptionName) (low high n : ℕ) → IsNumberOnce low high (v name) n → IsNumberOnce low high (w name) n
  once_moved name low high n = subst (λ t. IsNumberOnce low high t n) (same name)

  default_moved : (name : OptionName) (low high default n : ℕ) → IsNumberOrDefault low high default (v name) n → IsNumberOrDefault low high default (w name) n
  default_moved name low high default n = subst (λ t. IsNumberOrDefault low high default t n) (same name)

  task_moved : (task : Task) → IsTask v p task → IsTask w q task
  task_moved task (of_one_metal {layer = a} {datatype = b} {radius = c} layout layer datatype radius top) =
      of_one_metal (sym at ∙ layout) (once_moved Layer 0 65535 a layer) (once_moved Datatype 0 65535 b datatype) (once_moved Radius 1 1000000 c radius) (sym (same Top) ∙ top)
  task_moved task (of_map layout map top) = of_map (sym at ∙ layout) (sym (same Map) ∙ map) (sym (same Top) ∙ top)
  task_moved task (of_pairs {size = n} layout map size top) =
      of_pairs (sym at ∙ layout) (sym (same Map) ∙ map) (once_moved Pairs 1 32 n size) (sym (same Top) ∙ top)
  task_moved task (of_probe {cell = c} layout map cell top) =
      of_probe (sym at ∙ layout) (sym (same Map) ∙ map) (subst (λ t. IsCellOnce t c) (same Probe) cell) (sym (same Top) ∙ top)
  task_moved task (of_regions {kind = k} {layer = l} {size = n} layout map once top) =
      of_regions (sym at ∙ layout) (sym (same Map) ∙ map) (subst (λ t. AreRegionsOnce t k l n) (same Regions) once) (sym (same Top) ∙ top)
  task_moved task (of_generator {columns = n} none columns) = of_generator (sym at ∙ none) (once_moved Generate 1 500 n columns)

  pub request_moved : (request : Request) → IsRequestOf v p request → IsRequestOf w q request
  request_moved request asked = record {
    task = task_moved request.task asked.task;
    edge = default_moved Tile 1 1000000000 65536 request.edge asked.edge;
    workers = default_moved Workers 1 64 4 request.workers asked.workers;
    no_other = λ name out. sym (same name) ∙ asked.no_other name out;
  }

  cause_moved : (cause : WordsCause) → IsCauseOf v p cause → IsCauseOf w q cause
  cause_moved cause (bad_number {name = name} within one none) = bad_number within (sym (same name) ∙ one) none
  cause_moved cause (no_cell one none) = no_cell (sym (same Probe) ∙ one) none
  cause_moved cause (bad_column one parts none) = bad_column (sym (same Probe) ∙ one) parts none
  cause_moved cause (bad_row one parts column none) = bad_row (sym (same Probe) ∙ one) parts column none
  cause_moved cause (no_region one none) = no_region (sym (same Regions) ∙ one) none
  cause_moved cause (bad_kind one parts none) = bad_kind (sym (same Regions) ∙ one) parts none
  cause_moved cause (bad_layer_name kind one parts none) = bad_layer_name kind (sym (same Regions) ∙ one) parts none
  cause_moved cause (bad_size_number kind one parts name none) = bad_size_number kind (sym (same Regions) ∙ one) parts name none
  cause_moved cause (no_layout none columns) = no_layout (sym at ∙ none) (sym (same Generate) ∙ columns)
  cause_moved cause (layout_beside_generate one columns) = layout_beside_generate (sym at ∙ one) (λ none. columns (same Generate ∙ none))
  cause_moved cause (beside_generate {name = name} columns listed some) = beside_generate (λ none. columns (same Generate ∙ none)) listed (λ none. some (same name ∙ none))
  cause_moved cause (beside_map {name = name} map listed some) = beside_map (λ none. map (same Map ∙ none)) listed (λ none. some (same name ∙ none))
  cause_moved cause (no_map {name = name} none listed some) = no_map (sym (same Map) ∙ none) listed (λ none. some (same name ∙ none))
  cause_moved cause (two_tasks {asked = asked} {also = also} before behind are listed one other) =
      two_tasks before behind are listed (λ none. one (same asked ∙ none)) (λ none. other (same also ∙ none))
  cause_moved cause (beside_task {asked = asked} {name = name} listed some beside also) =
      beside_task listed (λ none. some (same asked ∙ none)) beside (λ none. also (same name ∙ none))
  cause_moved cause (missing {name = name} map columns listed none one) = missing (sym (same Map) ∙ map) (sym (same Generate) ∙ columns) listed (sym (same name) ∙ none)
      (record { name = one.name; listed = one.listed; given = λ none. one.given (same one.name ∙ none) })
  cause_moved cause (no_metals map columns none) = no_metals (sym (same Map) ∙ map) (sym (same Generate) ∙ columns)
      (All-weaker (λ name. v name ≡ []) (λ name. w name ≡ []) (λ name e. sym (same name) ∙ e) metal_options none)

-- the same values have the same first causes
module _ (v w : OptionName → List Text) (p q : List Text) (same : (name : OptionName) → v name ≡ w name) (at : p ≡ q) where
  pub refusal_moved : (refusal : Refusal) → HasCause (IsFirstCause (IsCauseOf v p)) refusal → HasCause (IsFirstCause (IsCauseOf w q)) refusal
  refusal_moved (Words cause) told = record {
    is = cause_moved v w p q same at cause told.is;
    first = λ other is. told.first other (cause_moved w v q p (λ name. sym (same name)) (sym at) other is);
  }
  refusal_moved Memory told = tt

-- ---- what words are refused for

-- what is passed on is refused for the same
pub refused : {T : Type 0} (r : Result T Refusal) (other : Refusal) (P : Refusal → Type 0) → IsErrAnd r (λ refusal. refusal ≡ other) → P other → IfErr r P
refused (Ok v) other P is has = tt
refused (Err refusal) other P is has = subst P (sym is) has

-- ---- what is asked for is given once

one_is_few : {A : Type 0} (xs : List A) (x : A) → xs ≡ x ∷ [] → length xs ≤ 1
one_is_few xs x e = omega (arith, ap length e)

none_is_few : {A : Type 0} (xs : List A) → xs ≡ [] → length xs ≤ 1
none_is_few xs e = omega (arith, ap length e)

module _ (low high : ℕ) (values : List Text) (n : ℕ) where
  once_is_few : IsNumberOnce low high values n → length values ≤ 1
  once_is_few once = one_is_few values once.text once.once

  default_is_few : (default : ℕ) → IsNumberOrDefault low high default values n → length values ≤ 1
  default_is_few default (number_given once) = once_is_few once
  default_is_few default (left_out e) = none_is_few values e

given_is_few : (values : List Text) (text : Option Text) → IsTextIfGiven values text → length values ≤ 1
given_is_few values None e = none_is_few values e
given_is_few values (Some text) e = one_is_few values text e

module _ (values : OptionName → List Text) (positions : List Text) where
  positions_few : (task : Task) → IsTask values positions task → length positions ≤ 1
  positions_few task (of_one_metal {layout = l} at _ _ _ _) = one_is_few positions l at
  positions_few task (of_map {layout = l} at _ _) = one_is_few positions l at
  positions_few task (of_pairs {layout = l} at _ _ _) = one_is_few positions l at
  positions_few task (of_probe {layout = l} at _ _ _) = one_is_few positions l at
  positions_few task (of_regions {layout = l} at _ _ _) = one_is_few positions l at
  positions_few task (of_generator none _) = none_is_few positions none

  values_few : (request : Request) → IsRequestOf values positions request → (task : Task) → IsTask values positions task → GiveNoOther values (options_for task)
      → (name : OptionName) → length (values name) ≤ 1
  values_few request asked task (of_one_metal {layer = n} _ layer _ _ _) others Layer = once_is_few 0 65535 (values Layer) n layer
  values_few request asked task (of_one_metal {datatype = n} _ _ datatype _ _) others Datatype = once_is_few 0 65535 (values Datatype) n datatype
  values_few request asked task (of_one_metal {radius = n} _ _ _ radius _) others Radius = once_is_few 1 1000000 (values Radius) n radius
  values_few request asked task (of_one_metal {top = t} _ _ _ _ top) others Top = given_is_few (values Top) t top
  values_few request asked task (of_map {map = m} _ map _) others Map = one_is_few (values Map) m map
  values_few request asked task (of_map {top = t} _ _ top) others Top = given_is_few (values Top) t top
  values_few request asked task (of_pairs {map = m} _ map _ _) others Map = one_is_few (values Map) m map
  values_few request asked task (of_pairs {size = n} _ _ size _) others Pairs = once_is_few 1 32 (values Pairs) n size
  values_few request asked task (of_pairs {top = t} _ _ _ top) others Top = given_is_few (values Top) t top
  values_few request asked task (of_probe {map = m} _ map _ _) others Map = one_is_few (values Map) m map
  values_few request asked task (of_probe _ _ once _) others Probe = one_is_few (values Probe) once.text once.once
  values_few request asked task (of_probe {top = t} _ _ _ top) others Top = given_is_few (values Top) t top
  values_few request asked task (of_regions {map = m} _ map _ _) others Map = one_is_few (values Map) m map
  values_few request asked task (of_regions _ _ once _) others Regions = one_is_few (values Regions) once.text once.once
  values_few request asked task (of_regions {top = t} _ _ _ top) others Top = given_is_few (values Top) t top
  values_few request asked task (of_generator {columns = n} _ columns) others Generate = once_is_few 1 500 (values Generate) n columns
  values_few request asked task is others Tile = default_is_few 1 1000000000 (values Tile) request.edge 65536 asked.edge
  values_few request asked task is others Workers = default_is_few 1 64 (values Workers) request.workers 4 asked.workers
  values_few request asked task is others name = none_is_few (values name) (others name refl)

-- ---- words that give this

module _ (words : List Text) (given : Given) (spelled : AreSpelled words given) (request : Request) where
  pub ask : HasNoEmptyText given → IsRequestOf (values_of given.options) given.positions request → Ask words request
  ask texts asked = record { given = given; spelled = spelled; texts = texts; asked = asked }

  is_given : (asks : Ask words request) → asks.given ≡ given
  is_given asks = spellings_agree words asks.given given asks.spelled spelled

  pub asks_for : Ask words request → IsRequestOf (values_of given.options) given.positions request
  asks_for asks = subst (λ (g : Given). IsRequestOf (values_of g.options) g.positions request) (is_given asks) asks.asked

  pub asks_by_texts : Ask words request → HasNoEmptyText given
  asks_by_texts asks = subst HasNoEmptyText (is_given asks) asks.texts

  pub asks_once : Ask words request → AreSingle given
  asks_once asks =
      let asked = asks_for asks in
      record {
        options = values_few (values_of given.options) given.positions request asked request.task asked.task asked.no_other;
        positions = positions_few (values_of given.options) given.positions request.task asked.task;
      }
