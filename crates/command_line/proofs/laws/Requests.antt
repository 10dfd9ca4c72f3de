-- words ask for one request at most
use Rattle.std.proofs.Common.{ℕ, List, ◌≡◌, ◌∙◌, sym, ap, refl, subst, Some, None}
use Rattle.std.specs.Str.Parse.{digits_value}
use Rattle.first_refusal.specs.Laws.{IsUnique}
use Rattle.command_line.specs.declared.option_name.OptionName.{OptionName}
use Rattle.command_line.specs.declared.option_name.OptionName.TheVariants.{Map, Top, Tile, Workers, Generate, Pairs, Probe, Regions}
use Rattle.command_line.specs.declared.task.Task.{Task}
use Rattle.questions.specs.declared.kind.Kind.{Kind}
use Rattle.command_line.specs.CellTexts.{IsCellText}
use Rattle.command_line.specs.OptionNames.{Text}
use Rattle.command_line.specs.RegionTexts.{IsRegionText}
use Rattle.command_line.specs.Spelling.{Given}
use Rattle.command_line.specs.Requests.{AreRegionsOnce, Ask, GiveNoOther, IsCellOnce, IsNumberOnce, IsNumberOrDefault, IsTextIfGiven, as_given}
use Rattle.command_line.specs.Requests.{left_out, IsTask, of_one_metal, of_map, of_pairs, of_probe, of_regions, of_generator, options_for}
use Rattle.command_line.specs.Requests.{IsRequestOf}
use Rattle.command_line.specs.Requests.{values_of}
use Rattle.command_line.proofs.CellLaws.{cell_is}
use Rattle.command_line.proofs.LimitLaws.{same_request}
use Rattle.command_line.proofs.RegionLaws.{region_is}
use Rattle.command_line.proofs.SpellingLaws.{spellings_agree}

-- ---- numbers and tasks

number_is : {low high : ℕ} {values : List Text} {m n : ℕ} → IsNumberOnce low high values m → IsNumberOnce low high values n → m ≡ n
number_is a b =
    let text : a.text ≡ b.text = let s = sym a.once ∙ b.once in cc s in
    sym a.number.value ∙ ap (λ t. digits_value 10 t) text ∙ b.number.value

number_or_default_is : (low high default : ℕ) (values : List Text) → IsUnique (IsNumberOrDefault low high default values)
number_or_default_is low high default values m n (as_given a) (as_given b) = number_is a b
number_or_default_is low high default values m n (as_given a) (left_out e) = let s = sym a.once ∙ e in cc s
number_or_default_is low high default values m n (left_out e) (as_given a) = let s = sym a.once ∙ e in cc s
number_or_default_is low high default values m n (left_out e) (left_out f) = refl

text_if_given_is : (values : List Text) → IsUnique (IsTextIfGiven values)
text_if_given_is values None None e f = refl
text_if_given_is values (Some t) (Some u) e f = let same : t ≡ u = let s = sym e ∙ f in cc s in ap (λ (x : Text). Some x) same
text_if_given_is values t u e f = let s = sym e ∙ f in cc s

cell_once_is : (values : List Text) → IsUnique (IsCellOnce values)
cell_once_is values c d a b =
    let text : b.text ≡ a.text = let s = sym b.once ∙ a.once in cc s in
    cell_is a.text c d a.is_cell (subst (λ t. IsCellText t d) text b.is_cell)

regions_once_are : (values : List Text) (one other : Kind) (a b : Text) (m n : ℕ) → AreRegionsOnce values one a m → AreRegionsOnce values other b n
    → (one ≡ other) × (a ≡ b) × (m ≡ n)
regions_once_are values one other a b m n x y =
    let text : y.text ≡ x.text = let s = sym y.once ∙ x.once in cc s in
    region_is x.text one other a b m n x.is_region (subst (λ t. IsRegionText t other b n) text y.is_region)

-- the same task for two requests
module _ (values : OptionName → List Text) (positions : List Text) where
  task_is : (one other : Task) → IsTask values positions one → IsTask values positions other
      → GiveNoOther values (options_for one) → GiveNoOther values (options_for other) → one ≡ other
  task_is one other (of_one_metal {layout = l} {layer = a} {datatype = b} {radius = c} {top = x} p layer datatype radius top)
      (of_one_metal {layout = m} {layer = d} {datatype = e} {radius = f} {top = y} q also_layer also_datatype also_radius also_top) g h =
      let named : l ≡ m = let s = sym p ∙ q in cc s in
      let la : a ≡ d = number_is layer also_layer in
      let da : b ≡ e = number_is datatype also_datatype in
      let ra : c ≡ f = number_is radius also_radius in
      let ta : x ≡ y = text_if_given_is (values Top) x y top also_top in
      cc (named, la, da, ra, ta)
  task_is one other (of_generator {columns = m} p columns) (of_generator {columns = n} q others) g h = let same : m ≡ n = number_is columns others in cc same
  task_is one other (of_map {layout = l} {map = a} {top = x} p map top) (of_map {layout = m} {map = b} {top = y} q also_map also_top) g h =
      let named : l ≡ m = let s = sym p ∙ q in cc s in
      let mapped : a ≡ b = let s = sym map ∙ also_map in cc s in
      let ta : x ≡ y = text_if_given_is (values Top) x y top also_top in
      cc (named, mapped, ta)
  task_is one other (of_pairs {layout = l} {map = a} {top = x} {size = n} p map size top) (of_pairs {layout = m} {map = b} {top = y} {size = k} q also_map also_size also_top) g h =
      let named : l ≡ m = let s = sym p ∙ q in cc s in
      let mapped : a ≡ b = let s = sym map ∙ also_map in cc s in
      let ta : x ≡ y = text_if_given_is (values Top) x y top also_top in
      let sa : n ≡ k = number_is size also_size in
      cc (named, mapped, ta, sa)
  task_is one other (of_probe {layout = l} {map = a} {top = x} {cell = c} p map cell top) (of_probe {layout = m} {map = b} {top = y} {cell = d} q also_map also_cell also_top) g h =
      let named : l ≡ m = let s = sym p ∙ q in cc s in
      let mapped : a ≡ b = let s = sym map ∙ also_map in cc s in
      let ta : x ≡ y = text_if_given_is (values Top) x y top also_top in
      let sa : c ≡ d = cell_once_is (values Probe) c d cell also_cell in
      cc (named, mapped, ta, sa)
  task_is one other (of_regions {layout = l} {map = a} {top = x} {kind = i} {layer = c} {size = n} p map once top)
      (of_regions {layout = m} {map = b} {top = y} {kind = j} {layer = d} {size = k} q also_map also_once also_top) g h =
      let named : l ≡ m = let s = sym p ∙ q in cc s in
      let mapped : a ≡ b = let s = sym map ∙ also_map in cc s in
      let ta : x ≡ y = text_if_given_is (values Top) x y top also_top in
      let same = regions_once_are (values Regions) i j c d n k once also_once in
      let kinds : i ≡ j = same.0 in
      let layers : c ≡ d = same.1 in
      let sizes : n ≡ k = same.2 in
      cc (named, mapped, ta, kinds, layers, sizes)
  -- each other task leaves out an option that this one gives
  task_is one other (of_pairs _ _ size _) b g h = let s = sym (h Pairs refl) ∙ size.once in cc s
  task_is one other a (of_pairs _ _ size _) g h = let s = sym (g Pairs refl) ∙ size.once in cc s
  task_is one other (of_probe _ _ cell _) b g h = let s = sym (h Probe refl) ∙ cell.once in cc s
  task_is one other a (of_probe _ _ cell _) g h = let s = sym (g Probe refl) ∙ cell.once in cc s
  task_is one other (of_regions _ _ regions _) b g h = let s = sym (h Regions refl) ∙ regions.once in cc s
  task_is one other a (of_regions _ _ regions _) g h = let s = sym (g Regions refl) ∙ regions.once in cc s
  task_is one other (of_generator _ columns) b g h = let s = sym (h Generate refl) ∙ columns.once in cc s
  task_is one other a (of_generator _ columns) g h = let s = sym (g Generate refl) ∙ columns.once in cc s
  task_is one other (of_map _ map _) b g h = let s = sym (h Map refl) ∙ map in cc s
  task_is one other a (of_map _ map _) g h = let s = sym (g Map refl) ∙ map in cc s

  -- options and positional words ask for one request at most
  request_is : IsUnique (IsRequestOf values positions)
  request_is one other a b =
      let task : one.task ≡ other.task = task_is one.task other.task a.task b.task a.no_other b.no_other in
      let edge : one.edge ≡ other.edge = number_or_default_is 1 1000000000 65536 (values Tile) one.edge other.edge a.edge b.edge in
      let workers : one.workers ≡ other.workers = number_or_default_is 1 64 4 (values Workers) one.workers other.workers a.workers b.workers in
      same_request one other task edge workers

pub requests_agree : (words : List Text) → IsUnique (Ask words)
requests_agree words one other a b =
    let same : a.given ≡ b.given = spellings_agree words a.given b.given a.spelled b.spelled in
    request_is (values_of b.given.options) b.given.positions one other (subst (λ (g : Given). IsRequestOf (values_of g.options) g.positions one) same a.asked) b.asked
