-- what words ask for lies within its limits, and a request is told by its contents
use Rattle.std.proofs.Common.{ℕ, ◌≡◌, List, ap, subst}
use Rattle.lists.proofs.Words.{props}
use Rattle.command_line.specs.OptionNames.{Text}
use Rattle.command_line.specs.RequestLimits.{IsWithin, IsWithinLimits, IsWithinLimits-prop}
use Rattle.command_line.specs.Requests.{IsNumberOnce, IsNumberOrDefault, as_given, left_out, IsTask, of_one_metal, of_map, of_pairs, of_probe}
use Rattle.command_line.specs.Requests.{of_regions, of_generator}
use Rattle.command_line.proofs.CellLaws.{coordinate_within}
use Rattle.command_line.specs.declared.option_name.OptionName.{OptionName}
use Rattle.command_line.specs.declared.request.Request.{Request}
use Rattle.command_line.specs.declared.task.Task.{Task}

number_within : (low high : ℕ) (values : List Text) (n : ℕ) → IsNumberOnce low high values n → IsWithin low high n
number_within low high values n h = record { least = h.number.least; most = h.number.most }

pub count_within : (low high default : ℕ) (values : List Text) (n : ℕ) → IsWithin low high default → IsNumberOrDefault low high default values n → IsWithin low high n
count_within low high default values n within (as_given h) = number_within low high values n h
count_within low high default values n within (left_out none) = within

pub task_within : (values : OptionName → List Text) (positions : List Text) (task : Task) → IsTask values positions task → IsWithinLimits task
task_within values positions task (of_one_metal p layer datatype radius top) =
    (number_within _ _ _ _ layer, number_within _ _ _ _ datatype, number_within _ _ _ _ radius)
task_within values positions task (of_map p map top) = tt
task_within values positions task (of_pairs p map size top) = number_within _ _ _ _ size
task_within values positions task (of_probe p map once top) =
    let is = once.is_cell in (coordinate_within is.column _ is.is_column, coordinate_within is.row _ is.is_row)
task_within values positions task (of_regions p map once top) = let is = once.is_region.is_size in record { least = is.least; most = is.most }
task_within values positions task (of_generator p columns) = number_within _ _ _ _ columns

abbrev RequestFacts : Task × ℕ × ℕ → Type 0
RequestFacts a = IsWithinLimits a.0 × IsWithin 1 1000000000 a.1 × IsWithin 1 64 a.2

abbrev request_with : (a : Task × ℕ × ℕ) → RequestFacts a → Request
request_with a f = record { task = a.0; edge = a.1; workers = a.2; task_limits = f.0; edge_limits = f.1; worker_limits = f.2 }

once : (a : Task × ℕ × ℕ) → IsProp (RequestFacts a)
once a = hlevel (props, IsWithinLimits-prop)

pub same_request : (s t : Request) → s.task ≡ t.task → s.edge ≡ t.edge → s.workers ≡ t.workers → s ≡ t
same_request s t tasks edges workers =
    let a : Task × ℕ × ℕ = (s.task, s.edge, s.workers) in
    let b : Task × ℕ × ℕ = (t.task, t.edge, t.workers) in
    let f : RequestFacts a = (s.task_limits, s.edge_limits, s.worker_limits) in
    let g : RequestFacts b = (t.task_limits, t.edge_limits, t.worker_limits) in
    let same : a ≡ b = cc (tasks, edges, workers) in
    let Tells : Task × ℕ × ℕ → Type 0 = λ y. (h : RequestFacts y) → request_with a f ≡ request_with y h in
    subst Tells same (λ (h : RequestFacts a). ap (request_with a) (once a f h)) g
