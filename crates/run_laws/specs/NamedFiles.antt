-- files that hold the same where a task looks
use Rattle.std.specs.Prelude.{ℕ, ◌≡◌, List, Contains}
use Rattle.command_line.specs.declared.task.Task.{Task}
use Rattle.critarea_core.specs.Contents.{Contents, layout_source, map_names, names_in}

-- the file that the task names as the map holds the same as a map, and the one that it names as the layout the same as a layout
pub record HoldTheSame (task : Task) (contents other : Contents) : Type 0 where
  pub map : (name : List ℕ) → Contains (map_names task) name → contents.map name ≡ other.map name
  pub layout : (name : List ℕ) → Contains (names_in (layout_source task)) name → contents.layout name ≡ other.layout name
