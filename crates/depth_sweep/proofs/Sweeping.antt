-- what a sweep knows between two events, and what changes it
use Rattle.std.proofs.Common.{ℕ, zero, suc, ◌+◌, ◌-◌, ◌*◌, ◌^◌, ◌<◌, ◌≤◌, ◌≡◌, refl, sym, ap, subst, ◌∙◌, arith, List, [], ◌∷◌, length, take, drop, get_or, Bool, true, false, cond, ◌&&◌, ℤ, pos, negsuc, ◌-ℤ◌, ◌≤ℤ◌, ◌<ℤ◌, sum_by, All, unsigned_abs, Contains}
use Rattle.lists.proofs.Words.{ints, flat_map, All-nil, All-cons, flat_map-append}
use Rattle.std.proofs.lemmas.List.Sorted.{All-permutation, length_permutation}
use Rattle.geo_core.specs.Plane.{Has, IsIn}
use Rattle.geo_core.specs.declared.plane.Cell.{Cell}
use Rattle.geo_core.specs.declared.plane.Rect.{Rect}
use Rattle.fault_model.specs.FaultNames.{Tally, range, row}
use Rattle.fault_model.proofs.RangeLaws.{Contains-range, length-range, Tally-start, Tally-join, Tally-times}
use Rattle.cover_tree.specs.Columns.{deep_width}
use Rattle.cover_tree.specs.TreeNodes.{TreeNode, IsNodeOf, IsLeastHeight, node_over, times_in_cut}
use Rattle.cover_tree.specs.CoverTrees.{Cover, count_of, depth_up_to, depth_at, width_of_depth, IsNew, KeepsColumns}
use Rattle.cover_tree.proofs.laws.DepthLaws.{in_range, put_depth, take_depth}
use Rattle.cover_tree.proofs.laws.ColumnLaws.{node_over_is}
use Rattle.depth_sweep.specs.declared.bar.Bar.{Bar}
use Rattle.depth_sweep.specs.declared.bar.Event.{Event}
use Rattle.depth_sweep.specs.inside.Bars.{has_column, has_row, bars_over, IsWithin, AreBarsOf}
use Rattle.depth_sweep.specs.declared.areas.Depth.{Depth}
use Rattle.depth_sweep.specs.declared.areas.Depth.TheVariants.{Once, Twice}
use Rattle.skyline_runs.specs.Depths.{depth_of}
use Rattle.depth_sweep.specs.inside.DeepCells.{IsDeep, least_of}
use Rattle.depth_sweep.specs.inside.Events.{begin_of, end_of, ends_of, AreEventsOf, IsPutOrTaken, IsBalanced}
use Rattle.depth_sweep.specs.inside.SweepPlaces.{ArePlaces, IsInColumn}
use Rattle.depth_sweep.proofs.EventLaws.{over, balance_all, at_row, IsMoved}
use Rattle.depth_sweep.proofs.RowTallies.{row_tally}
use Rattle.depth_sweep.proofs.Sums.{sum_by-same}

pub amount : (z : ℤ) → pos 0 ≤ℤ z → pos (unsigned_abs z) ≡ z
amount (pos n) h = refl
amount (negsuc n) h = absurd (omega (arith, ints))

-- ---- events of bars in a window

pub record IsEnd (window : Rect) (places : List ℤ) (e : Event) : Type 0 where
  pub high : e.high < length places
  pub low : window.y0 ≤ℤ e.row
  pub top : e.row ≤ℤ window.y1

module _ (window : Rect) (places : List ℤ) where
  ends_within : (bars : List Bar) → All (IsWithin window places) bars → All (IsEnd window places) (flat_map ends_of bars)
  ends_within [] all = All-nil (IsEnd window places)
  ends_within (bar ∷ bars) all =
      let w = all 0 bar (omega arith) in let up = bar.up in let b = w.bottom in let t = w.top in
      All-cons (IsEnd window places) (begin_of bar) (end_of bar ∷ flat_map ends_of bars) (record { high = w.high; low = b; top = omega (arith, ints) })
      (All-cons (IsEnd window places) (end_of bar) (flat_map ends_of bars) (record { high = w.high; low = omega (arith, ints); top = t })
      (ends_within bars (λ k d s. all (suc k) d (omega arith))))

  pub events_within : (bars : List Bar) (events : List Event) → AreEventsOf bars events → All (IsWithin window places) bars → All (IsEnd window places) events
  events_within bars events are all = All-permutation (IsEnd window places) (flat_map ends_of bars) events are.all (ends_within bars all)

two_each : (bars : List Bar) → length (flat_map ends_of bars) ≡ 2 * length bars
two_each [] = refl
two_each (bar ∷ bars) = let rest = two_each bars in omega (arith, rest)

pub how_many : (bars : List Bar) (events : List Event) → AreEventsOf bars events → length events ≡ 2 * length bars
how_many bars events are = length_permutation (flat_map ends_of bars) events are.all ∙ two_each bars

-- ---- what an event changes

pub keeps : (begins : Bool) (low high : ℕ) (old new : Cover) → IsPutOrTaken begins low high old new → KeepsColumns old new
keeps true low high old new put = put.keeps
keeps false low high old new taken = taken.keeps

pub count_moved : (begins : Bool) (low high : ℕ) (old new : Cover) → IsPutOrTaken begins low high old new → (node : TreeNode) → IsNodeOf old.height node
    → IsMoved begins (times_in_cut old.height low high node) (count_of old node) (count_of new node)
count_moved true low high old new put node n = put.counts node n
count_moved false low high old new taken node n = taken.counts node n

pub depth_moved : (begins : Bool) (low high : ℕ) (old new : Cover) → IsPutOrTaken begins low high old new → (column : ℕ) → column < 2 ^ old.height
    → IsMoved begins (in_range low high column) (depth_at old column) (depth_at new column)
depth_moved true low high old new put column small = put_depth low high old new put column small
depth_moved false low high old new taken column small = take_depth low high old new taken column small

-- a new tree has depth 0 everywhere
new_depth : (places : List ℤ) (tree : Cover) → IsNew places tree → (level column : ℕ) → level ≤ tree.height → column < 2 ^ tree.height → depth_up_to tree level column ≡ 0
new_depth places tree new zero column low small = new.counts (node_over 0 column) (node_over_is tree.height 0 column low small)
new_depth places tree new (suc level) column low small =
    let here = new.counts (node_over (suc level) column) (node_over_is tree.height (suc level) column low small) in
    let rest = new_depth places tree new level column (omega arith) small in
    omega (arith, here, rest)

-- ---- bars over a column

both_tests : (a b : Bool) → cond {A = ℕ} b (cond a 1 0) 0 ≡ cond (a && b) 1 0
both_tests true b = refl
both_tests false true = refl
both_tests false false = refl

over_columns : (bars : List Bar) (column : ℕ) (j : ℤ) → sum_by (over j (λ low high. in_range low high column)) bars ≡ bars_over bars column j
unfolding in_range
over_columns bars column j = sum_by-same _ _ bars (λ k d s. both_tests (has_column column (get_or bars k d)) (has_row j (get_or bars k d)))

-- ---- the sweep

-- after so many events the rows up to `reached` are counted, and what the tree has put is what is still to be taken
pub record IsSwept (window : Rect) (rects : List Rect) (places : List ℤ) (events : List Event) (least i : ℕ) (tree : Cover) (reached : ℤ) (total : ℕ) : Type 0 where
  pub columns : tree.places ≡ places
  pub tall : IsLeastHeight (length places - 1) tree.height
  pub counts : (node : TreeNode) → IsNodeOf tree.height node → IsBalanced (λ low high. times_in_cut tree.height low high node) (count_of tree node) (drop i events)
  pub depths : (column : ℕ) → column < 2 ^ tree.height → IsBalanced (λ low high. in_range low high column) (depth_at tree column) (drop i events)
  pub passed : All (λ e. e.row ≤ℤ reached) (take i events)
  pub left : All (λ e. reached ≤ℤ e.row) (drop i events)
  pub low : window.y0 ≤ℤ reached
  pub high : reached ≤ℤ window.y1
  pub tally : Tally (IsDeep rects least) (flat_map (row window) (range window.y0 reached)) total

-- what lists the sweep goes over
pub record IsSetting (window : Rect) (rects : List Rect) (places : List ℤ) (bars : List Bar) (events : List Event) : Type 0 where
  pub places_are : ArePlaces window rects places
  pub bars_are : AreBarsOf window rects places bars
  pub events_are : AreEventsOf bars events
  pub bars_some : 0 < length bars
  pub some : 1 ≤ length places

pub least_some : (depth : Depth) → 1 ≤ least_of depth
least_some Once = omega arith
least_some Twice = omega arith

-- where there is a bar, there is a column
pub some_columns : (window : Rect) (places : List ℤ) (bars : List Bar) → 0 < length bars → All (IsWithin window places) bars → 2 ≤ length places
some_columns window places [] some all = absurd (omega arith)
some_columns window places (bar ∷ bars) some all = let w = all 0 bar (omega arith) in let high = w.high in let across = bar.across in omega arith

pub setting_of : (window : Rect) (rects : List Rect) (places ps : List ℤ) (bars bs : List Bar) (events es : List Event) → ps ≡ places → bs ≡ bars → es ≡ events
    → ArePlaces window rects places → AreBarsOf window rects ps bars → AreEventsOf bs events → 0 < length bars → IsSetting window rects places bars es
setting_of window rects places ps bars bs events es p b e are over ends some =
    let within = subst (λ xs. AreBarsOf window rects xs bars) p over in
    record {
      places_are = are;
      bars_are = within;
      events_are = subst (AreEventsOf bars) (sym e) (subst (λ xs. AreEventsOf xs events) b ends);
      bars_some = some;
      some = let long = some_columns window places bars some within.within in omega arith;
    }

module _ (window : Rect) (rects : List Rect) (places : List ℤ) (bars : List Bar) (events : List Event) (setting : IsSetting window rects places bars events) (least : ℕ) (some : 1 ≤ least) where
  pub swept_begun : (tree : Cover) → IsNew places tree → IsSwept window rects places events least 0 tree window.y0 0
  swept_begun tree new = record {
    columns = new.places;
    tall = subst (λ (ps : List ℤ). IsLeastHeight (length ps - 1) tree.height) new.places new.height;
    counts = λ node n. subst (λ v. IsBalanced (λ low high. times_in_cut tree.height low high node) v events) (sym (new.counts node n)) (balance_all bars events setting.events_are _);
    depths = λ column small. subst (λ v. IsBalanced (λ low high. in_range low high column) v events) (sym (new_depth places tree new tree.height column (omega arith) small))
        (balance_all bars events setting.events_are _);
    passed = λ k d s. absurd (omega arith);
    left = λ k d s. (events_within window places bars events setting.events_are setting.bars_are.within k d s).low;
    low = omega (arith, ints);
    high = let u = window.up.some in omega (arith, ints);
    tally = Tally-start (IsDeep rects least) (flat_map (row window)) refl window.y0 window.y0 refl;
  }

  module _ (i : ℕ) (tree : Cover) (reached : ℤ) (total : ℕ) (s : IsSwept window rects places events least i tree reached total) (next : ℤ) (up : reached ≤ℤ next) (top : next ≤ℤ window.y1)
      (later : All (λ e. next ≤ℤ e.row) (drop i events)) where
    -- up to the next row the cells of a column are as deep as the tree has it
    depth_same : (j : ℤ) → reached ≤ℤ j → j <ℤ next → (column : ℕ) (c : Cell) → IsInColumn places column c.i → Has window c → c.j ≡ j → depth_of rects c ≡ depth_at tree column
    depth_same j from before column c here w e =
        let among = here.among in let enough = s.tall.enough in
        let at = at_row bars events setting.events_are (λ low high. in_range low high column) (depth_at tree column) i j
        (λ k d small. let h = s.passed k d small in omega (arith, ints)) (λ k d small. let h = later k d small in omega (arith, ints)) (s.depths column (omega arith)) in
        sym (setting.bars_are.same column c here w) ∙ ap (bars_over bars column) e ∙ sym (over_columns bars column j) ∙ sym at

    each_row : (j : ℤ) → Contains (range reached next) j → Tally (IsDeep rects least) (row window j) (width_of_depth least tree)
    each_row j among =
        let at = Contains-range reached next up j among in let a = at.from in let b = at.before in
        let l = s.low in
        let here : IsIn window.y0 window.y1 j = record { from = omega (arith, ints); before = omega (arith, ints) } in
        subst (λ (ps : List ℤ). Tally (IsDeep rects least) (row window j) (deep_width ps (depth_at tree) least 0 (length ps - 1))) (sym s.columns)
        (row_tally window rects places setting.places_are least some (depth_at tree) j here (depth_same j a b) setting.some)

    -- all rows up to the next one
    pub rows_tally : Tally (IsDeep rects least) (flat_map (row window) (range window.y0 next)) (total + width_of_depth least tree * unsigned_abs (next -ℤ reached))
    rows_tally =
        let long = length-range reached next (unsigned_abs (next -ℤ reached)) (amount (next -ℤ reached) (omega (arith, ints))) in
        let rows = Tally-times (IsDeep rects least) (row window) (range reached next) (width_of_depth least tree) each_row in
        let product : length (range reached next) * width_of_depth least tree ≡ width_of_depth least tree * unsigned_abs (next -ℤ reached)
        = ap (λ n. n * width_of_depth least tree) long ∙ omega arith in
        let more = subst (Tally (IsDeep rects least) (flat_map (row window) (range reached next))) product rows in
        Tally-join (IsDeep rects least) (flat_map (row window)) (flat_map-append (row window))
        window.y0 reached next total (width_of_depth least tree * unsigned_abs (next -ℤ reached)) s.low up s.tally more
