-- the steps of a sweep: one event, and the rows above the last
use Rattle.std.proofs.Common.{ℕ, ◌+◌, ◌-◌, ◌*◌, ◌^◌, ◌<◌, ◌≤◌, ◌≡◌, sym, ap, ap₂, subst, ◌∙◌, arith, List, length, drop, get_or, cond, IsTrue, ℤ, pos, ◌-ℤ◌, ◌≤ℤ◌, unsigned_abs}
use Rattle.lists.proofs.Words.{cond_both, ints, flat_map, All-more, mul-le, length-drop, length-map}
use Rattle.std.proofs.lemmas.List.{get_or-drop}
use Rattle.geo_core.specs.declared.plane.Rect.{Rect}
use Rattle.fault_model.specs.FaultNames.{Tally, range, row, cells_of}
use Rattle.fault_model.proofs.RangeLaws.{length-range, length-times}
use Rattle.fault_model.proofs.TallyLaws.{Tally-le-length}
use Rattle.cover_tree.specs.TreeNodes.{TreeNode, IsNodeOf, IsLeastHeight, is_in_cut, times_in_cut}
use Rattle.cover_tree.specs.CoverTrees.{Cover, columns_of, count_of, depth_at, width_of_depth}
use Rattle.cover_tree.proofs.laws.DepthLaws.{in_range}
use Rattle.depth_sweep.specs.declared.bar.Bar.{Bar}
use Rattle.depth_sweep.specs.declared.bar.Event.{Event}
use Rattle.depth_sweep.specs.inside.DeepCells.{IsDeep}
use Rattle.depth_sweep.specs.inside.Events.{MayHappen, IsAfter, IsBalanced}
use Rattle.depth_sweep.proofs.EventLaws.{low_before, high_from, closes, balance_next, may_happen}
use Rattle.depth_sweep.proofs.Sweeping.{IsEnd, IsSetting, IsSwept, events_within, keeps, count_moved, depth_moved, rows_tally, amount}

-- ---- so many cells a window has

as_long : (low high : ℤ) → low ≤ℤ high → pos (length (range low high)) ≡ high -ℤ low
as_long low high h =
    let e = amount (high -ℤ low) (omega (arith, ints)) in
    ap pos (length-range low high (unsigned_abs (high -ℤ low)) e) ∙ e

pub few_cells : (window : Rect) (rects : List Rect) (least : ℕ) (next : ℤ) (n : ℕ) → window.y0 ≤ℤ next → next ≤ℤ window.y1 → Tally (IsDeep rects least) (flat_map (row window) (range window.y0 next)) n
    → n < 2 ^ 63
few_cells window rects least next n low high t =
    let most = Tally-le-length (flat_map (row window) (range window.y0 next)) n t in
    let across = window.across in let up = window.up in
    let wide = as_long window.x0 window.x1 (let s = across.some in omega (arith, ints)) in
    let tall = as_long window.y0 next low in
    let cells = length-times (row window) (range window.y0 next) (length (range window.x0 window.x1)) (λ j. length-map (range window.x0 window.x1) (λ i. record { i = i; j = j })) in
    let l = across.least in let r = across.most in let b = up.least in let m = up.most in
    let columns : length (range window.x0 window.x1) ≤ 2002000000 = omega (arith, ints, wide, l, r) in
    let rows : length (range window.y0 next) ≤ 2002000000 = omega (arith, ints, tall, high, b, m) in
    let product = mul-le (length (range window.y0 next)) (length (range window.x0 window.x1)) 2002000000 2002000000 rows columns in
    omega (arith, most, cells, product)

-- ---- products, as a sum of cells has them

module _ (width' high' low' : ℤ) (w total result : ℕ) (high low : ℤ) (wide : width' ≡ pos w) (to : high' ≡ high) (from : low' ≡ low) where
  product_is : unsigned_abs width' * unsigned_abs (high' -ℤ low') ≡ w * unsigned_abs (high -ℤ low)
  product_is = ap (λ z. unsigned_abs z * unsigned_abs (high' -ℤ low')) wide ∙ ap₂ (λ h l. w * unsigned_abs (h -ℤ l)) to from

  pub product_fits : total + w * unsigned_abs (high -ℤ low) < 2 ^ 63 → unsigned_abs width' * unsigned_abs (high' -ℤ low') < 2 ^ 63
  product_fits room = let e = product_is in omega (arith, e, room)

  pub sum_is : result ≡ unsigned_abs width' * unsigned_abs (high' -ℤ low') → total + w * unsigned_abs (high -ℤ low) ≡ total + result
  sum_is is = let e = product_is in omega (arith, e, is)

  pub sum_fits : result ≡ unsigned_abs width' * unsigned_abs (high' -ℤ low') → total + w * unsigned_abs (high -ℤ low) < 2 ^ 63 → total + result < 2 ^ 63
  sum_fits is room = let e = product_is in omega (arith, e, is, room)

-- the steps of one event more
pub steps_next : (start old new i low high : ℕ) → high ≡ low → old ≤ start + i * (16 * (low + 1)) → new ≤ old + 16 * (low + 1) → new ≤ start + (i + 1) * (16 * (high + 1))
steps_next start old new i low high same spent more = subst (λ h. new ≤ start + (i + 1) * (16 * (h + 1))) (sym same) (omega (arith, spent, more))

module _ (window : Rect) (rects : List Rect) (places : List ℤ) (bars : List Bar) (events : List Event) (setting : IsSetting window rects places bars events) (least : ℕ) (some : 1 ≤ least)
    (i : ℕ) (tree : Cover) (reached : ℤ) (total : ℕ) (s : IsSwept window rects places events least i tree reached total) where
  -- ---- an event

  module _ (e : Event) (small : i < length events) (is : e ≡ get_or events i e) where
    end_is : IsEnd window places e
    end_is = subst (IsEnd window places) (sym is) (events_within window places bars events setting.events_are setting.bars_are.within i e small)

    not_lower : reached ≤ℤ e.row
    not_lower =
        let at = s.left 0 e (omega (arith, length-drop i events)) in
        let same = ap (λ (o : Event). o.row) (get_or-drop i events 0 e ∙ ap (λ n. get_or events n e) (omega arith) ∙ sym is) in
        omega (arith, ints)

    pub tally_before : Tally (IsDeep rects least) (flat_map (row window) (range window.y0 e.row)) (total + width_of_depth least tree * unsigned_abs (e.row -ℤ reached))
    tally_before = let k = end_is in
        rows_tally window rects places bars events setting least some i tree reached total s e.row not_lower k.top (high_from bars events setting.events_are i e small is i (omega arith))

    pub room_before : total + width_of_depth least tree * unsigned_abs (e.row -ℤ reached) < 2 ^ 63
    room_before = let k = end_is in few_cells window rects least e.row _ k.low k.top tally_before

    pub within : e.high ≤ columns_of tree
    within = let k = end_is in let h = k.high in let long = ap (λ (ps : List ℤ). length ps) s.columns in omega (arith, h, long)

    pub may_apply : length events < 2 ^ 64 → (node : TreeNode) → IsNodeOf tree.height node → IsTrue (is_in_cut tree.height e.low e.high node) → MayHappen e.begins (count_of tree node)
    may_apply short node n cut = may_happen (λ low high. times_in_cut tree.height low high node) events i e small is (count_of tree node) short
        (λ low high. cond_both (is_in_cut tree.height low high node) 1 0 (λ times. times ≤ 1) (λ t. omega arith) (λ t. omega arith))
        (ap (λ in_cut. cond in_cut 1 0) cut)
        (closes bars events setting.events_are (i + 1) e (λ low high. times_in_cut tree.height low high node)) (s.counts node n)

    pub swept_next : (new : Cover) → IsAfter e tree new → IsSwept window rects places events least (i + 1) new e.row (total + width_of_depth least tree * unsigned_abs (e.row -ℤ reached))
    swept_next new after =
        let k = keeps e.begins e.low e.high tree new after in let at = end_is in
        record {
          columns = k.places ∙ s.columns;
          tall = subst (λ h. IsLeastHeight (length places - 1) h) (sym k.height) s.tall;
          counts = λ node n.
              let before = subst (λ h. IsNodeOf h node) k.height n in
              subst (λ h. IsBalanced (λ low high. times_in_cut h low high node) (count_of new node) (drop (i + 1) events)) (sym k.height)
              (balance_next (λ low high. times_in_cut tree.height low high node) events i e small is (count_of tree node) (count_of new node)
              (count_moved e.begins e.low e.high tree new after node before) (s.counts node before));
          depths = λ column few.
              let before = subst (λ h. column < 2 ^ h) k.height few in
              balance_next (λ low high. in_range low high column) events i e small is (depth_at tree column) (depth_at new column)
              (depth_moved e.begins e.low e.high tree new after column before) (s.depths column before);
          passed = All-more (λ o. o.row ≤ℤ e.row) events i e small (low_before bars events setting.events_are i e small is)
              (let same = ap (λ (o : Event). o.row) is in omega (arith, ints));
          left = high_from bars events setting.events_are i e small is (i + 1) (omega arith);
          low = at.low;
          high = at.top;
          tally = tally_before;
        }

    -- the same, as the code has the row and the total
    pub swept_at : (new : Cover) (at : ℤ) (n : ℕ) → IsAfter e tree new → at ≡ e.row → total + width_of_depth least tree * unsigned_abs (e.row -ℤ reached) ≡ n
        → IsSwept window rects places events least (i + 1) new at n
    swept_at new at n after row_is sum = subst (λ j. IsSwept window rects places events least (i + 1) new j n) (sym row_is)
        (subst (IsSwept window rects places events least (i + 1) new e.row) sum (swept_next new after))

    pub same_height : (new : Cover) → IsAfter e tree new → new.height ≡ tree.height
    same_height new after = (keeps e.begins e.low e.high tree new after).height

  -- ---- the rows above the last event

  module _ (past : length events ≤ i) where
    pub tally_all : Tally (IsDeep rects least) (cells_of window) (total + width_of_depth least tree * unsigned_abs (window.y1 -ℤ reached))
    tally_all = rows_tally window rects places bars events setting least some i tree reached total s window.y1 s.high (omega (arith, ints))
        (λ k d few. absurd (omega (arith, length-drop i events)))

    pub room_above : total + width_of_depth least tree * unsigned_abs (window.y1 -ℤ reached) < 2 ^ 63
    room_above = few_cells window rects least window.y1 _ (let u = window.up.some in omega (arith, ints)) (omega (arith, ints)) tally_all
