-- a defect of an odd side parts what one of the next even side parts: each half square that it spares moves to the one of its
-- cell that lies farthest out, which the even one spares, too, and neighbours move to half squares that walks join
use Rattle.std.proofs.Common.{ℕ, ◌+◌, ◌≡◌, refl, sym, subst, arith, inl, inr, ◌⊎◌, ℤ, pos, ◌+ℤ◌, ◌≤ℤ◌, ◌<ℤ◌, ◌↔◌, List}
use Rattle.lists.proofs.Words.{ints, by_lt_z}
use Rattle.paths.specs.Paths.{Path, stay, step}
use Rattle.paths.proofs.PathLaws.{append, first, within}
use Rattle.geo_core.specs.Intervals.{IsIn, IsWithin}
use Rattle.geo_core.specs.Cells.{IsNear, ShareEdge}
use Rattle.geo_core.specs.declared.plane.Cell.{Cell}
use Rattle.geo_core.specs.declared.plane.Half.{Half}
use Rattle.fault_model.specs.FaultNames.{Cut, IsHalfOf, IsOpen, IsViasOpen, LiesIn, Walk}
use Rattle.fault_model.specs.Faults.{AreParted, IsCellsOpen, IsInNamed, IsSpared}
use Rattle.fault_model.specs.Halves.{IsUnder}
use Rattle.fault_model.specs.Vias.{Differ, IsInTerminal, TerminalName, named_cell, via}
use Rattle.fault_model.proofs.FaultLaws.{open_grows}
use Rattle.fault_model.proofs.HalfLaws.{cell_on, cells_of_neighbours, one_cell, some_cell}
use Rattle.fault_model.proofs.LineLaws.{Walk-reverse, in_cell, walk_in_box}
use Rattle.fault_model.proofs.SizeLaws.{footprint_grows, swallowed}
use Rattle.critarea_core.specs.WholeCells.{IsOfWholeCells}

-- ---- paths

-- a path under a map: things go to things of the other set, and steps to paths
carried : {A B : Type 0} {V : A → Type 0} {E : A → A → Type 0} {W : B → Type 0} {F : B → B → Type 0} {a b : A} → (f : A → B) → ((x : A) → V x → W (f x))
    → ((x y : A) → V x → V y → E x y → Path W F (f x) (f y)) → Path V E a b → Path W F (f a) (f b)
carried {a = a} f on over (stay h) = stay (on a h)
carried {a = a} f on over (step {b = b} h e p) = append (over a b h (first p) e) (carried f on over p)

-- ---- in one dimension

-- of the two half units of the unit `a` the one farther from the middle of the unit `i`: the lower one below it, and else the upper
abbrev IsOuter : ℤ → ℤ → ℤ → Type 0
IsOuter i a u = ((a <ℤ i) × (u ≡ a +ℤ a)) ⊎ ((i ≤ℤ a) × (u ≡ a +ℤ a +ℤ pos 1))

outer : (i a : ℤ) → (u : ℤ) × IsOuter i a u
outer i a = by_lt_z a i (λ below. (a +ℤ a, inl (below, refl))) (λ above. (a +ℤ a +ℤ pos 1, inr (above, refl)))

half_of : (i a u : ℤ) → IsOuter i a u → IsHalfOf u a
half_of i a u (inl (below, is)) = record { from = omega (arith, ints); before = omega (arith, ints) }
half_of i a u (inr (above, is)) = record { from = omega (arith, ints); before = omega (arith, ints) }

-- the even defect has it only where the odd one has the unit
unit_near : (k : ℕ) (i a u : ℤ) → IsOuter i a u → IsUnder i (k + k + 2) u → IsWithin i a (pos k)
unit_near k i a u (inl (below, is)) hit = (omega (arith, ints), omega (arith, ints))
unit_near k i a u (inr (above, is)) hit = (omega (arith, ints), omega (arith, ints))

module _ (i a b u w : ℤ) (next : a +ℤ pos 1 ≡ b) where
  rising : IsOuter i a u → IsOuter i b w → u ≤ℤ w
  rising (inl (p, e)) (inl (q, f)) = omega (arith, ints)
  rising (inl (p, e)) (inr (q, f)) = omega (arith, ints)
  rising (inr (p, e)) (inl (q, f)) = omega (arith, ints)
  rising (inr (p, e)) (inr (q, f)) = omega (arith, ints)

  -- a half unit between those of two units that follow one another is of one of them
  of_either : IsOuter i a u → IsOuter i b w → (x : ℤ) → IsIn u (w +ℤ pos 1) x → IsHalfOf x a ⊎ IsHalfOf x b
  of_either one other x at =
      let h = half_of i a u one in
      let g = half_of i b w other in
      by_lt_z x (b +ℤ b) (λ below. inl (record { from = omega (arith, ints); before = omega (arith, ints) }))
      (λ above. inr (record { from = omega (arith, ints); before = omega (arith, ints) }))

  -- and the even defect has it only where the odd one has one of the units
  either_near : (k : ℕ) → IsOuter i a u → IsOuter i b w → (x : ℤ) → IsIn u (w +ℤ pos 1) x → IsUnder i (k + k + 2) x → IsWithin i a (pos k) ⊎ IsWithin i b (pos k)
  either_near k (inl (p, e)) (inl (q, f)) x at hit = inr (omega (arith, ints), omega (arith, ints))
  either_near k (inl (p, e)) (inr (q, f)) x at hit = inr (omega (arith, ints), omega (arith, ints))
  either_near k (inr (p, e)) (inl (q, f)) x at hit = absurd (omega (arith, ints))
  either_near k (inr (p, e)) (inr (q, f)) x at hit = inl (omega (arith, ints), omega (arith, ints))

-- ---- half squares

module _ (covered : Cell → Type 0) (c : Cell) (k : ℕ) where
  abbrev Odd : Half → Type 0
  Odd = IsSpared covered c (k + k + 1)

  abbrev Even : Half → Type 0
  Even = IsSpared covered c (k + k + 2)

  -- the cell is covered, and the odd defect does not have it
  abbrev IsLeftCell : Cell → Type 0
  IsLeftCell d = covered d × (IsNear c d (pos k) → ⊥)

  left_cell : (h : Half) (d : Cell) → LiesIn h d → Odd h → IsLeftCell d
  left_cell h d lies (on, out) = (cell_on h d lies on, λ near. out ((swallowed (k + k + 1) k (omega arith) (omega arith) c d).1 near h lies))

  -- the half square of the cell that lies farthest out
  abbrev far_half : Cell → Half
  far_half d = record { u = (outer c.i d.i).0; v = (outer c.j d.j).0 }

  far_in : (d : Cell) → LiesIn (far_half d) d
  far_in d = (half_of c.i d.i (outer c.i d.i).0 (outer c.i d.i).1, half_of c.j d.j (outer c.j d.j).0 (outer c.j d.j).1)

  far_spared : (d : Cell) → IsLeftCell d → Even (far_half d)
  far_spared d (on, far) = (
    (d, far_in d, on),
    λ hit. far (unit_near k c.i d.i (outer c.i d.i).0 (outer c.i d.i).1 hit.0, unit_near k c.j d.j (outer c.j d.j).0 (outer c.j d.j).1 hit.1),
  )

  -- from one cell of a row to the next
  module _ (a b j u w v : ℤ) (next : a +ℤ pos 1 ≡ b) (x : IsOuter c.i a u) (y : IsOuter c.i b w) (z : IsOuter c.j j v)
      (one : IsLeftCell (record { i = a; j = j })) (other : IsLeftCell (record { i = b; j = j })) where
    row_spared : (h : Half) → IsIn u (w +ℤ pos 1) h.u → IsOuter c.j j h.v → Even h
    row_spared h at level = (
      elim (of_either c.i a b u w next x y h.u at) [
        | inl half ↦ (record { i = a; j = j }, (half, half_of c.j j h.v level), one.0)
        | inr half ↦ (record { i = b; j = j }, (half, half_of c.j j h.v level), other.0)
      ],
      λ hit. elim (either_near c.i a b u w next k x y h.u at hit.0) [
        | inl near ↦ one.1 (near, unit_near k c.j j h.v level hit.1)
        | inr near ↦ other.1 (near, unit_near k c.j j h.v level hit.1)
      ],
    )

    along_row : Walk Even (record { u = u; v = v }) (record { u = w; v = v })
    along_row =
        let up = rising c.i a b u w next x y in
        walk_in_box u (w +ℤ pos 1) v (v +ℤ pos 1)
        (λ h at level. row_spared h at (let e : v ≡ h.v = omega (arith, ints) in subst (IsOuter c.j j) e z))
        (record { u = u; v = v }) (record { u = w; v = v })
        (record { from = omega (arith, ints); before = omega (arith, ints) }) (record { from = omega (arith, ints); before = omega (arith, ints) })
        (record { from = omega (arith, ints); before = omega (arith, ints) }) (record { from = omega (arith, ints); before = omega (arith, ints) })

  -- from one cell of a column to the next
  module _ (i a b u w v : ℤ) (next : a +ℤ pos 1 ≡ b) (x : IsOuter c.j a u) (y : IsOuter c.j b w) (z : IsOuter c.i i v)
      (one : IsLeftCell (record { i = i; j = a })) (other : IsLeftCell (record { i = i; j = b })) where
    column_spared : (h : Half) → IsOuter c.i i h.u → IsIn u (w +ℤ pos 1) h.v → Even h
    column_spared h level at = (
      elim (of_either c.j a b u w next x y h.v at) [
        | inl half ↦ (record { i = i; j = a }, (half_of c.i i h.u level, half), one.0)
        | inr half ↦ (record { i = i; j = b }, (half_of c.i i h.u level, half), other.0)
      ],
      λ hit. elim (either_near c.j a b u w next k x y h.v at hit.1) [
        | inl near ↦ one.1 (unit_near k c.i i h.u level hit.0, near)
        | inr near ↦ other.1 (unit_near k c.i i h.u level hit.0, near)
      ],
    )

    along_column : Walk Even (record { u = v; v = u }) (record { u = v; v = w })
    along_column =
        let up = rising c.j a b u w next x y in
        walk_in_box v (v +ℤ pos 1) u (w +ℤ pos 1)
        (λ h level at. column_spared h (let e : v ≡ h.u = omega (arith, ints) in subst (IsOuter c.i i) e z) at)
        (record { u = v; v = u }) (record { u = v; v = w })
        (record { from = omega (arith, ints); before = omega (arith, ints) }) (record { from = omega (arith, ints); before = omega (arith, ints) })
        (record { from = omega (arith, ints); before = omega (arith, ints) }) (record { from = omega (arith, ints); before = omega (arith, ints) })

  abbrev FarJoined : Cell → Cell → Type 0
  FarJoined d e = Walk Even (far_half d) (far_half e)

  row_on : (d e : Cell) → d.j ≡ e.j → d.i +ℤ pos 1 ≡ e.i → IsLeftCell d → IsLeftCell e → FarJoined d e
  row_on d e level next one other =
      let at : ℤ → Cell = λ j. record { i = e.i; j = j } in
      subst (λ j. FarJoined d (at j)) level (along_row d.i e.i d.j (outer c.i d.i).0 (outer c.i e.i).0 (outer c.j d.j).0 next (outer c.i d.i).1 (outer c.i e.i).1 (outer c.j d.j).1
      one (subst (λ j. IsLeftCell (at j)) (sym level) other))

  column_on : (d e : Cell) → d.i ≡ e.i → d.j +ℤ pos 1 ≡ e.j → IsLeftCell d → IsLeftCell e → FarJoined d e
  column_on d e level next one other =
      let at : ℤ → Cell = λ i. record { i = i; j = e.j } in
      subst (λ i. FarJoined d (at i)) level (along_column d.i d.j e.j (outer c.j d.j).0 (outer c.j e.j).0 (outer c.i d.i).0 next (outer c.j d.j).1 (outer c.j e.j).1 (outer c.i d.i).1
      one (subst (λ i. IsLeftCell (at i)) (sym level) other))

  beside_on : (d e : Cell) → (d ≡ e) ⊎ ShareEdge d e → IsLeftCell d → IsLeftCell e → FarJoined d e
  beside_on d e (inl same) one other = subst (FarJoined d) same (stay (far_spared d one))
  beside_on d e (inr (inl (level, inl next))) one other = row_on d e level next one other
  beside_on d e (inr (inl (level, inr next))) one other = Walk-reverse (row_on e d (sym level) next other one)
  beside_on d e (inr (inr (level, inl next))) one other = column_on d e level next one other
  beside_on d e (inr (inr (level, inr next))) one other = Walk-reverse (column_on e d (sym level) next other one)

  -- what the odd defect leaves joined, the even one leaves joined farthest out
  joined_far : (p q : Half) → Walk Odd p q → FarJoined (some_cell p).0 (some_cell q).0
  joined_far p q = carried (λ h. far_half (some_cell h).0) (λ h odd. far_spared (some_cell h).0 (left_cell h (some_cell h).0 (some_cell h).1 odd))
      (λ h g one other near. beside_on (some_cell h).0 (some_cell g).0 (cells_of_neighbours h g (some_cell h).0 (some_cell g).0 near (some_cell h).1 (some_cell g).1)
      (left_cell h (some_cell h).0 (some_cell h).1 one) (left_cell g (some_cell g).0 (some_cell g).1 other))

  -- so of sets of whole cells both part the same
  pub parted_alike : (one other : Half → Type 0) → IsOfWholeCells one → IsOfWholeCells other → AreParted covered c (k + k + 1) one other ↔ AreParted covered c (k + k + 2) one other
  parted_alike one other one_whole other_whole = (
    λ parted p q in_one in_other walk. parted p q in_one in_other (within (λ h spared. (spared.0, λ hit. spared.1 (footprint_grows c (k + k + 1) (k + k + 2) h (omega arith) hit))) walk),
    λ parted p q in_one in_other walk.
        let d = some_cell p in
        let e = some_cell q in
        parted (far_half d.0) (far_half e.0) (one_whole p (far_half d.0) d.0 d.1 (far_in d.0) in_one) (other_whole q (far_half e.0) e.0 e.1 (far_in e.0) in_other) (joined_far p q walk),
  )

  pub opens_alike : {Name : Type 0} (Apart : Name → Name → Type 0) (terminal : Name → Half → Type 0) → ((name : Name) → IsOfWholeCells (terminal name))
      → IsOpen covered Apart terminal (k + k + 1) c ↔ IsOpen covered Apart terminal (k + k + 2) c
  opens_alike Apart terminal whole = (
    λ o. open_grows covered Apart terminal (k + k + 1) (k + k + 2) c (omega arith) o,
    λ o. record {
      one = o.one;
      other = o.other;
      different = o.different;
      tied = o.tied;
      parted = (parted_alike (terminal o.one) (terminal o.other) (whole o.one) (whole o.other)).1 o.parted;
    },
  )

-- ---- terminals

cells_are_whole : (named : Cell → Type 0) (d : Cell) → IsOfWholeCells (IsInNamed named d)
cells_are_whole named d h g e h_in g_in lies = (lies.0, subst (LiesIn g) (one_cell h e d h_in lies.1) g_in)

-- a contact's cell has contacts of its cluster alone
vias_are_whole : (covers : ℕ → Cell → Type 0) (cuts : List Cut) (named : Cell → Type 0) (m : ℕ) (name : TerminalName) → IsOfWholeCells (IsInTerminal covers cuts named m name)
vias_are_whole covers cuts named m (named_cell d) = cells_are_whole named d
vias_are_whole covers cuts named m (via cut contact) = λ h g d h_in g_in lies.
    let on = lies.1.1 in
    let same = lies.1.2 in
    let a = cell_on h d h_in on.0 in
    let low = cell_on h d h_in on.1 in
    let high = cell_on h d h_in on.2 in (
      lies.0,
      (
        lies.1.0,
        ((d, g_in, a), (d, g_in, low), (d, g_in, high)),
        (append same.0 (in_cell d h g (λ x l. (d, l, low)) h_in g_in), append same.1 (in_cell d h g (λ x l. (d, l, high)) h_in g_in)),
      ),
    )

pub cells_open_alike : (covered named : Cell → Type 0) (k : ℕ) (c : Cell) → IsCellsOpen covered named (k + k + 1) c ↔ IsCellsOpen covered named (k + k + 2) c
cells_open_alike covered named k c = opens_alike covered c k _ (IsInNamed named) (cells_are_whole named)

pub vias_open_alike : (covers : ℕ → Cell → Type 0) (cuts : List Cut) (named : Cell → Type 0) (m k : ℕ) (c : Cell)
    → IsViasOpen covers cuts named m (k + k + 1) c ↔ IsViasOpen covers cuts named m (k + k + 2) c
vias_open_alike covers cuts named m k c = opens_alike (covers m) c k (Differ covers) (IsInTerminal covers cuts named m) (vias_are_whole covers cuts named m)
