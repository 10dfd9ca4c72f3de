-- two cells that meet at a corner, and two that share an edge
use Rattle.std.proofs.Common.{◌≡◌, refl, ap, subst, inl, inr, ◌⊎◌}
use Rattle.paths.specs.Paths.{stay, step}
use Rattle.paths.proofs.PathLaws.{first, append}
use Rattle.geo_core.specs.Plane.{ShareEdge}
use Rattle.geo_core.specs.declared.plane.Cell.{Cell}
use Rattle.geo_core.specs.declared.plane.Half.{Half}
use Rattle.geo_core.proofs.IntervalLaws.{Adjoins-apart}
use Rattle.fault_model.specs.FaultNames.{LiesIn, IsOn, Walk, IsSameIsland}
use Rattle.fault_model.specs.Halves.{MeetAtCorner}
use Rattle.fault_model.proofs.HalfLaws.{one_cell, cells_of_neighbours, edge_halves}
use Rattle.fault_model.proofs.LineLaws.{in_cell}

no_edge : (c d : Cell) → MeetAtCorner c d → (c ≡ d) ⊎ ShareEdge c d → ⊥
no_edge c d m (inl e) = Adjoins-apart c.i d.i m.0 (ap (λ (x : Cell). x.i) e)
no_edge c d m (inr (inl e)) = Adjoins-apart c.j d.j m.1 e.0
no_edge c d m (inr (inr e)) = Adjoins-apart c.i d.i m.0 e.0

-- the cell is one of these two
abbrev pub IsEither : Cell → Cell → Cell → Type 0
IsEither c d x = (x ≡ c) ⊎ (x ≡ d)

stays : (c d : Cell) → MeetAtCorner c d → (p q : Half) → LiesIn p c → Walk (IsOn (IsEither c d)) p q → LiesIn q c
stays c d m p q h (stay s) = h
stays c d m p q h (step {b = b} s n w) =
    let f = first w in
    elim f.2 [
      | inl e ↦ stays c d m b q (subst (LiesIn b) e f.1) w
      | inr e ↦ absurd (no_edge c d m (cells_of_neighbours p b c d n h (subst (LiesIn b) e f.1)))
    ]

pub apart : (c d : Cell) (p q : Half) → MeetAtCorner c d → LiesIn p c → LiesIn q d → IsSameIsland (IsEither c d) p q → ⊥
apart c d p q m h k w = Adjoins-apart c.i d.i m.0 (ap (λ (x : Cell). x.i) (one_cell q c d (stays c d m p q h w) k))

-- two cells that share an edge are joined within them
pub together : (c d : Cell) (p q : Half) → ShareEdge c d → LiesIn p c → LiesIn q d → IsSameIsland (IsEither c d) p q
together c d p q e h k =
    let n = edge_halves c d e in
    append (in_cell c p n.0 (λ x l. (c, l, inl refl)) h n.2)
    (step (c, n.2, inl refl) n.4 (in_cell d n.1 q (λ x l. (d, l, inr refl)) n.3 k))
