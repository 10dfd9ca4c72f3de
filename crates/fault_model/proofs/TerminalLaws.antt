-- terminals: those that are covered, those of cells, and those with vias among them
use Rattle.std.proofs.Common.{ℕ, [], ◌≡◌, ◌≢◌, ◌↔◌}
use Rattle.geo_core.specs.declared.plane.Cell.{Cell}
use Rattle.geo_core.specs.declared.plane.Half.{Half}
use Rattle.fault_model.specs.FaultNames.{LiesIn, IsSwallowed, IsSameIsland, Cut, IsViasOpen}
use Rattle.fault_model.specs.Faults.{AreTied, AreParted, IsCellsOpen}
use Rattle.fault_model.specs.Vias.{TerminalName, named_cell, via, IsInTerminal, Differ}
use Rattle.paths.proofs.PathLaws.{first, append}
use Rattle.fault_model.proofs.LineLaws.{in_cell}
use Rattle.fault_model.proofs.HalfLaws.{some_half}
use Rattle.lists.proofs.Containing.{Contains-none}

-- a terminal that the defect covers wholly has nothing left
pub covered_is_parted : (covered : Cell → Type 0) (s : ℕ) (c d e : Cell) → IsSwallowed c s d → AreParted covered c s (λ h. LiesIn h d) (λ h. LiesIn h e)
covered_is_parted covered s c d e all p q in_d in_e w = (first w).1 (all p in_d)

pub covered_is_open : (covered named : Cell → Type 0) (s : ℕ) (c d e : Cell) (p q : Half) → named d → named e → d ≢ e → LiesIn p d → LiesIn q e → IsSameIsland covered p q → IsSwallowed c s d
    → IsCellsOpen covered named s c
covered_is_open covered named s c d e p q name_d name_e differ in_d in_e island all = record {
  one = d;
  other = e;
  different = differ;
  tied = (p, q, (name_d, in_d), (name_e, in_e), island);
  parted = λ x y of_d of_e w. (first w).1 (all x of_d.1);
}

-- where one cell alone is named, it is no other
pub one_terminal : (covered named : Cell → Type 0) (s : ℕ) (c : Cell) → ((d e : Cell) → named d → named e → d ≡ e) → IsCellsOpen covered named s c → ⊥
one_terminal covered named s c alone o = o.different (alone o.one o.other o.tied.2.0 o.tied.3.0)

pub no_terminal : (covered named : Cell → Type 0) (s : ℕ) (c : Cell) → ((d : Cell) → named d → ⊥) → IsCellsOpen covered named s c → ⊥
no_terminal covered named s c none o = none o.one o.tied.2.0

pub tied_as_whole : (covered : Cell → Type 0) (d e : Cell) → covered d → covered e → AreTied covered (λ h. LiesIn h d) (λ h. LiesIn h e)
    ↔ ((p q : Half) → LiesIn p d → LiesIn q e → IsSameIsland covered p q)
tied_as_whole covered d e on_d on_e = (
  λ t p q in_d in_e.
      append (in_cell d p t.0 (λ h l. (d, l, on_d)) in_d t.2) (append t.4 (in_cell e t.1 q (λ h l. (e, l, on_e)) t.3 in_e)),
  λ all.
      let p = some_half d in
      let q = some_half e in
      (p.0, q.0, p.1, q.1, all p.0 q.0 p.1 q.1),
)

no_cut : (covers : ℕ → Cell → Type 0) (named : Cell → Type 0) (m : ℕ) (k : Cut) (p h : Half) → IsInTerminal covers [] named m (via k p) h → ⊥
no_cut covers named m k p h i = Contains-none i.0.0

pub no_vias : (covers : ℕ → Cell → Type 0) (named : Cell → Type 0) (m s : ℕ) (c : Cell) → IsViasOpen covers [] named m s c ↔ IsCellsOpen (covers m) named s c
no_vias covers named m s c = (from_vias, λ o. record { one = named_cell o.one; other = named_cell o.other; different = o.different; tied = o.tied; parted = o.parted }) where
  back : (one other : TerminalName) → Differ covers one other → AreTied (covers m) (IsInTerminal covers [] named m one) (IsInTerminal covers [] named m other)
      → AreParted (covers m) c s (IsInTerminal covers [] named m one) (IsInTerminal covers [] named m other) → IsCellsOpen (covers m) named s c
  back (named_cell i) (named_cell k) d t p = record { one = i; other = k; different = d; tied = t; parted = p }
  back (named_cell i) (via k h) d t p = absurd (no_cut covers named m k h t.1 t.3)
  back (via k h) (named_cell i) d t p = absurd (no_cut covers named m k h t.0 t.2)
  back (via k h) (via i g) d t p = absurd (no_cut covers named m k h t.0 t.2)

  from_vias : IsViasOpen covers [] named m s c → IsCellsOpen (covers m) named s c
  from_vias o = back o.one o.other o.different o.tied o.parted
