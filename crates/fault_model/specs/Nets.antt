-- nets: what is joined through all metals and the cuts between them
use Rattle.std.specs.Prelude.{ℕ, List, Contains, ◌<◌, ◌≡◌, ◌⊎◌}
use Rattle.paths.specs.Paths.{Path}
use Rattle.geo_core.specs.declared.plane.Cell.{Cell}
use Rattle.geo_core.specs.declared.plane.Half.{Half}
use Rattle.fault_model.specs.Halves.{IsOn, Neighbours}

-- Metals and cuts go by numbers, and `covers` says which cells each of them covers.

-- a cut: its own number, and those of the two metals that it joins
pub record Cut : Type 0 where
  pub number : ℕ
  pub lower : ℕ
  pub upper : ℕ

-- a half square on a metal
pub record Place : Type 0 where
  pub metal : ℕ
  pub half : Half

-- the cut conducts here: it has the half square, and so have both of its metals
abbrev pub IsContact : (ℕ → Cell → Type 0) → Cut → Half → Type 0
IsContact covers cut h = IsOn (covers cut.number) h × IsOn (covers cut.lower) h × IsOn (covers cut.upper) h

-- the cut joins the two metals, in either order
abbrev pub Joins : Cut → ℕ → ℕ → Type 0
Joins cut m n = ((cut.lower ≡ m) × (cut.upper ≡ n)) ⊎ ((cut.lower ≡ n) × (cut.upper ≡ m))

-- no cut joins anything but metals, which have the numbers below `metals`
abbrev pub JoinMetals : ℕ → List Cut → Type 0
JoinMetals metals cuts = (cut : Cut) → Contains cuts cut → (cut.lower < metals) × (cut.upper < metals)

-- a step of a net walk: to a neighbour on the same metal, or to the same half square on another metal, through a cut
-- that joins the two metals and has the half square
pub data NetStep (covers : ℕ → Cell → Type 0) (cuts : List Cut) : Place → Place → Type 0 where
  along : {p q : Place} → p.metal ≡ q.metal → Neighbours p.half q.half → NetStep covers cuts p q
  through : {p q : Place} → (cut : Cut) → Contains cuts cut → Joins cut p.metal q.metal → p.half ≡ q.half →
      IsOn (covers cut.number) p.half → NetStep covers cuts p q

-- the place's metal covers its half square
abbrev pub IsOnMetal : (ℕ → Cell → Type 0) → Place → Type 0
IsOnMetal covers place = IsOn (covers place.metal) place.half

-- places on their metals, from one to another by such steps
abbrev pub NetWalk : (ℕ → Cell → Type 0) → List Cut → Place → Place → Type 0
NetWalk covers cuts = Path (IsOnMetal covers) (NetStep covers cuts)

-- two places, on one metal or on two, are of one net: a net walk joins them
abbrev pub IsSameNet : (ℕ → Cell → Type 0) → List Cut → Place → Place → Type 0
IsSameNet covers cuts = NetWalk covers cuts

-- two half squares of the metal `m` are of one net
abbrev pub IsSameNetOn : (ℕ → Cell → Type 0) → List Cut → ℕ → Half → Half → Type 0
IsSameNetOn covers cuts m p q = IsSameNet covers cuts (record { metal = m; half = p }) (record { metal = m; half = q })
