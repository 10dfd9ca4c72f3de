-- how many bytes the bodies of each kind have, by the table of records
use Rattle.std.proofs.Common.{◌≡◌, ◌∙◌, sym, ap, ℕ, length, MatchOption}
use Rattle.lists.proofs.Words.{MatchOption-at_some}
use Rattle.gds_records.specs.declared.kinds.TheConstants as kind
use Rattle.library_grammar.specs.GrammarNames.{rule_at, TakesSize, BodiesHave}
use Rattle.gds_records.specs.Table.{table}
use Rattle.gds_records.proofs.laws.Rules.{only_rule}

-- the kinds into whose bodies a reader looks
pub record Sizes : Type 0 where
  pub layer : BodiesHave 2 kind.LAYER
  pub datatype : BodiesHave 2 kind.DATATYPE
  pub boxtype : BodiesHave 2 kind.BOXTYPE
  pub strans : BodiesHave 2 kind.STRANS
  pub pathtype : BodiesHave 2 kind.PATHTYPE
  pub width : BodiesHave 4 kind.WIDTH
  pub bgnextn : BodiesHave 4 kind.BGNEXTN
  pub endextn : BodiesHave 4 kind.ENDEXTN
  pub colrow : BodiesHave 4 kind.COLROW
  pub mag : BodiesHave 8 kind.MAG
  pub angle : BodiesHave 8 kind.ANGLE
  pub units : BodiesHave 16 kind.UNITS

-- the table has the kind, with this size alone
abbrev IsSized : ℕ → ℕ → Type 0
IsSized n k = MatchOption (rule_at k) ⊥ (λ rule. (m : ℕ) → TakesSize rule.sizes m → m ≡ n)

-- each body of a kind has the size that the table gives
bodies_have : (n k : ℕ) → IsSized n k → BodiesHave n k
bodies_have n k sized e in_profile of_kind =
    let (rule, is, takes) = in_profile.permitted in
    MatchOption-at_some ⊥ (λ rule. (m : ℕ) → TakesSize rule.sizes m → m ≡ n) rule (ap rule_at (sym of_kind) ∙ only_rule e.kind rule is.listed) sized (length e.body) takes

pub sizes : Sizes
unfolding table
sizes =
    record {
      layer = bodies_have 2 kind.LAYER (λ m e. e);
      datatype = bodies_have 2 kind.DATATYPE (λ m e. e);
      boxtype = bodies_have 2 kind.BOXTYPE (λ m e. e);
      strans = bodies_have 2 kind.STRANS (λ m e. e);
      pathtype = bodies_have 2 kind.PATHTYPE (λ m e. e);
      width = bodies_have 4 kind.WIDTH (λ m e. e);
      bgnextn = bodies_have 4 kind.BGNEXTN (λ m e. e);
      endextn = bodies_have 4 kind.ENDEXTN (λ m e. e);
      colrow = bodies_have 4 kind.COLROW (λ m e. e);
      mag = bodies_have 8 kind.MAG (λ m e. e);
      angle = bodies_have 8 kind.ANGLE (λ m e. e);
      units = bodies_have 16 kind.UNITS (λ m e. e);
    }
