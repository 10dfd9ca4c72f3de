-- active rectangles are finished, one after the other
use Rattle.std.proofs.Common.{Bool, List, [], arith, inl, inr, length, sym, ◌++◌, ◌<◌, ◌∷◌, ◌≡◌, ℤ, None, Some, Vec, ◌↔◌}
use Rattle.lists.proofs.Words.{BTreeMap, Updates, btree_map_len, get, is_at, Global, int_cmp}
use Rattle.std.specs.Map.{lookup}
use Rattle.geo_core.specs.Plane.{IsInUnion}
use Rattle.geo_core.specs.declared.plane.Cell.{Cell}
use Rattle.geo_core.specs.declared.plane.Rect.{Rect}
use Rattle.skyline_runs.specs.inside.Skylines.{IsSkyline, IsUnder}
use Rattle.skyline_runs.specs.declared.skyline.Skyline.{Skyline}
use Rattle.skyline_runs.proofs.Entries.{changes_from_updates}
use Rattle.skyline_runs.proofs.Primitives.{finished, taken_out, with_active}
use Rattle.skyline_runs.proofs.Searches.{active_at}
use Rattle.fault_model.proofs.UnionLaws.{among_union, in_union}

-- the skyline has the cells of another one
pub record IsFinishing (old now : Skyline) : Type 0 where
  pub sound : IsSkyline now
  pub cells : (c : Cell) → IsUnder now c ↔ IsUnder old c

pub one_finished : (first old : Skyline) (map : BTreeMap ℤ Rect) (runs : Vec Rect Global) (key : ℤ) (rect : Rect) → IsFinishing first old → get int_cmp old.active key ≡ Some rect
    → Updates int_cmp old.active map key None → runs.items ≡ old.runs.items ++ rect ∷ [] → IsFinishing first (record { active = map; runs = runs })
one_finished first old map runs key rect f at update more =
    let out = taken_out old map rect f.sound (active_at old key rect f.sound at)
    (changes_from_updates old.active map key rect.x0 None (sym (f.sound.by_column key rect at)) update) in
    let done = finished (with_active old map) runs rect out.sound out.room more in
    record {
      sound = done.sound;
      cells = λ c. (
        λ u. (f.cells c).0 ((out.cells c).1 ((done.cells c).0 u)),
        λ u. (done.cells c).1 ((out.cells c).0 ((f.cells c).1 u)),
      );
    }

no_entry : (test : ℤ → Bool) (es : List (ℤ × Rect)) (q : Rect) → (0 < length es → ⊥) → lookup test es ≡ Some q → ⊥
no_entry test [] q none at = cc
no_entry test (e ∷ es) q none at = none (omega arith)

-- nothing is active any more
pub all_finished : (first : Skyline) (map : BTreeMap ℤ Rect) (runs : Vec Rect Global) → IsFinishing first (record { active = map; runs = runs }) → (0 < btree_map_len map → ⊥)
    → (c : Cell) → IsInUnion runs.items c ↔ IsUnder first c
all_finished first map runs f none c = (
  λ u. (f.cells c).0 (record { rect = u.rect; part = inr (among_union runs.items c u); has = u.has }),
  λ u.
      let v = (f.cells c).1 u in
      elim v.part [
        | inl at ↦ absurd (no_entry (is_at (int_cmp v.rect.x0)) map.entries v.rect none at)
        | inr done ↦ in_union runs.items v.rect c done v.has
      ],
)
