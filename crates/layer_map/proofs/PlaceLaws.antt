-- the paths of the items of a kind, and what a path is of
use Rattle.std.proofs.Common.{◌≡◌, ℕ, ◌+◌, ◌*◌, ◌<◌, ◌≤◌, arith, length, Option, Some, None}
use Rattle.std.specs.Prelude.{IsSomeAnd}
use Rattle.lists.proofs.Words.{slice_get_within}
use Rattle.layer_map.specs.MapChecks.{map_keys}
use Rattle.layer_map.specs.MapPlaces.{HasPath, IsWithinLimits, item_keys, item_of, item_path, most_items}
use Rattle.map_model.specs.declared.measure.Measure.{Measure}
use Rattle.map_model.specs.declared.measure.Measure.TheVariants.{Radius, Side}
use Rattle.layer_map.specs.declared.place.ItemKind.{ItemKind}
use Rattle.layer_map.specs.declared.place.ItemKind.TheVariants as kind
use Rattle.layer_map.specs.declared.place.Place.{Place}
use Rattle.layer_map.specs.declared.place.Place.TheVariants as place

pub item_paths : (kind : ItemKind) (number further : ℕ) → item_path kind 0 + (10 * number + further) ≡ item_path kind number + further
item_paths kind.Metal number further = omega arith
item_paths kind.Cut number further = omega arith
item_paths kind.Terminal number further = omega arith

pub few_keys : (kind : ItemKind) → length (item_keys kind) < 5
few_keys kind.Metal = omega arith
few_keys kind.Cut = omega arith
few_keys kind.Terminal = omega arith

few_map_keys : (measure : Measure) → length (map_keys measure) ≤ 7
few_map_keys Radius = omega arith
few_map_keys Side = omega arith

-- what a path is of that a place within the limits has
data IsOf (path : ℕ) : Type 0 where
  of_document : path ≡ 1 → IsOf path
  of_key : (k : ℕ) → k < 7 → path ≡ 2 + k → IsOf path
  of_item : (kind : ItemKind) (number further : ℕ) → number < most_items kind → further ≤ length (item_keys kind) → path ≡ item_path kind number + further → IsOf path

is_of : (place : Place) (measure : Measure) (path : ℕ) → IsWithinLimits place → HasPath measure place path → IsOf path
is_of place.Document measure path within is = of_document is
is_of (place.Key key) measure path within (k, at, is) = of_key k (omega (arith, slice_get_within (map_keys measure) k key.now at, few_map_keys measure)) is
is_of (place.Item kind number) measure path within is = of_item kind number 0 within (omega arith) (omega arith)
is_of (place.ItemKey kind number key) measure path within (k, at, is) =
    let there : k < length (item_keys kind) = slice_get_within (item_keys kind) k key.now at in
    of_item kind number (1 + k) within (omega arith) (omega arith)

-- the paths between that of the first item of a kind and that of the first of the next kind
abbrev pub IsAmong : ItemKind → ℕ → Type 0
IsAmong kind.Metal path = (100 ≤ path) × (path < 300)
IsAmong kind.Cut path = (300 ≤ path) × (path < 1000)
IsAmong kind.Terminal path = (1000 ≤ path) × Unit {0}

-- such a path is of an item of the kind, this much past it
abbrev pub IsPast : ItemKind → ℕ → Type 0
IsPast sort path = (number : ℕ) × (further : ℕ) × (number < most_items sort) × (further ≤ length (item_keys sort)) × (path ≡ item_path sort number + further)

pub past_item : (sort : ItemKind) (place : Place) (measure : Measure) (path : ℕ) → IsAmong sort path → IsWithinLimits place → HasPath measure place path → IsPast sort path
past_item sort place measure path among within has = by_kind sort (is_of place measure path within has) among
  where
    by_kind : (sort : ItemKind) → IsOf path → IsAmong sort path → IsPast sort path
    by_kind kind.Metal (of_document is) among = absurd (omega arith)
    by_kind kind.Metal (of_key k low is) among = absurd (omega arith)
    by_kind kind.Metal (of_item kind.Metal n f few least is) among = (n, f, few, least, is)
    by_kind kind.Metal (of_item kind.Cut n f few least is) among = absurd (omega arith)
    by_kind kind.Metal (of_item kind.Terminal n f few least is) among = absurd (omega arith)
    by_kind kind.Cut (of_document is) among = absurd (omega arith)
    by_kind kind.Cut (of_key k low is) among = absurd (omega arith)
    by_kind kind.Cut (of_item kind.Metal n f few least is) among = absurd (omega arith)
    by_kind kind.Cut (of_item kind.Cut n f few least is) among = (n, f, few, least, is)
    by_kind kind.Cut (of_item kind.Terminal n f few least is) among = absurd (omega arith)
    by_kind kind.Terminal (of_document is) among = absurd (omega arith)
    by_kind kind.Terminal (of_key k low is) among = absurd (omega arith)
    by_kind kind.Terminal (of_item kind.Metal n f few least is) among = absurd (omega arith)
    by_kind kind.Terminal (of_item kind.Cut n f few least is) among = absurd (omega arith)
    by_kind kind.Terminal (of_item kind.Terminal n f few least is) among = (n, f, few, least, is)

-- what is told of a path that is one of an item
pub item_within : (told : Option Place) (sort : ItemKind) (path : ℕ) → IsPast sort path
    → ((number further : ℕ) → further ≤ length (item_keys sort) → path ≡ item_path sort number + further → IsSomeAnd told (λ place. item_of place ≡ Some (sort, number)))
    → IsSomeAnd told IsWithinLimits
item_within told sort path (number, further, few, least, is) each = within told (each number further least is)
  where
    within : (told : Option Place) → IsSomeAnd told (λ place. item_of place ≡ Some (sort, number)) → IsSomeAnd told IsWithinLimits
    within None is = is
    within (Some place) same = rw same few

-- what is told of a path that is one of a key
key_paths_end : (sort : ItemKind) (number : ℕ) → 100 ≤ item_path sort number
key_paths_end kind.Metal number = omega arith
key_paths_end kind.Cut number = omega arith
key_paths_end kind.Terminal number = omega arith

pub key_within : (told : Option Place) (place : Place) (measure : Measure) (path : ℕ) → 2 ≤ path → path < 100 → HasPath measure place path
    → ((k : ℕ) → k < length (map_keys measure) → path ≡ 2 + k → IsSomeAnd told (λ place. item_of place ≡ None)) → IsSomeAnd told IsWithinLimits
key_within told place.Document measure path least most is each = absurd (omega arith)
key_within told (place.Key key) measure path least most (k, at, is) each = within told (each k (slice_get_within (map_keys measure) k key.now at) is)
  where
    within : (told : Option Place) → IsSomeAnd told (λ place. item_of place ≡ None) → IsSomeAnd told IsWithinLimits
    within None is = is
    within (Some place) none = rw none tt
key_within told (place.Item sort number) measure path least most is each = absurd (omega (arith, key_paths_end sort number))
key_within told (place.ItemKey sort number key) measure path least most (k, at, is) each = absurd (omega (arith, key_paths_end sort number))
