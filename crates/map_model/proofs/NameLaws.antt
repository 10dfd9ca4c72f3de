-- names and how they are kept
use Rattle.std.proofs.Common.{IsAscii, IsUtf8, ◌≡◌, ℕ, ◌<◌, true, List, ◌++◌, length, get_or, take, drop, replicate, refl, ap, arith, inl, inr}
use Rattle.lists.proofs.Words.{cases_lt, nat_tests, take_at, get_or_past, IsUtf8-from_ascii}
use Rattle.std.proofs.lemmas.List.{drop-replicate}
use Rattle.map_model.specs.MapNames.{is_name_byte, IsLayerName}
use Rattle.map_model.specs.NameFields.{IsPadded}
use Rattle.map_model.specs.declared.limits.TheConstants.{LONGEST_NAME}

-- a name behind which zeros are kept
pub padded : (name : List ℕ) → IsLayerName name → IsPadded (record { bytes = name ++ drop (length name) (replicate LONGEST_NAME 0); len = length name })
padded name h =
    let front : take (length name) (name ++ drop (length name) (replicate LONGEST_NAME 0)) ≡ name = take_at name _ (length name) refl in
    record {
      there = ap length front;
      padded = rw (front, drop-replicate {X = ℕ} (length name) LONGEST_NAME 0) refl;
      name = rw front h;
    }

-- a byte of a name is ASCII
name_byte_is_ascii : (b : ℕ) → is_name_byte b ≡ true → b < 128
name_byte_is_ascii b h = grind (arith, nat_tests)

pub name_is_ascii : (name : List ℕ) → IsLayerName name → IsAscii name
name_is_ascii name h i =
    elim (cases_lt i (length name)) [
      | inl within ↦ name_byte_is_ascii (get_or name i 0) (h.each i 0 within)
      | inr past ↦ omega (arith, get_or_past name i 0 past)
    ]

pub name_is_text : (name : List ℕ) → IsLayerName name → IsUtf8 name
name_is_text name h = IsUtf8-from_ascii name (name_is_ascii name h)
