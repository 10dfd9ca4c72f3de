-- how a name is kept
use Rattle.std.specs.Prelude.{◌≡◌, ℕ, ◌-◌, List, ◌++◌, length, take, replicate}
use Rattle.std.proofs.Common.{◌∙◌, ap, sym}
use Rattle.map_model.specs.LayerNames.{IsLayerName}
use Rattle.map_model.specs.declared.limits.TheConstants.{LONGEST_NAME}
use Rattle.map_model.specs.declared.name.LayerName.TheInside.{Inside}

-- the first bytes are a name, and the others are zeros
pub record IsPadded (kept : Inside) : Type 0 where
  pub there : length (take kept.len kept.bytes) ≡ kept.len
  pub padded : kept.bytes ≡ take kept.len kept.bytes ++ replicate (LONGEST_NAME - kept.len) 0
  pub name : IsLayerName (take kept.len kept.bytes)

-- the fields are told by the bytes of the name
pub fields_come_back : (kept : Inside) → IsPadded kept → record {
  bytes =
      take kept.len kept.bytes ++ replicate (LONGEST_NAME - length (take kept.len kept.bytes)) 0;
  len = length (take kept.len kept.bytes);
} ≡ kept
fields_come_back kept h =
    let filled : (n : ℕ) → Inside = λ n. record { bytes = take kept.len kept.bytes ++ replicate (LONGEST_NAME - n) 0; len = n } in
    ap filled h.there ∙ ap (λ (bytes : List ℕ). record { bytes = bytes; len = kept.len }) (sym h.padded)
