-- the text of what is told at a cell
use Rattle.std.specs.Prelude.{ℕ, List, [], ◌∷◌, ◌++◌, Option, Some, None, codes, flat_map}
use Rattle.lists.specs.Words.{concat, decimal}
use Rattle.near_index.specs.declared.nearest.Near.{Near}
use Rattle.layout_probe.specs.declared.metal_near.MetalNear.{MetalNear}

-- the distance and the number of a net
abbrev pub near_words : Near → List ℕ
near_words near = concat (codes " d=" ∷ decimal near.distance ∷ codes " net=" ∷ decimal near.label ∷ [])

-- those of the nearest net and of the second, and `none` once where either is missing
abbrev pub nearest_words : Option Near → Option Near → List ℕ
nearest_words None second = codes " none"
nearest_words (Some first) None = near_words first ++ codes " none"
nearest_words (Some first) (Some second) = near_words first ++ near_words second

-- the line of a metal, with the newline at its end
abbrev pub near_line : MetalNear → List ℕ
near_line told = concat (codes "near " ∷ told.layer ∷ nearest_words told.nearest.first told.nearest.second ∷ codes "\n" ∷ [])

-- the lines of all metals
abbrev pub probe_text : List MetalNear → List ℕ
probe_text told = flat_map near_line told
