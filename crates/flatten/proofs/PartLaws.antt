-- the parts of structures
use Rattle.std.proofs.Common.{ℕ, ◌+◌, ◌<◌, ◌≡◌, List, [], ◌∷◌, ◌++◌, length, get_or, take, sym, ap, subst, ◌∙◌, arith}
use Rattle.lists.proofs.Words.{enumerate_from, length-enumerate_from, get_or-enumerate_from}
use Rattle.lists.proofs.Reading.{taken_more}
use Rattle.map_model.specs.MapNames.{LayerMap}
use Rattle.library_model.specs.declared.element.Element.{Element}
use Rattle.flatten.specs.declared.part.Part.{Part}
use Rattle.flatten.specs.inside.FollowedParts.{AreParts, no_more, passed_over, ends_there, goes_on}

module _ (names : List (List ℕ)) (layer_map : LayerMap) where
  AreParts-append : {elements others : List (ℕ × Element)} {parts rest : List Part} → AreParts names layer_map elements parts → AreParts names layer_map others rest
      → AreParts names layer_map (elements ++ others) (parts ++ rest)
  AreParts-append no_more more = more
  AreParts-append (passed_over unmapped h) more = passed_over unmapped (AreParts-append h more)
  AreParts-append (ends_there mapped h) more = ends_there mapped (AreParts-append h more)
  AreParts-append (goes_on stands h) more = goes_on stands (AreParts-append h more)

  -- one element more, by its number
  pub one_element_more : (elements : List Element) (i : ℕ) (e : Element) (parts rest : List Part) → i < length elements → e ≡ get_or elements i e
      → AreParts names layer_map (take i (enumerate_from 0 elements)) parts → AreParts names layer_map ((i, e) ∷ []) rest
      → AreParts names layer_map (take (i + 1) (enumerate_from 0 elements)) (parts ++ rest)
  one_element_more elements i e parts rest more is before here =
      subst (λ es. AreParts names layer_map es (parts ++ rest)) (sym (taken_more (enumerate_from 0 elements) i (i, e) within (sym next)))
      (AreParts-append before here)
    where
      within : i < length (enumerate_from 0 elements)
      within = omega (arith, length-enumerate_from 0 elements)

      next : get_or (enumerate_from 0 elements) i (i, e) ≡ (i, e)
      next = let zero-more : 0 + i ≡ i = omega arith in get_or-enumerate_from 0 elements i (i, e) more ∙ ap (λ k. (k, get_or elements i e)) zero-more ∙ ap (λ x. (i, x)) (sym is)
