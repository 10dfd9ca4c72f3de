-- what stands at a key: a text, a name, and the metal that it names
use Rattle.std.proofs.Common.{◌≡◌, ℕ, List, map, Option, Some, None, refl, sym, ap, ◌∙◌, subst, option_and_then, option_map, slice_get, arith, true, false, ◌↔◌, IfSome, IsSome}
use Rattle.lists.proofs.Words.{length-map, same_Some, slice_get-map, slice_get_within}
use Rattle.lists.proofs.Containing.{some_item}
use Rattle.toml.specs.Data.{Data, string, as_str}
use Rattle.layer_map.specs.Documents.{NamesMetal}
use Rattle.layer_map.specs.inside.ReadValues.{Finds, finds, lacks, IsThere}
use Rattle.map_model.specs.MapNames.{IsLayerName, metal_layer}
use Rattle.map_model.specs.declared.layers.Metal.{Metal}

pub text_is : (there : Option Data) (text : List ℕ) → Some text ≡ option_and_then as_str there → there ≡ Some (string text)
text_is (Some (string s)) text h = ap (λ t. Some (string t)) (sym (same_Some _ _ h))
text_is other text h = cc h

-- no text stands there, or one that is a name or not
pub no_text_there : (Kind : List ℕ → Type 0) (there : Option Data) → None ≡ option_and_then as_str there → Finds (IsThere string Kind there) None
no_text_there Kind there h = lacks (λ name is. let e : None ≡ Some name = h ∙ ap (option_and_then as_str) is.written in cc e)

pub name_there : (there : Option Data) (text : List ℕ) (made : Option (List ℕ)) → Some text ≡ option_and_then as_str there → IfSome made (λ name. name ≡ text) → IsSome made ↔ IsLayerName text
    → Finds (IsThere string IsLayerName there) made
name_there there text (Some name) told same valid =
    finds (record { written = text_is there text told ∙ ap (λ t. Some (string t)) (sym same); is = subst IsLayerName (sym same) (valid.0 refl) })
name_there there text None told same valid =
    lacks (λ name is.
    let e : Some text ≡ Some name = told ∙ ap (option_and_then as_str) is.written in
    let equal : text ≡ name = same_Some _ _ e in
    let some : false ≡ true = valid.1 (subst IsLayerName (sym equal) is.is) in
    cc some)

-- the metal of which the name stands there
pub names_metal : (metals : List Metal) (there : Option Data) (text : List ℕ) → there ≡ Some (string text) → (number : ℕ) → slice_get (map (λ metal. metal.name) metals) number ≡ Some text
    → NamesMetal (map metal_layer metals) there number
names_metal metals there text is number named =
    let within = slice_get_within (map (λ (m : Metal). m.name) metals) number text named in
    let (metal, at_number) = some_item metals number (omega (arith, length-map metals (λ (m : Metal). m.name))) in
    let same : Some metal.name ≡ Some text = sym (slice_get-map (λ (m : Metal). m.name) metals number ∙ ap (option_map (λ (m : Metal). m.name)) at_number) ∙ named in
    record {
      metal = metal_layer metal;
      numbered = slice_get-map metal_layer metals number ∙ ap (option_map metal_layer) at_number;
      named = is ∙ ap (λ (t : List ℕ). Some (string t)) (sym (same_Some _ _ same));
    }
