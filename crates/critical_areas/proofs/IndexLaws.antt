-- what is put in order for tiles, and what is found in it
use Rattle.std.proofs.Common.{ℕ, All, ◌<◌, ◌≡◌, ap, sym, ◌∙◌, subst, List, [], length, get_or, ◌↔◌, Option, Some, slice_get, slice_index_or, arith}
use Rattle.std.proofs.lemmas.List.Elements.{AllZip-get_or}
use Rattle.std.specs.Option.{ForSome}
use Rattle.std.specs.Slice.{IsItemAt}
use Rattle.lists.proofs.Words.{AllZip, AllZip-long, Bor, Contains-permutation, IsPermutation, IsPermutation-sym, get_or_from_slice_get, slice_get-get_or}
use Rattle.geo_core.specs.Plane.{IsInUnion}
use Rattle.geo_core.specs.declared.plane.Cell.{Cell}
use Rattle.geo_core.specs.declared.plane.Labelled.{Labelled}
use Rattle.geo_core.specs.declared.plane.Rect.{Rect}
use Rattle.fault_model.specs.FaultNames.{IslandLists}
use Rattle.fault_model.proofs.UnionLaws.{among_union, in_union}
use Rattle.questions.specs.declared.kind.Kind.TheVariants.{Open}
use Rattle.questions.specs.declared.question.Question.{Question}
use Rattle.critical_areas.specs.declared.apart.Apart.{Apart}
use Rattle.area_parts.specs.declared.parts.Parts.{Parts}
use Rattle.critical_areas.specs.inside.IslandsApart.{AreApart, none_apart}
use Rattle.critical_areas.specs.inside.Indexes.{AreIndexesOf, AreOpensIn, AreReordered, HasItsOpens}
use Rattle.area_parts.proofs.laws.ListLaws.{read_list}
use Rattle.critical_areas.proofs.ZippedLaws.{zipped_at}

-- ---- what is put in order

-- rectangles in another order have the same cells
union_permuted : (xs ys : List Rect) → IsPermutation xs ys → (c : Cell) → IsInUnion ys c ↔ IsInUnion xs c
union_permuted xs ys order c = (
  λ v. in_union xs v.rect c (Contains-permutation ys xs v.rect (IsPermutation-sym xs ys order) (among_union ys c v)) v.has,
  λ v. in_union ys v.rect c (Contains-permutation xs ys v.rect order (among_union xs c v)) v.has,
)

-- the opens of a question, in another order
pub opens_permuted : (parts : Parts) (apart : List Apart) (window : Rect) (question : Question) (xs ys : List Rect) → IsPermutation xs ys → AreOpensIn parts apart window question xs
    → AreOpensIn parts apart window question ys
opens_permuted parts apart window question xs ys order are c =
    let same = union_permuted xs ys order c in (λ v. (are c).0 (same.0 v), λ o. same.1 ((are c).1 o))

pub reordered : {X : Type 0} (lists indexes : List (List X)) → AllZip IsPermutation lists indexes → AreReordered lists indexes
reordered lists indexes each number small =
    let long = AllZip-long IsPermutation lists indexes each in AllZip-get_or IsPermutation lists indexes number [] [] each (omega (arith, long))

-- the islands of each metal are apart
pub apart_at : (metals : List (List IslandLists)) (apart : List Apart) (number : ℕ) → AllZip AreApart metals apart → number < length metals
    → AreApart (slice_index_or metals number []) (slice_index_or apart number none_apart)
apart_at metals apart number each small = zipped_at AreApart metals apart none_apart each number (get_or metals number []) (slice_get-get_or metals number [] small)

-- an item that was read is the one with its number
item_read : {X : Type 0} (xs : List X) (number : ℕ) (x d : X) → number < length xs → x ≡ get_or xs number x → get_or xs number d ≡ x
item_read xs number x d small is = get_or_from_slice_get xs number x d (slice_get-get_or xs number x small ∙ ap Some (sym is))

module _ (metals : List (List IslandLists)) (apart : List Apart) (number : ℕ) (each : AllZip AreApart metals apart) (small : number < length metals) (both : Apart) (is_both : both ≡ get_or apart number both)
    (large : List ℕ) (is_large : large ≡ both.large) where
  -- numbers of large islands that were read
  pub large_read : large ≡ (slice_index_or apart number none_apart).large
  large_read =
      let long = AllZip-long AreApart metals apart each in
      is_large ∙ ap (λ (a : Apart). a.large) (sym (item_read apart number both none_apart (omega (arith, long)) is_both))

  -- are those of islands
  pub large_within : (islands : List IslandLists) → islands ≡ slice_index_or metals number [] → All (λ k. k < length islands) large
  large_within islands is_islands =
      let within = (apart_at metals apart number each small).within in
      subst (λ (numbers : List ℕ). All (λ k. k < length islands) numbers) (sym large_read)
      (subst (λ (list : List IslandLists). All (λ k. k < length list) (slice_index_or apart number none_apart).large) (sym is_islands) within)

pub no_lists : {X : Type 0} (lists : List (List X)) → AreReordered lists []
no_lists lists number small = absurd (omega arith)

module _ (parts : Parts) (questions : List Question) (window : Rect) where
  -- all indexes, or none
  pub are_indexes : (islands : List Apart) (opens : List (List Rect)) (metals : List (List Labelled)) (cuts : List (List Rect)) → AllZip AreApart parts.islands islands
      → AllZip (HasItsOpens parts islands window) questions opens → AreReordered parts.metals metals → AllZip IsPermutation parts.cuts cuts
      → AreIndexesOf parts questions window islands opens metals cuts
  are_indexes islands opens metals cuts of_islands of_opens of_metals of_cuts = record {
    of_islands = λ number small. apart_at parts.islands islands number of_islands (let long = AllZip-long AreApart parts.islands islands of_islands in omega (arith, long));
    of_opens = λ slot question small at. zipped_at (HasItsOpens parts islands window) questions opens [] of_opens slot question at;
    of_metals = of_metals;
    of_cuts = reordered parts.cuts cuts of_cuts;
  }

  pub no_indexes : AreIndexesOf parts questions window [] [] [] []
  no_indexes = record {
    of_islands = λ number small. absurd (omega arith);
    of_opens = λ slot question small at. absurd (omega arith);
    of_metals = no_lists parts.metals;
    of_cuts = no_lists parts.cuts;
  }

-- ---- what is found

-- an item that was found by its number
pub found_at : {X : Type 0} (xs : List X) (i : ℕ) (found : Option (Bor X)) → IsItemAt xs i found → (x : Bor X) → found ≡ Some x → (d : X) → (i < length xs) × (slice_index_or xs i d ≡ x.now)
found_at xs i found at x is d =
    let here : IsItemAt xs i (Some x) = subst (IsItemAt xs i) is at in (here.3.0, sym (here.4 (omega arith) d))

-- a list that was read by its number
pub list_read : {X : Type 0} (lists given : List (List X)) (number : ℕ) (list read : List X) → lists ≡ given → number < length lists → list ≡ get_or lists number list → read ≡ list
    → read ≡ slice_index_or given number []
list_read lists given number list read same small is at = at ∙ sym (read_list lists number list small is) ∙ ap (λ ls. get_or ls number []) same

-- an index that was found has the items of the list
pub reordered_at : {X : Type 0} (lists indexes read : List (List X)) (number : ℕ) (list : List X) (found : Option (Bor (List X))) → AreReordered lists indexes → list ≡ slice_index_or lists number []
    → read ≡ indexes → IsItemAt read number found → ForSome found (λ index. IsPermutation list index.now)
reordered_at lists indexes read number list found are is_list is_read at index is =
    let here = found_at indexes number found (subst (λ xs. IsItemAt xs number found) is_read at) index is [] in
    subst (λ xs. IsPermutation xs index.now) (sym is_list) (subst (IsPermutation (slice_index_or lists number [])) here.1 (are number here.0))

-- islands that were found are those of the metal, apart
pub apart_found : (metals : List (List IslandLists)) (apart read : List Apart) (number : ℕ) (islands : List IslandLists) (found : Option (Bor Apart))
    → ((k : ℕ) → k < length apart → AreApart (slice_index_or metals k []) (slice_index_or apart k none_apart)) → islands ≡ slice_index_or metals number [] → read ≡ apart → IsItemAt read number found
    → ForSome found (λ both. AreApart islands both.now)
apart_found metals apart read number islands found are is_list is_read at both is =
    let here = found_at apart number found (subst (λ xs. IsItemAt xs number found) is_read at) both is none_apart in
    subst (λ xs. AreApart xs both.now) (sym is_list) (subst (AreApart (slice_index_or metals number [])) here.1 (are number here.0))

-- opens that were found have the cells of the window at which there are some of large islands
pub opens_at : (parts : Parts) (questions : List Question) (window : Rect) (islands : List Apart) (opens : List (List Rect)) (metals : List (List Labelled)) (cuts : List (List Rect))
    → AreIndexesOf parts questions window islands opens metals cuts → (slot : ℕ) (question : Question) → slice_get questions slot ≡ Some question → question.kind ≡ Open
    → (found : Option (Bor (List Rect))) → IsItemAt opens slot found → (cells : Bor (List Rect)) → found ≡ Some cells → AreOpensIn parts islands window question cells.now
opens_at parts questions window islands opens metals cuts are slot question at kind found item cells is =
    let here = found_at opens slot found item cells is [] in subst (AreOpensIn parts islands window question) here.1 (are.of_opens slot question here.0 at kind)
