-- lists that a loop makes of the items so far, and one item more
use Rattle.std.proofs.Common.{ℕ, ◌+◌, ◌<◌, ◌≤◌, ◌≡◌, Bool, true, false, refl, sym, ap, ◌∙◌, List, [], ◌∷◌, ◌++◌, length, get_or, take, map, append_assoc, filter}
use Rattle.lists.proofs.Words.{map-append}
use Rattle.lists.proofs.Filtering.{filter_takes, filter_leaves, filter_ends}
use Rattle.lists.proofs.Reading.{map_next, map_done}

module _ {X Y : Type 0} (f : X → Y) (xs : List X) (k : ℕ) where
  -- what becomes of the items is added to a list
  module _ (before : List Y) where
    pub added_next : (x : X) (old new : List Y) → k < length xs → x ≡ get_or xs k x → old ≡ before ++ map f (take k xs) → new ≡ old ++ f x ∷ [] → new ≡ before ++ map f (take (k + 1) xs)
    added_next x old new more is so_far one =
        one ∙ ap (λ ys. ys ++ f x ∷ []) so_far ∙ append_assoc before (map f (take k xs)) (f x ∷ []) ∙ ap (λ ys. before ++ ys) (map_next f xs k x _ _ more is refl refl)

    pub added_all : (new : List Y) → length xs ≤ k → new ≡ before ++ map f (take k xs) → new ≡ before ++ map f xs
    added_all new past so_far = so_far ∙ ap (λ ys. before ++ ys) (map_done f xs k _ past refl)

  -- or only of the items that pass a test
  module _ (test : X → Bool) where
    pub kept_next : (x : X) (old new : List Y) → k < length xs → x ≡ get_or xs k x → test x ≡ true → old ≡ map f (filter test (take k xs)) → new ≡ old ++ f x ∷ []
        → new ≡ map f (filter test (take (k + 1) xs))
    kept_next x old new more is passes so_far one =
        one ∙ ap (λ ys. ys ++ f x ∷ []) so_far ∙ sym (map-append f (filter test (take k xs)) (x ∷ [])) ∙ ap (map f) (filter_takes test xs k x _ more is (sym passes) refl)

    pub left_out : (x : X) (old : List Y) → k < length xs → x ≡ get_or xs k x → test x ≡ false → old ≡ map f (filter test (take k xs)) → old ≡ map f (filter test (take (k + 1) xs))
    left_out x old more is fails so_far = so_far ∙ ap (map f) (filter_leaves test xs k x _ more is (sym fails) refl)

    pub all_kept : (new : List Y) → length xs ≤ k → new ≡ map f (filter test (take k xs)) → new ≡ map f (filter test xs)
    all_kept new past so_far = so_far ∙ ap (map f) (filter_ends test xs k _ past refl)
