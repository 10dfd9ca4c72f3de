-- What each step of the writer puts behind what is there.
use Rattle.std.proofs.Common.{◌≡◌, ℕ, ◌+◌, ◌*◌, ◌<◌, ◌≤◌, List, [], ◌∷◌, ◌++◌, length, get_or, take, All, refl, sym, ap, subst, ◌∙◌, append_assoc, take_all}
use Rattle.lists.proofs.Words.{flat_map, append-nil, flat_map-append, get_or_default}
use Rattle.byteorder.specs.Endian.{big_bytes}
use Rattle.geo_core.specs.declared.plane.Point.{Point}
use Rattle.gds_records.specs.declared.forms.TheConstants as form
use Rattle.gds_records.specs.declared.kinds.TheConstants as kind
use Rattle.library_grammar.specs.GrammarNames.{Entry, spelling, spellings}
use Rattle.gds_write.specs.Bodies.{point_bytes, points_entry}
use Rattle.lists.proofs.Reading.{flat_map_next, gained_more}
use Rattle.gds_write.proofs.ProfileLaws.{length-points}

-- two lists of records, one after the other
pub appended : (old mid new : List ℕ) (xs ys : List Entry) → mid ≡ old ++ spellings xs → new ≡ mid ++ spellings ys → new ≡ old ++ spellings (xs ++ ys)
appended old mid new xs ys first second =
    second ∙ ap (λ (m : List ℕ). m ++ spellings ys) first ∙ append_assoc old (spellings xs) (spellings ys) ∙ ap (λ (m : List ℕ). old ++ m) (sym (flat_map-append spelling xs ys))

-- one part more is written
pub part_written : {A : Type 0} (f : A → List Entry) (parts : List A) (i : ℕ) (a : A) (old now new : List ℕ) → i < length parts → a ≡ get_or parts i a
    → now ≡ old ++ spellings (flat_map f (take i parts)) → new ≡ now ++ spellings (f a) → new ≡ old ++ spellings (flat_map f (take (i + 1) parts))
part_written f parts i a old now new more is before one =
    appended old now new (flat_map f (take i parts)) (f a) before one ∙ ap (λ (es : List Entry). old ++ spellings es) (flat_map_next f parts i a _ _ more is refl refl)

-- one point more is written
pub point_written : (points : List Point) (i : ℕ) (d : Point) (old now new : List ℕ) → i < length points
    → now ≡ old ++ flat_map point_bytes (take i points) → new ≡ now ++ point_bytes (get_or points i d) → new ≡ old ++ flat_map point_bytes (take (i + 1) points)
point_written points i d old now new more before one =
    gained_more old now new (flat_map point_bytes (take i points)) (point_bytes (get_or points i d)) _ before one
    (flat_map_next point_bytes points i (get_or points i d) _ _ more (get_or_default points i d (get_or points i d) more) refl refl)

-- all points are written, behind the head of their record
pub points_written : (points : List Point) (i size : ℕ) (old now new : List ℕ) → length points ≤ i → size ≡ 8 * length points
    → now ≡ old ++ big_bytes 2 (size + 4) ++ kind.XY ∷ form.FOUR_BYTE_NUMBERS ∷ [] → new ≡ now ++ flat_map point_bytes (take i points)
    → new ≡ old ++ spelling (points_entry points)
points_written points i size old now new all is_size head body =
    let whole : take i points ≡ points = take_all i points all in
    let length_is : length (flat_map point_bytes points) ≡ size = length-points points ∙ sym is_size in
    rw (body, whole, head, length_is) (simp append_assoc)

-- a list of one record
pub one_is_list : (now new : List ℕ) (e : Entry) → new ≡ now ++ spelling e → new ≡ now ++ spellings (e ∷ [])
one_is_list now new e a = a ∙ ap (λ (v : List ℕ). now ++ v) (sym (append-nil (spelling e)))

-- two records
pub two_written : (old one new : List ℕ) (first second : Entry) → one ≡ old ++ spelling first → new ≡ one ++ spelling second → new ≡ old ++ spellings (first ∷ second ∷ [])
two_written old one new first second a b = appended old one new (first ∷ []) (second ∷ []) (one_is_list old one first a) (one_is_list one new second b)

-- two records, others and one more
pub enclosed_by_two : (old one two three new : List ℕ) (first second last : Entry) (between : List Entry) → one ≡ old ++ spelling first → two ≡ one ++ spelling second
    → three ≡ two ++ spellings between → new ≡ three ++ spelling last → new ≡ old ++ spellings (first ∷ second ∷ between ++ last ∷ [])
enclosed_by_two old one two three new first second last between a b c d =
    appended old three new (first ∷ second ∷ between) (last ∷ []) (appended old two three (first ∷ second ∷ []) between (two_written old one two first second a b) c)
    (one_is_list three new last d)

-- all parts are written
pub all_written : {A : Type 0} (f : A → List Entry) (parts : List A) (i : ℕ) (old now : List ℕ) → length parts ≤ i
    → now ≡ old ++ spellings (flat_map f (take i parts)) → now ≡ old ++ spellings (flat_map f parts)
all_written {A} f parts i old now all done = done ∙ ap (λ (v : List A). old ++ spellings (flat_map f v)) (take_all i parts all)

-- what holds of each item holds of the next
pub of_next : {A : Type 0} (P : A → Type 0) (items : List A) (i : ℕ) (a : A) → All P items → i < length items → a ≡ get_or items i a → P a
of_next P items i a all more is = subst P (sym is) (all i a more)

-- records, others and one more
pub enclosed : (old one two new : List ℕ) (first between : List Entry) (last : Entry) → one ≡ old ++ spellings first → two ≡ one ++ spellings between
    → new ≡ two ++ spelling last → new ≡ old ++ spellings (first ++ between ++ last ∷ [])
enclosed old one two new first between last a b c =
    appended old two new (first ++ between) (last ∷ []) (appended old one two first between a b) (one_is_list two new last c)
