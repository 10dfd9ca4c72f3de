-- What a list of own records has of a kind, where some of them are written only if they say something.
use Rattle.std.proofs.Common.{◌≡◌, ◌≢◌, ℕ, suc, ℤ, pos, Bool, true, false, not, ◌==◌, if◌then◌else◌, List, [], ◌∷◌, ◌++◌, length, map, All, AllPairs, Contains, Option, Some, None, refl, sym, ap, ◌∙◌, arith, true≢false, nat_eq, option_map, unwrap_or}
use Rattle.lists.proofs.Words.{list_all, list_any, int_eq, eqb-true, Decides-eqb, Decides-int_eq, nat_eq_equiv, All-cons, All-head, All-tail, AllPairs-cons, AllPass-from_list_all, IsDistinct-from_count, Contains-from_any}
use Rattle.std.specs.Set.{distinct_count}
use Rattle.std.proofs.lemmas.Map.Made.{AllPairs-from_IsDistinct}
use Rattle.library_grammar.specs.GrammarNames.{Entry, field, kinds_of}
use Rattle.gds_write.specs.Bodies.{entry_if, is_not_zero}
use Rattle.std.proofs.lemmas.Bool.{true_from_ne_false}

-- records, each with whether it is written
abbrev pub written_of : List (Bool × Entry) → List Entry
written_of [] = []
written_of (part ∷ parts) = entry_if part.0 part.1 ++ written_of parts

-- their kinds
abbrev pub part_kinds : List (Bool × Entry) → List ℕ
part_kinds parts = map (λ part. part.1.kind) parts

-- ---- fields

-- the body of the first of this kind that is written
abbrev pub first_of : ℕ → List (Bool × Entry) → Option (List ℕ)
first_of k [] = None
first_of k (part ∷ parts) = if part.1.kind == k then (if part.0 then Some part.1.body else first_of k parts) else first_of k parts

field_by : (k : ℕ) (b : Bool) (e : Entry) (rest : List Entry) (o : Option (List ℕ)) (same : Bool) → (e.kind == k) ≡ same → field k rest ≡ o
    → field k (entry_if b e ++ rest) ≡ (if same then (if b then Some e.body else o) else o)
field_by k true e rest o true is later = rw is refl
field_by k true e rest o false is later = rw is later
field_by k false e rest o true is later = later
field_by k false e rest o false is later = later

pub field_of : (k : ℕ) (parts : List (Bool × Entry)) → field k (written_of parts) ≡ first_of k parts
field_of k [] = refl
field_of k (part ∷ parts) = field_by k part.0 part.1 (written_of parts) (first_of k parts) (part.1.kind == k) refl (field_of k parts)

-- a number that is not written is 0
zero_unwritten : (z : ℤ) → is_not_zero z ≡ false → z ≡ pos 0
zero_unwritten z e = (Decides-int_eq z (pos 0)).0 (true_from_ne_false (int_eq z (pos 0)) (λ other. true≢false (sym (ap not other) ∙ e)))

pub number_reads_by : (f : List ℕ → ℤ) (body : List ℕ) (z : ℤ) (b : Bool) → is_not_zero z ≡ b → f body ≡ z → unwrap_or (option_map f (if b then Some body else None)) (pos 0) ≡ z
number_reads_by f body z true written reads = reads
number_reads_by f body z false unwritten reads = sym (zero_unwritten z unwritten)

-- ---- kinds

pub all_written : (P : ℕ → Type 0) (parts : List (Bool × Entry)) → All P (part_kinds parts) → All P (kinds_of (written_of parts))
all_written P [] h = h
all_written P ((true, e) ∷ parts) h =
    All-cons P e.kind (kinds_of (written_of parts)) (All-head P e.kind (part_kinds parts) h) (all_written P parts (All-tail P e.kind (part_kinds parts) h))
all_written P ((false, e) ∷ parts) h = all_written P parts (All-tail P e.kind (part_kinds parts) h)

once_written : (parts : List (Bool × Entry)) → AllPairs (λ one other. one ≢ other) (part_kinds parts) → AllPairs (λ one other. one ≢ other) (kinds_of (written_of parts))
once_written [] h = h
once_written ((true, e) ∷ parts) h =
    AllPairs-cons (λ one other. one ≢ other) e.kind (kinds_of (written_of parts)) (all_written (λ other. e.kind ≢ other) parts (λ k d l. h 0 (suc k) d (omega arith) (omega arith)))
    (once_written parts (λ i j d l m. h (suc i) (suc j) d (omega arith) (omega arith)))
once_written ((false, e) ∷ parts) h = once_written parts (λ i j d l m. h (suc i) (suc j) d (omega arith) (omega arith))

-- kinds of which each is among some, and which differ, by computing
pub all_among : (zs : List ℕ) (parts : List (Bool × Entry)) → list_all (λ k. list_any (nat_eq k) zs) (part_kinds parts) ≡ true → All (Contains zs) (kinds_of (written_of parts))
all_among zs parts h = all_written (Contains zs) parts (λ i d l. Contains-from_any (eqb-true) _ zs (AllPass-from_list_all (λ k. list_any (nat_eq k) zs) (part_kinds parts) h i d l))

pub all_differ : (parts : List (Bool × Entry)) → distinct_count nat_eq (part_kinds parts) ≡ length (part_kinds parts) → AllPairs (λ one other. one ≢ other) (kinds_of (written_of parts))
all_differ parts h = once_written parts (AllPairs-from_IsDistinct Decides-eqb (part_kinds parts) (IsDistinct-from_count nat_eq_equiv (part_kinds parts) h))
