-- two numbers have one class exactly where they are joined, and the pairs leave no choice of classes
use Rattle.std.proofs.Common.{ℕ, ◌≤◌, ◌<◌, ◌≡◌, sym, subst, ◌∙◌, List, length, arith, inl, inr}
use Rattle.lists.proofs.Words.{slice_get-get_or}
use Rattle.std.proofs.lemmas.Grind.{same_number_lists}
use Rattle.paths.proofs.PathLaws.{append, reverse}
use Rattle.classes.specs.Classes.{IsPair, AreJoined, IsClasses}
use Rattle.classes.specs.ClassConsequences.{EqualWhereJoined, ClassesAgree}

IsPair-sym : (pairs : List (ℕ × ℕ)) (a b : ℕ) → IsPair pairs a b → IsPair pairs b a
IsPair-sym pairs a b (inl c) = inr c
IsPair-sym pairs a b (inr c) = inl c

AreJoined-sym : (n : ℕ) (pairs : List (ℕ × ℕ)) {a b : ℕ} → AreJoined n pairs a b → AreJoined n pairs b a
AreJoined-sym n pairs = reverse (IsPair-sym pairs)

antisym : (a b : ℕ) → a ≤ b → b ≤ a → a ≡ b
antisym a b h k = omega arith

pub equal_where_joined : (n : ℕ) (pairs : List (ℕ × ℕ)) (classes : List ℕ) → IsClasses n pairs classes → EqualWhereJoined n pairs classes
equal_where_joined n pairs classes c i k m m' at_i at_k =
    let to_i = c.joined i m at_i in
    let to_k = c.joined k m' at_k in (
      λ same. append (AreJoined-sym n pairs to_i) (subst (λ x. AreJoined n pairs x k) (sym same) to_k),
      λ path. antisym m m' (c.least i m m' at_i (append to_k (AreJoined-sym n pairs path))) (c.least k m' m at_k (append to_i path)),
    )

pub classes_agree : (n : ℕ) (pairs : List (ℕ × ℕ)) → ClassesAgree n pairs
classes_agree n pairs xs ys c d =
    let x_long = c.one_each in
    let y_long = d.one_each in
    same_number_lists xs ys (x_long ∙ sym y_long) (λ k small.
    let x_at = slice_get-get_or xs k 0 small in
    let small' : k < length ys = omega arith in
    let y_at = slice_get-get_or ys k 0 small' in
    antisym _ _ (c.least k _ _ x_at (d.joined k _ y_at)) (d.least k _ _ y_at (c.joined k _ x_at)))
