-- what the bytes of a body say: they are bytes, and say one text
use Rattle.std.proofs.Common.{ℕ, ◌<◌, List, get_or, ◌≡◌, length, take, refl, sym, ap, ◌∙◌, arith}
use Rattle.lists.proofs.Words.{All-from_get_or, take_at}
use Rattle.lists.specs.ByteLists.{IsByte, AreBytes}
use Rattle.gds_records.specs.Fields.{IsText}
use Rattle.gds_records.proofs.TextLaws.{no_longer}

-- what a slice of bytes has are bytes
pub bytes_are_bytes : (bytes : List ℕ) → ((i : ℕ) → get_or bytes i 0 < 256) → AreBytes bytes
bytes_are_bytes bytes h = All-from_get_or IsByte bytes 0 (λ i _. h i)

pub texts_agree : (body text other : List ℕ) → IsText body text → IsText body other → text ≡ other
texts_agree body text other t o =
    let a = no_longer body text other t o in
    let b = no_longer body other text o t in
    let len : length other ≡ length text = omega arith in
    sym (take_at text t.zeros (length text) refl) ∙ ap (take (length text)) (sym t.parts ∙ o.parts) ∙ take_at other o.zeros (length text) len
