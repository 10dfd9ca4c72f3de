-- what the calls that read files come to
use Rattle.std.specs.Io.KnownBytes.{Consumes, IsAtEnd}
use Rattle.std.specs.Prelude.{vec_len, ℕ, ◌+◌, ◌≡◌, ◌≤◌, ◌<◌, List, [], length, Option, None, Some, IfSome, Result, Ok, Err, Vec}
use Rattle.lists.specs.Words.{Global}
use Rattle.lists.specs.ByteLists.{AreBytes}
use Rattle.edge_io.specs.Bytes.{Drops, DropsUpTo}
use Rattle.edge_io.specs.FailureCounts.{Rose}
use Rattle.edge_io.specs.declared.whole.ReadError.{ReadError}
use Rattle.edge_io.specs.declared.whole.ReadError.TheVariants.{Fault, TooLong, Memory}

-- a call of a source failed: the count rose, or stands at its last value, no file is started, and what is unread is not told
pub record HasFailed (old new : ℕ) (started : Type 0) (rest : Option (List ℕ)) : Type 0 where
  pub rose : Rose old new
  pub none_started : started → ⊥
  pub rest_untold : rest ≡ None

-- an open file gave these bytes, where it tells what is unread of it: they were unread at its front, and none are given only
-- where none is left
abbrev pub ReadsFrom : {File : Type 0} → (File → Option (List ℕ)) → Option File → Option File → List ℕ → Type 0
ReadsFrom unread (Some old) (Some new) given = Consumes (unread old) (unread new) given × (given ≡ [] → IsAtEnd (unread new))
ReadsFrom unread (Some old) None given = ⊥
ReadsFrom unread None new given = ⊥

-- What a file that is read whole comes to, where these are its contents, if they are told: the answer, the count of
-- failures before and after, whether the file is still started, and what is unread of it.
pub data ReadsWhole (told : Option (List ℕ)) (limit before after : ℕ) (started : Type 0) (rest : Option (List ℕ))
    : Result (Vec ℕ Global) ReadError → Type 0 where
  -- these are all bytes, no more than the limit
  is_whole : {bytes : Vec ℕ Global} → IfSome told (λ all. bytes.items ≡ all) → AreBytes bytes.items → vec_len bytes ≤ limit
      → after ≡ before → started → Drops told rest (vec_len bytes) → ReadsWhole told limit before after started rest (Ok bytes)
  -- there are more than the limit, and one more was read
  is_too_long : IfSome told (λ all. limit < length all)
      → after ≡ before → started → Drops told rest (limit + 1) → ReadsWhole told limit before after started rest (Err TooLong)
  -- no memory was left, and no more than that was read
  has_no_memory : after ≡ before → started → DropsUpTo told rest (limit + 1) → ReadsWhole told limit before after started rest (Err Memory)
  -- the source failed
  has_failed : HasFailed before after started rest → ReadsWhole told limit before after started rest (Err Fault)
