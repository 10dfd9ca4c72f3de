-- terminals that share leaders
use Rattle.std.proofs.Common.{ℕ, List, ◌≡◌, ◌≢◌, refl, All, Contains}
use Rattle.lists.proofs.Words.{All-contains}
use Rattle.remnants.specs.declared.parts.Mark.{Mark}
use Rattle.remnants.specs.inside.Marking.{IsMarked, AreUnmarked, ShareLeader}

-- the terminal shares a leader with each other one
abbrev pub MeetsAll : List Mark → List ℕ → ℕ → Type 0
MeetsAll marks terminals one = (other : ℕ) → Contains terminals other → one ≢ other → ShareLeader marks one other

pub all_meet : (marks : List Mark) (terminals : List ℕ) → All (MeetsAll marks terminals) terminals → AreUnmarked terminals marks → ⊥
all_meet marks terminals all u =
    let share = All-contains (MeetsAll marks terminals) terminals u.one all u.one_is u.other u.other_is u.different in
    u.none share.0 share.1 share.2

-- one that shares no leader with another
pub one_unmarked : (marks : List Mark) (terminals : List ℕ) (one other : ℕ) → Contains terminals one → Contains terminals other → one ≢ other → (ShareLeader marks one other → ⊥)
    → AreUnmarked terminals marks
one_unmarked marks terminals one other one_is other_is different apart =
    record { one = one; other = other; one_is = one_is; other_is = other_is; different = different; none = λ leader m n. apart (leader, m, n) }

-- all at one leader
pub one_leader_shared : (marks : List Mark) (terminals : List ℕ) (leader : ℕ) → ((terminal : ℕ) → Contains terminals terminal → IsMarked marks terminal leader) → AreUnmarked terminals marks → ⊥
one_leader_shared marks terminals leader all u = u.none leader (all u.one u.one_is) (all u.other u.other_is)

-- a mark of the terminal, and one of another at the same leader
pub mark_of : (marks own : List Mark) (terminal : ℕ) (mark : Mark) → ((m : Mark) → Contains own m → Contains marks m × (m.terminal ≡ terminal)) → Contains own mark → IsMarked marks terminal mark.leader
mark_of marks own terminal mark are among = let is = are mark among in record { mark = mark; among = is.0; of_terminal = is.1; at_leader = refl }
