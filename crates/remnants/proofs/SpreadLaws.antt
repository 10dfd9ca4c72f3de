-- terminals that go, and what stays without them
use Rattle.std.proofs.Common.{ℕ, List, [], ◌∷◌, ◌++◌, ◌+◌, ◌<◌, ◌≡◌, subst, sym, ap, ◌∙◌, inl, inr, ◌↔◌, length, map, take, get_or, Contains, Some, None}
use Rattle.lists.proofs.Containing.{Contains-cons_cases, Contains-head, Contains-none, Contains-tail, Contains-take_cases}
use Rattle.lists.proofs.Words.{Contains-push, Contains-push_cases, Contains-append_left, same_Some}
use Rattle.remnants.specs.declared.parts.Loose.{Loose}
use Rattle.remnants.specs.declared.parts.Mark.{Mark}
use Rattle.remnants.specs.declared.proposing.StandIn.{StandIn}
use Rattle.remnants.specs.inside.Thinning.{StandsFor, IsStoodFor}

-- ---- terminals with something loose

abbrev pub HasLooseTerminals : List Loose → List ℕ → Type 0
HasLooseTerminals loose found = (one : Loose) (terminal : ℕ) → Contains loose one → one.terminal ≡ Some terminal → Contains found terminal

module _ (loose : List Loose) (k : ℕ) (one : Loose) (found : List ℕ) (small : k < length loose) (is : one ≡ get_or loose k one) (so_far : HasLooseTerminals (take k loose) found) where
  pub loose_more : (terminal : ℕ) → one.terminal ≡ Some terminal → HasLooseTerminals (take (k + 1) loose) (found ++ terminal ∷ [])
  loose_more terminal e other t among f = elim (Contains-take_cases loose k one other small among) [
    | inl before ↦ Contains-append_left found (terminal ∷ []) t (so_far other t before f)
    | inr last ↦ subst (Contains (found ++ terminal ∷ [])) (same_Some terminal t (sym e ∙ ap (λ (x : Loose). x.terminal) (is ∙ last) ∙ f)) (Contains-push found terminal)
  ]

  pub loose_none : one.terminal ≡ None → HasLooseTerminals (take (k + 1) loose) found
  loose_none e other t among f = elim (Contains-take_cases loose k one other small among) [
    | inl before ↦ so_far other t before f
    | inr last ↦ cc (sym e ∙ ap (λ (x : Loose). x.terminal) (is ∙ last) ∙ f)
  ]

-- ---- terminals that others stand for

-- the same where fewer go, where fewer have something loose, and where more are listed
pub stands_still : (terminals listed : List ℕ) (has_loose is_loose : ℕ → Type 0) (marks : List Mark) (gone going : List ℕ) (terminal : ℕ)
    → ((t : ℕ) → Contains listed t → Contains terminals t) → ((t : ℕ) → has_loose t → is_loose t) → ((t : ℕ) → Contains gone t → Contains going t)
    → IsStoodFor listed is_loose marks going terminal → IsStoodFor terminals has_loose marks gone terminal
stands_still terminals listed has_loose is_loose marks gone going terminal all loose fewer (other, s) = (
  other,
  record {
    listed = all other s.listed;
    stays = λ g. s.stays (fewer other g);
    settled = λ l. s.settled (loose other l);
    somewhere = s.somewhere;
    covered = s.covered;
  },
)

pub Contains-goes : (pairs : List StandIn) (pair : StandIn) → Contains pairs pair → Contains (map (λ (p : StandIn). p.goes) pairs) pair.goes
Contains-goes [] pair h = absurd (Contains-none h)
Contains-goes (x ∷ pairs) pair h = elim (Contains-cons_cases x pairs pair h) [
  | inl e ↦ subst (λ (p : StandIn). Contains (x.goes ∷ map (λ (q : StandIn). q.goes) pairs) p.goes) e (Contains-head x.goes (map (λ (q : StandIn). q.goes) pairs))
  | inr rest ↦ Contains-tail x.goes (map (λ (q : StandIn). q.goes) pairs) pair.goes (Contains-goes pairs pair rest)
]

-- the terminals that go, pair by pair
abbrev pub AreGoing : List ℕ → (ℕ → Type 0) → List Mark → List ℕ → List ℕ → Type 0
AreGoing listed is_loose marks going gone = (terminal : ℕ) → Contains gone terminal → Contains going terminal × IsStoodFor listed is_loose marks going terminal

pub going_more : (listed : List ℕ) (is_loose : ℕ → Type 0) (marks : List Mark) (going gone : List ℕ) (pair : StandIn) → Contains going pair.goes
    → StandsFor listed is_loose marks going pair.stays pair.goes → AreGoing listed is_loose marks going gone → AreGoing listed is_loose marks going (gone ++ pair.goes ∷ [])
going_more listed is_loose marks going gone pair goes stands so_far terminal among = elim (Contains-push_cases gone pair.goes terminal among) [
  | inl before ↦ so_far terminal before
  | inr last ↦ subst (λ t. Contains going t × IsStoodFor listed is_loose marks going t) last (goes, (pair.stays, stands))
]

pub none_going : (terminals : List ℕ) (has_loose : ℕ → Type 0) (marks : List Mark) (gone : List ℕ) → gone ≡ [] → (terminal : ℕ) → Contains gone terminal
    → IsStoodFor terminals has_loose marks gone terminal
none_going terminals has_loose marks gone none terminal among = absurd (Contains-none (subst (λ g. Contains g terminal) none among))

-- ---- what stays without the terminals that go

abbrev pub StayWithout : {X : Type 0} → (X → ℕ) → List ℕ → List X → List X → Type 0
StayWithout {X} terminal_of gone items stay = (x : X) → Contains stay x ↔ (Contains items x × (Contains gone (terminal_of x) → ⊥))

module _ {X : Type 0} (terminal_of : X → ℕ) (gone : List ℕ) (items stay : List X) (so_far : StayWithout terminal_of gone items stay) (x : X) where
  pub stays_more : (Contains gone (terminal_of x) → ⊥) → StayWithout terminal_of gone (items ++ x ∷ []) (stay ++ x ∷ [])
  stays_more here y = (
    λ h. elim (Contains-push_cases stay x y h) [
      | inl before ↦ let b = (so_far y).0 before in (Contains-append_left items (x ∷ []) y b.0, b.1)
      | inr e ↦ (subst (Contains (items ++ x ∷ [])) e (Contains-push items x), λ g. here (subst (λ z. Contains gone (terminal_of z)) (sym e) g))
    ],
    λ h. elim (Contains-push_cases items x y h.0) [
      | inl before ↦ Contains-append_left stay (x ∷ []) y ((so_far y).1 (before, h.1))
      | inr e ↦ subst (Contains (stay ++ x ∷ [])) e (Contains-push stay x)
    ],
  )

  pub goes_more : Contains gone (terminal_of x) → StayWithout terminal_of gone (items ++ x ∷ []) stay
  goes_more went y = (
    λ h. let b = (so_far y).0 h in (Contains-append_left items (x ∷ []) y b.0, b.1),
    λ h. elim (Contains-push_cases items x y h.0) [
      | inl before ↦ (so_far y).1 (before, h.1)
      | inr e ↦ absurd (h.1 (subst (λ z. Contains gone (terminal_of z)) e went))
    ],
  )
