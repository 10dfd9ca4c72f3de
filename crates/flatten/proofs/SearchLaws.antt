-- searches
use Rattle.std.proofs.Common.{ℕ, zero, suc, ◌+◌, ◌≤◌, ◌<◌, ◌≡◌, ◌≢◌, ◌⊎◌, inl, inr, List, [], ◌∷◌, ◌++◌, length, get_or, set, refl, sym, ap, subst, ◌∙◌, Vec, Some, slice_get, arith, length-append, Contains, length-set, get_or-set_same, get_or-set_other}
use Rattle.lists.proofs.Words.{Global, get_or_past, length-replicate, option_map_or, cases_lt, slice_get_read, slice_get_within, sum_by-set, All-append, All-cons, All-head, All-nil, Contains-append_left, Contains-push, Contains-push_cases}
use Rattle.std.proofs.Math.ListN.{replicate}
use Rattle.std.proofs.lemmas.List.{get_or-replicate}
use Rattle.flatten.specs.declared.part.Part.{Part}
use Rattle.flatten.specs.declared.summary.Summary.{Summary}
use Rattle.flatten.specs.declared.summary.State.{State}
use Rattle.flatten.specs.declared.summary.State.TheVariants.{New, Open, Done}
use Rattle.flatten.specs.inside.FollowedParts.{AreBelow, AreNodesBelow, LeadsTo, parts_at, Leads}
use Rattle.flatten.specs.inside.Weights.{Weight, no_weight, weight_over, Weighs, weighs, IsKept}
use Rattle.flatten.specs.inside.Surveys.{state_of, AreDone, AreTrue, AreWeighed, AreSettled, KeepsDone}
use Rattle.flatten.specs.inside.Searches.{IsDoneBefore, IsSaid, IsWay, IsSearch, steps_left, steps_of_state}
use Rattle.lists.proofs.Comparing.{equal_or_not}
use Rattle.lists.proofs.Containing.{All-back, All-front, Contains-head, Contains-none, number_of, slice_get-front, some_item}

-- the parts that are read at a number
pub parts_read : (nodes : List (Vec Part Global)) (one : ℕ) (parts : Vec Part Global) (got : List Part) → got ≡ parts.items → one < length nodes → parts ≡ get_or nodes one parts
    → got ≡ parts_at nodes one
parts_read nodes one parts got e h is = e ∙ sym (ap (λ o. option_map_or (λ p. p.items) o []) (slice_get_read nodes (length nodes) one parts refl h is))

-- what is neither open nor done is new
pub is_new : (state : State) → ((next : ℕ) → state ≡ Open next → ⊥) → ((summary : Summary) → state ≡ Done summary → ⊥) → state ≡ New
is_new New not_open not_done = refl
is_new (Open next) not_open not_done = absurd (not_open next refl)
is_new (Done summary) not_open not_done = absurd (not_done summary refl)

-- a list of one value, read anywhere
pub as_made : {A : Type 0} → (count one : ℕ) (value : A) → get_or (replicate count value) one value ≡ value
as_made count one value = elim (cases_lt one count) [
  | inl h ↦ get_or-replicate count one value value h
  | inr past ↦ get_or_past (replicate count value) one value (rw length-replicate past)
]

-- where every state is new, nothing is said of any structure
pub nothing_surveyed : (nodes : List (Vec Part Global)) (count : ℕ) → AreSettled nodes (replicate count New)
nothing_surveyed nodes count = record {
  are_true = λ one summary done. let new = as_made count one New in cc done;
  none_open = λ one next is_open. let new = as_made count one New in cc is_open;
}

-- the weights of the structures that are done
module _ (nodes : List (Vec Part Global)) (states : List State) (are_true : AreTrue nodes states) where
  told_at : (one : ℕ) → (weight : Weight) × ((summary : Summary) → state_of states one ≡ Done summary → Weighs nodes one weight × IsKept weight summary)
  told_at one = by_state (state_of states one) refl
    where
      by_state : (state : State) → state_of states one ≡ state → (weight : Weight) × ((summary : Summary) → state_of states one ≡ Done summary → Weighs nodes one weight × IsKept weight summary)
      by_state New e = (no_weight, λ summary done. absurd (let no : ⊥ = cc in no))
      by_state (Open next) e = (no_weight, λ summary done. absurd (let no : ⊥ = cc in no))
      by_state (Done kept) e = let told = are_true one kept e in (told.0, λ summary done. let same : kept ≡ summary = cc in (told.1, subst (IsKept told.0) same told.2))

  abbrev weight_at : ℕ → Weight
  weight_at one = (told_at one).0

  -- the weight of one more, whose parts refer to such alone
  weighed_by : (one : ℕ) (summary : Summary) → AreDone states (parts_at nodes one)
      → ((of : ℕ → Weight) → AreWeighed states of (parts_at nodes one) → IsKept (weight_over of (parts_at nodes one)) summary)
      → (weight : Weight) × Weighs nodes one weight × IsKept weight summary
  weighed_by one summary done keeps = (
    weight_over weight_at (parts_at nodes one),
    weighs weight_at (λ other leads. let known = done leads.0 other leads.1 in ((told_at other).1 known.0 known.1).0),
    keeps weight_at (λ reference target there. let known = done reference target there in (known.0, known.1, ((told_at target).1 known.0 known.1).1)),
  )

-- what a search says of structures that are done is true
said_true : {nodes : List (Vec Part Global)} {root : ℕ} {states : List State} {stack : List ℕ} → IsSearch nodes root states stack → AreTrue nodes states
said_true {nodes} {root} {states} {stack} search one summary done = subst (IsSaid nodes root states stack one) done (search.said one)

-- states of which one is set: that one, and the others as they were
by_set : (states : List State) (one : ℕ) (state : State) → one < length states → (P : ℕ → State → Type 0) → P one state → ((other : ℕ) → other ≢ one → P other (state_of states other)) → (other : ℕ)
    → P other (state_of (set states one state) other)
by_set states one state within P for_one for_rest other = elim (equal_or_not other one) [
  | inl e ↦ rw (e, get_or-set_same states one state New within) for_one
  | inr apart ↦ rw (get_or-set_other states one other state New apart) (for_rest other apart)
]

-- an item of a list behind which one is put is one of the list, or that one
item_of_more : {X : Type 0} (xs : List X) (y : X) (k : ℕ) (x : X) → slice_get (xs ++ y ∷ []) k ≡ Some x → (slice_get xs k ≡ Some x) ⊎ ((k ≡ length xs) × (y ≡ x))
item_of_more [] y zero x e = inr (refl, cc)
item_of_more [] y (suc k) x e = cc e
item_of_more (z ∷ xs) y zero x e = inl e
item_of_more (z ∷ xs) y (suc k) x e = elim (item_of_more xs y k x e) [ inl h ↦ inl h | inr (last, same) ↦ inr (ap suc last, same) ]

-- what a step of a search comes to that goes on
pub record GoesOn (nodes : List (Vec Part Global)) (root : ℕ) (states : List State) (before : List ℕ) (now : List State) (stack : List ℕ) : Type 0 where
  pub search : IsSearch nodes root now stack
  pub kept : KeepsDone states now
  pub less : steps_left now stack ≤ steps_left states before

module _ {nodes : List (Vec Part Global)} {root : ℕ} {states : List State} (before : List ℕ) (one : ℕ) (search : IsSearch nodes root states (before ++ one ∷ [])) where
  abbrev stack : List ℕ
  stack = before ++ one ∷ []

  stack-long : length stack ≡ length before + 1
  stack-long = omega (arith, length-append before (one ∷ []))

  pub one_in_nodes : one < length nodes
  one_in_nodes = All-head (λ x. x < length nodes) one [] (All-back (λ x. x < length nodes) before (one ∷ []) search.in_nodes)

  pub one_within : one < length states
  one_within = rw search.long one_in_nodes

  -- the parts that are read of it
  pub parts_last : {parts : Vec Part Global} {got : List Part} → got ≡ parts.items → parts ≡ get_or nodes one parts → got ≡ parts_at nodes one
  parts_last {parts} {got} e is = parts_read nodes one parts got e one_in_nodes is

  pub below_last : AreNodesBelow (length nodes) nodes → {parts : Vec Part Global} {got : List Part} → got ≡ parts.items → parts ≡ get_or nodes one parts → AreBelow (length states) got
  below_last below e is = rw (parts_last e is, search.long) (below one)

  -- what is said of a structure stays so where what is done stays done, and what is open stays on the stack
  still : (now : List State) (left : List ℕ) → KeepsDone states now → (x : ℕ) (state : State) → ((next : ℕ) → state ≡ Open next → Contains stack x → Contains left x)
      → IsSaid nodes root states stack x state → IsSaid nodes root now left x state
  still now left kept x New stays said = said
  still now left kept x (Open next) stays (on, done) = (stays next refl on, λ reference target there. let was = done reference target there in (was.0, kept target was.0 was.1))
  still now left kept x (Done summary) stays said = said

  -- the search goes on without the last structure
  without_last : (now : List State) → length now ≡ length nodes → ((x : ℕ) → IsSaid nodes root now before x (state_of now x)) → IsSearch nodes root now before
  without_last now long said = record {
    long = long;
    said = said;
    way = λ i x y at next. search.way i x y (slice_get-front before (one ∷ []) i x at) (slice_get-front before (one ∷ []) (suc i) y next);
    in_nodes = All-front (λ x. x < length nodes) before (one ∷ []) search.in_nodes;
    begins = λ x at. search.begins x (slice_get-front before (one ∷ []) 0 x at);
  }

  -- what is on the stack, and is not the last, is before it
  on_before : (x : ℕ) → x ≢ one → Contains stack x → Contains before x
  on_before x apart there = elim (Contains-push_cases before one x there) [ inl h ↦ h | inr same ↦ absurd (apart (sym same)) ]

  -- it is not open
  pub passed_over : ((next : ℕ) → state_of states one ≡ Open next → ⊥) → GoesOn nodes root states before states before
  passed_over not_open = record {
    search = without_last states search.long
        (λ x. still states before (λ y s d. d) x (state_of states x) (λ next is_open. on_before x (λ e. not_open next (rw e at is_open))) (search.said x));
    kept = λ x s d. d;
    less = omega arith;
  }

  pub open_said : (x next : ℕ) → state_of states x ≡ Open next → Contains stack x × IsDoneBefore states (parts_at nodes x) next
  open_said x next is_open = subst (IsSaid nodes root states stack x) is_open (search.said x)

  -- a reference from the last structure to an open one: chains of every length start at each structure on the stack
  module _ (other next : ℕ) (leads : LeadsTo (parts_at nodes one) other) (is_open : state_of states other ≡ Open next) where
    chains : (n k x : ℕ) → slice_get stack k ≡ Some x → Leads nodes n x
    chains zero k x at = tt
    chains (suc n) k x at = elim (item_of_more before one k x at) [
      | inl front ↦
          let within : k < length before = slice_get_within before k x front in
          let following = some_item stack (suc k) (omega (arith, stack-long)) in (following.0, search.way k x following.0 at following.1, chains n (suc k) following.0 following.1)
      | inr (last, same) ↦
          let there = number_of stack other (open_said other next is_open).0 in (other, subst (λ y. LeadsTo (parts_at nodes y) other) same leads, chains n there.0 other there.1)
    ]

    pub chains_from_root : (n : ℕ) → Leads nodes n root
    chains_from_root n = let first = some_item stack 0 (omega (arith, stack-long)) in subst (Leads nodes n) (search.begins first.0 first.1) (chains n 0 first.0 first.1)

  -- the last structure was open, and is done
  pub done_now : (next : ℕ) → state_of states one ≡ Open next → (summary : Summary) → AreDone states (parts_at nodes one)
      → ((of : ℕ → Weight) → AreWeighed states of (parts_at nodes one) → IsKept (weight_over of (parts_at nodes one)) summary) → GoesOn nodes root states before (set states one (Done summary)) before
  done_now next was_open summary done keeps = record {
    search = without_last (set states one (Done summary)) (length-set states one (Done summary) ∙ search.long)
        (by_set states one (Done summary) one_within (IsSaid nodes root (set states one (Done summary)) before) (weighed_by nodes states (said_true search) one summary done keeps)
        (λ x apart. still (set states one (Done summary)) before kept x (state_of states x) (λ n is_open. on_before x apart) (search.said x)));
    kept = kept;
    less = let changed = sum_by-set steps_of_state states one (Done summary) New one_within in omega arith;
  }
    where
      kept : KeepsDone states (set states one (Done summary))
      kept = by_set states one (Done summary) one_within (λ x state. (s : Summary) → state_of states x ≡ Done s → state ≡ Done s) (λ s d. cc) (λ x apart s d. d)

  -- the last structure, which is open, refers to a new one, on which the search goes on
  module _ (next : ℕ) (was_open : state_of states one ≡ Open next) (other place : ℕ) (new : state_of states other ≡ New) (leads : LeadsTo (parts_at nodes one) other)
      (within : other < length states) (done : IsDoneBefore states (parts_at nodes one) place) where
    abbrev opened : List State
    opened = set states one (Open place)

    abbrev pushed : List State
    pushed = set opened other (Open 0)

    abbrev longer : List ℕ
    longer = stack ++ other ∷ []

    apart : other ≢ one
    apart e = let was : state_of states one ≡ New = rw e at new in let no : ⊥ = cc in no

    other_within : other < length opened
    other_within = omega (arith, length-set states one (Open place))

    -- what the state of a structure is now, by which it is
    by_place : (P : ℕ → State → Type 0) → P other (Open 0) → P one (Open place) → ((x : ℕ) → x ≢ other → x ≢ one → P x (state_of states x)) → (x : ℕ) → P x (state_of pushed x)
    by_place P for_other for_one for_rest =
        by_set opened other (Open 0) other_within P for_other
        (λ x n. by_set states one (Open place) one_within (λ y state. y ≢ other → P y state) (λ m. for_one) (λ y m k. for_rest y k m) x n)

    keeps_done : KeepsDone states pushed
    keeps_done = by_place (λ x state. (s : Summary) → state_of states x ≡ Done s → state ≡ Done s) (λ s d. cc) (λ s d. cc) (λ x n m s d. d)

    way_longer : IsWay nodes longer
    way_longer i x y at next = elim (item_of_more stack other (suc i) y next) [
      | inl before_it ↦ search.way i x y (in_stack (let h : suc i < length stack = slice_get_within stack (suc i) y before_it in omega arith)) before_it
      | inr (last, same) ↦ elim (item_of_more before one i x (in_stack (omega arith))) [
        | inl early ↦ let h : i < length before = slice_get_within before i x early in absurd (omega (arith, stack-long))
        | inr (here, is) ↦ subst (λ z. LeadsTo (parts_at nodes z) y) is (subst (LeadsTo (parts_at nodes one)) same leads)
      ]
    ]
      where
        in_stack : suc i ≤ length stack → slice_get stack i ≡ Some x
        in_stack h = elim (item_of_more stack other i x at) [ inl there ↦ there | inr (last, same) ↦ absurd (omega arith) ]

    pub goes_on : GoesOn nodes root states before pushed longer
    goes_on = record {
      search = record {
        long = length-set opened other (Open 0) ∙ length-set states one (Open place) ∙ search.long;
        said = by_place (IsSaid nodes root pushed longer)
            (Contains-push stack other, λ reference target there. absurd (Contains-none there))
            (Contains-append_left stack (other ∷ []) one (Contains-push before one), λ reference target there. let was = done reference target there in (was.0, keeps_done target was.0 was.1))
            (λ x n m. still pushed longer keeps_done x (state_of states x) (λ k e. Contains-append_left stack (other ∷ []) x) (search.said x));
        way = way_longer;
        in_nodes = All-append (λ x. x < length nodes) stack (other ∷ []) search.in_nodes
            (All-cons (λ x. x < length nodes) other [] (omega (arith, search.long)) (All-nil (λ x. x < length nodes)));
        begins = λ x at. elim (item_of_more stack other 0 x at) [ inl first ↦ search.begins x first | inr (none, same) ↦ absurd (omega (arith, stack-long)) ];
      };
      kept = keeps_done;
      less =
          let first = sum_by-set steps_of_state states one (Open place) New one_within in
          let second = sum_by-set steps_of_state opened other (Open 0) New other_within in
          let two : steps_of_state (state_of opened other) ≡ 2 = ap steps_of_state (get_or-set_other states one other (Open place) New apart ∙ new) in
          omega (arith, stack-long, length-append stack (other ∷ []));
    }

-- a search begins at a new structure
module _ {nodes : List (Vec Part Global)} {root : ℕ} {states : List State} (settled : AreSettled nodes states) (long : length states ≡ length nodes) (within : root < length nodes)
    (new : state_of states root ≡ New) where
  abbrev begun : List State
  begun = set states root (Open 0)

  by_root : (P : ℕ → State → Type 0) → P root (Open 0) → ((x : ℕ) → x ≢ root → P x (state_of states x)) → (x : ℕ) → P x (state_of begun x)
  by_root = by_set states root (Open 0) (omega (arith, long))

  pub begins_keeping : KeepsDone states begun
  begins_keeping = by_root (λ x state. (s : Summary) → state_of states x ≡ Done s → state ≡ Done s) (λ s d. cc) (λ x n s d. d)

  pub begins_search : IsSearch nodes root begun (root ∷ [])
  begins_search = record {
    long = length-set states root (Open 0) ∙ long;
    said = by_root (IsSaid nodes root begun (root ∷ [])) (Contains-head root [], λ reference target there. absurd (Contains-none there)) (λ x apart. as_settled x apart (state_of states x) refl);
    way = λ i x y at next. cc next;
    in_nodes = All-cons (λ x. x < length nodes) root [] within (All-nil (λ x. x < length nodes));
    begins = λ x at. cc;
  }
    where
      as_settled : (x : ℕ) → x ≢ root → (state : State) → state_of states x ≡ state → IsSaid nodes root begun (root ∷ []) x state
      as_settled x apart New e = apart
      as_settled x apart (Open next) e = absurd (settled.none_open x next e)
      as_settled x apart (Done summary) e = settled.are_true x summary e

-- a search that has come to its end
module _ {nodes : List (Vec Part Global)} {root : ℕ} {states : List State} {stack : List ℕ} (search : IsSearch nodes root states stack) (empty : length stack ≡ 0) where
  pub ends_settled : AreSettled nodes states
  ends_settled = record {
    are_true = said_true search;
    none_open = λ x next is_open. let said = subst (IsSaid nodes root states stack x) is_open (search.said x) in let h = said.0.1 in omega arith;
  }

  pub ends_done : (summary : Summary) × (state_of states root ≡ Done summary)
  ends_done = by_state (state_of states root) refl
    where
      by_state : (state : State) → state_of states root ≡ state → (summary : Summary) × (state_of states root ≡ Done summary)
      by_state New e = absurd (subst (IsSaid nodes root states stack root) e (search.said root) refl)
      by_state (Open next) e = absurd (ends_settled.none_open root next e)
      by_state (Done summary) e = (summary, e)
