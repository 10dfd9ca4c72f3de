-- numbers of cells, question by question and tile by tile
use Rattle.std.proofs.Common.{ℕ, IfOk, Result, Ok, Err, Vec, zero, suc, ◌+◌, ◌<◌, ◌≤◌, ◌≡◌, ◌^◌, sym, ap, ◌∙◌, subst, List, [], ◌∷◌, ◌++◌, length, get_or, arith, All, Option, Some, None, slice_get, inl, inr, replicate}
use Rattle.lists.proofs.Words.{Global, cases_lt, get_or_append_left, get_or_push, length-replicate, slice_get_within}
use Rattle.std.proofs.lemmas.List.{get_or-replicate}
use Rattle.lists.proofs.Containing.{some_item}
use Rattle.lists.specs.declared.memory.NoMemory.{NoMemory}
use Rattle.geo_core.specs.declared.plane.Cell.{Cell}
use Rattle.geo_core.specs.declared.plane.Rect.{Rect}
use Rattle.fault_model.specs.FaultNames.{Tally, cells_of, cells_of_window, none}
use Rattle.fault_model.proofs.TallyLaws.{Tally-le-length}
use Rattle.questions.specs.declared.question.Question.{Question}
use Rattle.tile_board.specs.Closing.{sum_below}
use Rattle.tile_board.specs.declared.views.Limits.{Limits}
use Rattle.tile_plan.specs.TileTallies.{IsTallyOfFirst, IsTallyOfTile}
use Rattle.tile_plan.specs.Tiles.{IsGreatestTile, IsTile, tile_count}
use Rattle.tile_plan.proofs.laws.TallyingLaws.{all_tiles, next_tile, no_tile}
use Rattle.tile_work.specs.Crediting.{IsMadeFor, IsSumOfAmounts}
use Rattle.union_area.proofs.laws.PartLaws.{few_tallied}
use Rattle.area_parts.specs.AskedCounts.{AreCounted, IsCounted}
use Rattle.area_parts.specs.declared.parts.Parts.{Parts}
use Rattle.critical_areas.specs.inside.Work.{IsAmountOfTile, Work}
use Rattle.critical_areas.proofs.ZippedLaws.{zipped_all, zipped_by}

-- ---- the amounts of a tile

module _ (work : Work) (k : ℕ) where
  -- the numbers of the first so many questions are those of the tile
  abbrev pub AreOfTile : ℕ → List ℕ → Type 0
  AreOfTile count ns = (slot : ℕ) → slot < count → IsAmountOfTile work k slot (get_or ns slot 0)

  -- one question more
  pub one_of_tile : (i : ℕ) (question : Question) (ns : List ℕ) (n : ℕ) (tile : Rect) → length ns ≡ i → slice_get work.questions i ≡ Some question → IsTile work.plan k tile
      → Tally (IsCounted work.parts question) (cells_of tile) n → AreOfTile i ns → AreOfTile (i + 1) (ns ++ n ∷ [])
  one_of_tile i question ns n tile long at is_tile counted before slot below = elim (cases_lt slot i) [
    | inl first ↦ subst (IsAmountOfTile work k slot) (sym (get_or_append_left ns (n ∷ []) 0 slot (omega (arith, long)))) (before slot first)
    | inr last ↦
        let here : slot ≡ i = omega arith in
        λ other found.
        let same : question ≡ other = cc (at, found, ap (slice_get work.questions) here) in
        subst (IsTallyOfTile (IsCounted work.parts other) work.plan k) (sym (get_or_push ns n 0 slot (long ∙ sym here)))
        (subst (λ q. IsTallyOfTile (IsCounted work.parts q) work.plan k n) same (record { tile = tile; is_tile = is_tile; tally = counted }))
  ]

-- an amount of a tile is no more than the cells that a tile may have
amount_fits : (work : Work) (cap : ℕ) → IsGreatestTile work.plan cap → (k slot n : ℕ) → k < tile_count work.plan → slot < length work.questions → IsAmountOfTile work k slot n → n ≤ cap
amount_fits work cap greatest k slot n less small amount =
    let found = some_item work.questions slot small in
    let t = amount found.0 found.1 in
    let few = Tally-le-length (cells_of t.tile) n t.tally in
    let most = greatest.most k t.tile less t.is_tile in
    omega (arith, few, most)

-- a board with a ticket for each tile and a slot for each question is made for the tiles
pub made_for_tiles : (work : Work) (limits made : Limits) → limits ≡ made → made.tickets ≡ tile_count work.plan → made.slots ≡ length work.questions → IsGreatestTile work.plan made.cap
    → IsMadeFor limits (tile_count work.plan) (length work.questions) (IsAmountOfTile work)
made_for_tiles work limits made is tickets slots greatest = record {
  tickets_are = ap (λ (l : Limits). l.tickets) is ∙ tickets;
  slots_are = ap (λ (l : Limits). l.slots) is ∙ slots;
  fits = λ ticket slot n less small amount. subst (λ (l : Limits). n ≤ l.cap) (sym is) (amount_fits work made.cap greatest ticket slot n less small amount);
}

-- ---- the sums of all tiles

module _ (work : Work) where
  first_tiles : (question : Question) (slot : ℕ) → slice_get work.questions slot ≡ Some question → (amount : ℕ → ℕ)
      → ((k : ℕ) → k < tile_count work.plan → IsAmountOfTile work k slot (amount k)) → (k : ℕ) → k ≤ tile_count work.plan
      → IsTallyOfFirst (IsCounted work.parts question) work.plan k (sum_below k amount)
  first_tiles question slot at amount are zero less = no_tile {P = IsCounted work.parts question} work.plan
  first_tiles question slot at amount are (suc k) less =
      let t = are k (omega arith) question at in
      let next : k + 1 ≡ suc k = omega arith in
      subst (λ j. IsTallyOfFirst (IsCounted work.parts question) work.plan j (sum_below k amount + amount k)) next
      (next_tile {P = IsCounted work.parts question} work.plan k (sum_below k amount) (amount k) t.tile (omega arith) t.is_tile (first_tiles question slot at amount are k (omega arith)) t.tally)

  abbrev AreSums : List ℕ → Type 0
  AreSums sums = (slot : ℕ) → slot < length work.questions → IsSumOfAmounts (tile_count work.plan) (IsAmountOfTile work) slot (get_or sums slot 0)

  -- are what is counted over the window
  sums_are_counted : (sums : List ℕ) → length sums ≡ length work.questions → AreSums sums → AreCounted work.parts (cells_of work.plan.window) work.questions sums
  sums_are_counted sums long are = zipped_by (λ q. Tally (IsCounted work.parts q) (cells_of work.plan.window)) work.questions sums long each where
    each : (slot : ℕ) (question : Question) → slice_get work.questions slot ≡ Some question → Tally (IsCounted work.parts question) (cells_of work.plan.window) (get_or sums slot 0)
    each slot question at =
        let s = are slot (slice_get_within work.questions slot question at) in
        subst (Tally (IsCounted work.parts question) (cells_of work.plan.window)) (sym s.is_sum)
        (all_tiles {P = IsCounted work.parts question} work.plan (sum_below (tile_count work.plan) s.amount)
        (first_tiles question slot at s.amount (λ k less. s.are_amounts k less) (tile_count work.plan) (omega arith)))

  -- and so where they were found
  pub found_counted : (window : Option Rect) → cells_of work.plan.window ≡ cells_of_window window → (found : Result (Vec ℕ Global) NoMemory)
      → IfOk found (λ sums. length sums.items ≡ length work.questions) → IfOk found (λ sums. AreSums sums.items)
      → IfOk found (λ sums. AreCounted work.parts (cells_of_window window) work.questions sums.items)
  found_counted window over (Ok sums) long are = subst (λ cells. AreCounted work.parts cells work.questions sums.items) over (sums_are_counted sums.items long are)
  found_counted window over (Err no_memory) long are = tt

-- ---- any window, or none

few_in_window : {P : Cell → Type 0} (window : Option Rect) (n : ℕ) → Tally P (cells_of_window window) n → n < 2 ^ 63
few_in_window None n t = let least : n ≤ 0 = Tally-le-length [] n t in omega arith
few_in_window (Some window) n t = few_tallied window n t

module _ (parts : Parts) (questions : List Question) where
  -- no number is great
  pub counted_small : (window : Option Rect) (ns : List ℕ) → AreCounted parts (cells_of_window window) questions ns → All (λ n. n < 2 ^ 63) ns
  counted_small window = zipped_all (λ q. Tally (IsCounted parts q) (cells_of_window window)) (λ n. n < 2 ^ 63) (λ q n t. few_in_window window n t) questions

  -- where nothing is asked there is no number
  pub nothing_asked : (cells : List Cell) → length questions ≡ 0 → AreCounted parts cells questions []
  nothing_asked cells empty =
      zipped_by (λ q. Tally (IsCounted parts q) cells) questions [] (sym empty) (λ slot q at. let less = slice_get_within questions slot q at in absurd (omega arith))

  -- over no cells all numbers are 0
  pub none_counted : AreCounted parts [] questions (replicate (length questions) 0)
  none_counted = zipped_by (λ q. Tally (IsCounted parts q) []) questions (replicate (length questions) 0) (length-replicate (length questions) 0)
      (λ slot q at. subst (Tally (IsCounted parts q) []) (sym (get_or-replicate (length questions) slot 0 0 (slice_get_within questions slot q at))) none)
