-- How a reader goes on record by record, and where it stops.
use Rattle.std.proofs.Common.{◌≡◌, ◌≢◌, ℕ, ◌+◌, ◌-◌, ◌<◌, ◌≤◌, List, [], ◌∷◌, ◌++◌, length, refl, sym, ap, subst, ◌∙◌, arith, Bool, true, false, Some, None, Result, Ok, Err, IsTrue, append_assoc, if◌then◌else◌, ◌==◌}
use Rattle.std.specs.Prelude.{IsErrAnd}
use Rattle.first_refusal.specs.Answers.{Answers, gives, refuses, no_memory}
use Rattle.first_refusal.specs.Outcomes.{Outcome, value, refused}
use Rattle.first_refusal.proofs.AnswerLaws.{handed_on, out_of_memory}
use Rattle.lists.proofs.Words.{append-nil, ne_eqb, add-zero}
use Rattle.gds_records.specs.declared.kinds.TheConstants as kind
use Rattle.library_grammar.specs.GrammarNames.{Reading, IsLeft, IsGivenOrLeft, MovesPast, entry_of, Entry, spelling, spellings, End, IsFirstFault, at_record, at_end, AreNamesIn, Shows, behind, Place, next_place, IsPlain}
use Rattle.gds_records.specs.declared.fault.RecordFault.{RecordFault}
use Rattle.gds_records.specs.declared.record.Record.{Record}
use Rattle.library_grammar.specs.FirstFault.{may_not_stand as shows_unexpected}
use Rattle.gds_syntax.specs.inside.LibraryReaders.{Takes, TakesRecord, Standing, standing, IsAt, IsFirstBehind, Advances, Stops, IsReady}
use Rattle.gds_syntax.specs.StreamLimits.{most_bytes}
use Rattle.library_grammar.specs.declared.fault.SyntaxFault.{SyntaxFault}
use Rattle.library_grammar.specs.declared.fault.SyntaxFault.TheVariants.{Record as record_fault, Unexpected, Memory}
use Rattle.library_grammar.proofs.laws.Places.{may_not_stand}
use Rattle.library_grammar.proofs.laws.NextRecords.{behind-append, NoneShows-snoc, AreNamesIn-snoc, place_after, plain_shows_nothing}

-- a reader that moved past a record took it
pub takes_one : (old new : Reading) (r : Record) → MovesPast old new r
    → ((entries : List Entry) (end : End) → IsLeft old entries end → IsGivenOrLeft (Ok (Some r)) new entries end) → Takes old new (entry_of r ∷ [])
takes_one old new r moved split =
    record {
      left = split;
      offset = moved.moves ∙ ap (λ (n : ℕ). old.at + n) (ap length (sym (append-nil (spelling (entry_of r)))));
      bytes = moved.bytes;
    }

-- what was read, where a reader gave something
pub read : {T : Type 0} {Stage : Outcome T SyntaxFault → Type 0} {thing : T} → Answers Memory Stage (Ok thing) → Stage (value thing)
read (gives is) = is

-- a reader stops where one that it called does; want of memory stays what it is
pub passed_on : {T U : Type 0} {Stage : Outcome T SyntaxFault → Type 0} {Whole : Outcome U SyntaxFault → Type 0} {fault : SyntaxFault} (result : Result U SyntaxFault)
    → IsErrAnd result (λ same. same ≡ fault) → Answers Memory Stage (Err fault) → (Stage (refused fault) → Whole (refused fault)) → Answers Memory Whole result
passed_on {Whole = Whole} {fault = fault} result gave (refuses stop) onward = handed_on Memory Whole result fault gave (refuses (onward stop))
passed_on {Whole = Whole} result gave no_memory onward = out_of_memory Memory Whole result gave

-- what is not true is false
pub is_false : (b : Bool) → (IsTrue b → ⊥) → b ≡ false
is_false true it_is_not = absurd (it_is_not refl)
is_false false it_is_not = refl

-- a reader that moved past a record can read on unless the record is ENDLIB
pub goes_on : (old new : Reading) (r : Record) → MovesPast old new r → IsReady old → r.kind ≢ kind.ENDLIB → IsReady new
goes_on old new r moved ready other =
    record {
      runs = is_false new.ended (λ is_true. other (moved.ends.0 is_true));
      within = moved.within;
      short = subst (λ (bytes : List ℕ). length bytes ≤ most_bytes) (sym moved.bytes) ready.short;
    }

-- a fault of the bytes is the first of the stream where no record shows one
pub stops_at_end : (old new : Reading) (from : Standing) (why : RecordFault)
    → ((entries : List Entry) (end : End) → IsLeft old entries end → IsGivenOrLeft (Err why) new entries end) → Stops old from (record_fault why)
stops_at_end old new from why split before here entries end left =
    let (none, stopped) = split entries end left in
    rw (none, stopped, append-nil before) (at_end here.none_shows)

-- what one reader took and then another
pub Takes-append : {old mid new : Reading} {one other : List Entry} → Takes old mid one → Takes mid new other → Takes old new (one ++ other)
Takes-append {old = old} {one = one} {other = other} first second =
    record {
      left = λ entries end left.
          let (others, parts, mid_left) = first.left entries end left in
          let (rest, more_parts, new_left) = second.left others end mid_left in
          (rest, parts ∙ ap (λ (x : List Entry). one ++ x) more_parts ∙ sym (append_assoc one other rest), new_left);
      offset = second.offset ∙ ap (λ (at : ℕ). behind at other) first.offset ∙ sym (behind-append old.at one other);
      bytes = second.bytes ∙ first.bytes;
    }

pub Advances-append : {old mid new : Reading} {from via to : Standing} {one other : List Entry} → Advances old mid from via one
    → Advances mid new via to other → Advances old new from to (one ++ other)
Advances-append {new = new} {to = to} {one = one} {other = other} first second =
    record {
      takes = Takes-append first.takes second.takes;
      stands = λ before here. subst (λ (x : List Entry). IsAt new x to) (append_assoc before one other) (second.stands (before ++ one) (first.stands before here));
    }

-- a fault that is found further on, behind records with which the reader stands there
pub stops_there : {old mid : Reading} {from via : Standing} {taken before : List Entry} {fault : SyntaxFault} → Advances old mid from via taken → IsAt old before from
    → (IsAt mid (before ++ taken) via → IsFirstBehind (before ++ taken) mid fault) → IsFirstBehind before old fault
stops_there {taken = taken} {before = before} {fault = fault} first here second entries end left =
    let (others, parts, mid_left) = first.takes.left entries end left in
    rw parts (subst (λ (x : List Entry). IsFirstFault x end fault) (append_assoc before taken others) (second (first.stands before here) others end mid_left))

-- and behind any
pub stops_later : {old mid : Reading} {from via : Standing} {taken : List Entry} {fault : SyntaxFault} → Advances old mid from via taken
    → Stops mid via fault → Stops old from fault
stops_later {taken = taken} first second before here = stops_there first here (second (before ++ taken))

-- a fault that the next record shows
pub stops_showing : {old new : Reading} {from : Standing} {before : List Entry} {r : Record} {fault : SyntaxFault} → TakesRecord old new r → IsAt old before from
    → Shows before (entry_of r) fault → IsFirstBehind before old fault
stops_showing {before = before} {r = r} taken here shown entries end left =
    let (others, parts, _) = taken.takes.left entries end left in
    at_record before others (entry_of r) (ap (λ (x : List Entry). before ++ x) parts) here.none_shows shown

-- a record that may not stand there
pub stops_unexpected : {old new : Reading} (from : Standing) {r : Record} → TakesRecord old new r → next_place from.place r.kind ≡ None
    → Stops old from (Unexpected r.at r.kind)
stops_unexpected from {r = r} taken none before here =
    rw (taken.place ∙ here.offset) (stops_showing taken here (shows_unexpected (may_not_stand before (entry_of r) from.place here.place none)))

-- a reader stands behind one record more, which shows no fault
pub IsAt-snoc : {old new : Reading} {r : Record} (from to : Standing) (before : List Entry) → TakesRecord old new r → next_place from.place r.kind ≡ Some to.place
    → IsAt old before from → ((fault : SyntaxFault) → Shows before (entry_of r) fault → ⊥) → AreNamesIn (before ++ entry_of r ∷ []) to.names
    → IsAt new (before ++ entry_of r ∷ []) to
IsAt-snoc {r = r} from to before taken next here quiet names =
    record {
      place = place_after before (entry_of r) from.place to.place here.place next;
      none_shows = NoneShows-snoc before (entry_of r) here.none_shows quiet;
      offset = taken.takes.offset ∙ ap (λ (at : ℕ). behind at (entry_of r ∷ [])) here.offset ∙ sym (behind-append 0 before (entry_of r ∷ []));
      names = names;
    }

-- a reader goes on by one record that shows no fault
pub advances_by : {old new : Reading} {r : Record} (from : Standing) (to : Place) → TakesRecord old new r → next_place from.place r.kind ≡ Some to
    → r.kind ≢ kind.STRNAME → ((before : List Entry) → IsAt old before from → (fault : SyntaxFault) → Shows before (entry_of r) fault → ⊥)
    → Advances old new from (standing to from.names) (entry_of r ∷ [])
advances_by {r = r} from to taken next names_nothing quiet =
    record {
      takes = taken.takes;
      stands = λ before here. IsAt-snoc from (standing to from.names) before taken next here (quiet before here) (AreNamesIn-snoc before (entry_of r) from.names names_nothing here.names);
    }

-- so does it by a plain one that may stand there
pub advances_plain : {old new : Reading} {r : Record} (from : Standing) (to : Place) → TakesRecord old new r → next_place from.place r.kind ≡ Some to
    → IsPlain r.kind → Advances old new from (standing to from.names) (entry_of r ∷ [])
advances_plain {r = r} from to taken next plain =
    advances_by from to taken next plain.names_nothing (λ before here fault shown. plain_shows_nothing before (entry_of r) from.place to fault here.place next plain shown)

-- nothing was taken yet
nothing_taken : (reading : Reading) → Takes reading reading []
nothing_taken reading = record { left = λ entries end left. (entries, refl, left); offset = sym (add-zero reading.at); bytes = refl }

pub Advances-none : (reading : Reading) (from : Standing) → Advances reading reading from from []
Advances-none reading from =
    record {
      takes = nothing_taken reading;
      stands = λ before here. rw (append-nil before) here;
    }

-- a reader goes on by one plain record of a kind that may stand there
pub advances_kind : {old new : Reading} {r : Record} (k : ℕ) (p q : Place) (names : List (List ℕ)) → TakesRecord old new r → r.kind ≡ k
    → next_place p k ≡ Some q → IsPlain k → Advances old new (standing p names) (standing q names) (entry_of r ∷ [])
advances_kind k p q names taken same next plain =
    advances_plain (standing p names) q taken (ap (next_place p) same ∙ next) (subst IsPlain (sym same) plain)

-- where a place goes on by one kind alone, no other may follow
pub only_one : (k : ℕ) (q : Place) (other : ℕ) → other ≢ k → (if other == k then Some q else None) ≡ None
only_one k q other differs = rw (ne_eqb other k differs) refl

-- a reader that takes one record more has less to read
pub has_less_left : {old mid : Reading} (new : Reading) {taken : List Entry} {r : Record} → Takes old mid taken → TakesRecord mid new r
    → length new.bytes - new.at < length old.bytes - old.at
has_less_left {old = old} {mid = mid} new {taken = taken} first takes =
    less_left old.at mid.at new.at (length (spellings taken)) (length old.bytes) (length new.bytes) first.offset takes.further (ap length (takes.bytes ∙ first.bytes)) takes.within
  where
    less_left : (a b c n m k : ℕ) → b ≡ a + n → b < c → k ≡ m → c ≤ k → k - c < m - a
    less_left a b c n m k on further count within = omega arith

-- also where it took none before
pub one_less_left : {old new : Reading} {r : Record} → TakesRecord old new r → length new.bytes - new.at < length old.bytes - old.at
one_less_left {old = old} {new = new} takes = has_less_left new (nothing_taken old) takes
