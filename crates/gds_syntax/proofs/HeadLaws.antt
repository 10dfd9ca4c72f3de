-- How a reader goes through the head of a library.
use Rattle.std.proofs.Common.{◌≡◌, ◌≢◌, ℕ, List, [], ◌∷◌, ◌++◌, refl, sym, subst, ◌∙◌, length, Some, None, arith, Contains, append_assoc}
use Rattle.lists.proofs.Words.{All-push, ne_eqb, eq-eqb, All-nil, All-take, take_at}
use Rattle.library_grammar.specs.GrammarNames.{IsText, Reading, entry_of, AreBytes, IsByte, Place, before_header, before_bgnlib, before_name, before_units, between_structures, has_kind, next_place, head_kinds}
use Rattle.gds_records.specs.declared.kinds.TheConstants as kind
use Rattle.gds_records.specs.declared.record.Record.{Record}
use Rattle.gds_syntax.specs.inside.LibraryReaders.{TakesRecord, Standing, standing, Advances, Stops, IsHeadPlace, ReadsHeadSoFar, ReadsHeadRecords, ReadsHead}
use Rattle.library_grammar.specs.declared.fault.SyntaxFault.TheVariants.{Unexpected}
use Rattle.library_grammar.proofs.laws.Forms.{contains_kind, has_contained, plain, head_is_plain}
use Rattle.gds_syntax.proofs.ReaderLaws.{is_false, Advances-none, Advances-append, advances_plain, advances_kind, stops_later, stops_unexpected}

-- the first record behind the beginning
pub head_begins : (last : ℕ) (old new : Reading) (r : Record) → TakesRecord old new r → ReadsHeadSoFar last old new r
head_begins last old new r takes =
    record { between = old; front = []; are_head = All-nil (λ e. Contains head_kinds e.kind); advances = λ from to place. Advances-none old from; takes = takes }

-- the reader goes on by a record of the head
pub head_further : {last : ℕ} {old mid : Reading} {found : Record} → found.kind ≢ last → Contains head_kinds found.kind
    → (so_far : ReadsHeadSoFar last old mid found) → (from : Standing) (to : Place) → IsHeadPlace from.place last to
    → Advances old mid from from (so_far.front ++ entry_of found ∷ [])
head_further {last = last} {found = found} other has so_far from to place =
    let stays : next_place from.place found.kind ≡ Some from.place = place found.kind ∙ rw (ne_eqb found.kind last other, has_contained head_kinds found.kind has) refl in
    Advances-append (so_far.advances from to place) (advances_plain from from.place so_far.takes stays (head_is_plain found.kind has))

-- one record of the head more
pub head_goes_on : {last : ℕ} {old mid new : Reading} {found next : Record} → found.kind ≢ last → Contains head_kinds found.kind
    → ReadsHeadSoFar last old mid found → TakesRecord mid new next → ReadsHeadSoFar last old new next
head_goes_on {mid = mid} {found = found} other has so_far takes =
    record {
      between = mid;
      front = so_far.front ++ entry_of found ∷ [];
      are_head = All-push (λ e. Contains head_kinds e.kind) so_far.front (entry_of found) so_far.are_head has;
      advances = head_further other has so_far;
      takes = takes;
    }

-- a record that is none of the head and not the next part's
pub head_stops : {last : ℕ} {old new : Reading} {found : Record} (from : Standing) (to : Place) → IsHeadPlace from.place last to → found.kind ≢ last
    → (Contains head_kinds found.kind → ⊥) → ReadsHeadSoFar last old new found → Stops old from (Unexpected found.at found.kind)
head_stops {last = last} {found = found} from to place other lacks so_far =
    let none : next_place from.place found.kind ≡ None =
    place found.kind ∙ rw (ne_eqb found.kind last other, is_false (has_kind head_kinds found.kind) (λ has. lacks (contains_kind head_kinds found.kind has))) refl in
    stops_later (so_far.advances from to place) (stops_unexpected from so_far.takes none)

-- the next part's record
pub head_ends : {last : ℕ} {old new : Reading} {found : Record} → found.kind ≡ last → ReadsHeadSoFar last old new found → ReadsHeadRecords last old new found
head_ends {last = last} {found = found} same so_far =
    record {
      of_kind = same;
      front = so_far.front;
      are_head = so_far.are_head;
      in_profile = so_far.takes.in_profile;
      advances = λ from to place plain.
          let leads : next_place from.place found.kind ≡ Some to = place found.kind ∙ rw (eq-eqb found.kind last same) refl in
          Advances-append (so_far.advances from to place) (advances_plain from to so_far.takes leads (rw same plain));
      ready = λ other. so_far.takes.ready (λ is. other (sym same ∙ is));
    }

-- the first two records of a library
pub begins : {old mid new : Reading} {version dates : Record} → TakesRecord old mid version → version.kind ≡ kind.HEADER → TakesRecord mid new dates
    → dates.kind ≡ kind.BGNLIB → Advances old new (standing before_header []) (standing before_name []) (entry_of version ∷ entry_of dates ∷ [])
begins first of_header second of_bgnlib =
    Advances-append (advances_kind kind.HEADER before_header before_bgnlib [] first of_header refl (plain kind.HEADER refl))
    (advances_kind kind.BGNLIB before_bgnlib before_name [] second of_bgnlib refl (plain kind.BGNLIB refl))

-- the records up to the name
pub names : {old mid new : Reading} (version dates : Record) {name : Record} → Advances old mid (standing before_header []) (standing before_name []) (entry_of version ∷ entry_of dates ∷ [])
    → (reads : ReadsHeadRecords kind.LIBNAME mid new name)
    → Advances old new (standing before_header []) (standing before_units []) (entry_of version ∷ entry_of dates ∷ reads.front ++ entry_of name ∷ [])
names version dates first reads =
    Advances-append
    first (reads.advances (standing before_name []) before_units (λ k. refl) (plain kind.LIBNAME refl))

-- the head of a library
pub reads_head : {old via mid new : Reading} (version dates : Record) {name units : Record} (text : List ℕ)
    → version.kind ≡ kind.HEADER → dates.kind ≡ kind.BGNLIB
    → Advances old via (standing before_header []) (standing before_name []) (entry_of version ∷ entry_of dates ∷ [])
    → ReadsHeadRecords kind.LIBNAME via mid name → IsText name.body.now text → ReadsHeadRecords kind.UNITS mid new units → ReadsHead old new text units.body.now
reads_head version dates {name = name} {units = units} text of_header of_bgnlib first named is_text rest =
    let to_units = rest.advances (standing before_units []) between_structures (λ k. refl) (plain kind.UNITS refl) in
    let all = Advances-append (names version dates first named) to_units in
    record {
      entries = (entry_of version ∷ entry_of dates ∷ named.front ++ entry_of name ∷ []) ++ (rest.front ++ entry_of units ∷ []);
      is_head = record {
        version = entry_of version;
        is_version = of_header;
        opening = entry_of dates;
        opens = of_bgnlib;
        before_name = named.front;
        are_before_name = named.are_head;
        name = entry_of name;
        names = named.of_kind;
        before_units = rest.front;
        are_before_units = rest.are_head;
        units = entry_of units;
        are_units = rest.of_kind;
        are_its = simp append_assoc refl;
        has_name = is_text;
        has_units = refl;
      };
      advances = all;
      ready = rest.ready (omega arith);
    }

-- a text is of bytes, as the body that it stands in is
pub text_fits : (body text : List ℕ) → AreBytes body → IsText body text → AreBytes text
text_fits body text fits is = rw (sym (take_at text is.zeros (length text) refl)) (All-take IsByte (length text) (text ++ is.zeros) (subst AreBytes is.parts fits))
