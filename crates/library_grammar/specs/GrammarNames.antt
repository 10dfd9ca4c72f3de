-- Names of records, of the grammar and of what a library says that are cited together, passed on from one place.
pub use Rattle.first_refusal.specs.Answers.{gives, no_memory, refuses}
pub use Rattle.first_refusal.specs.Checks.{Checks, IsRefusalOfFirst, all_hold, one_fails}
pub use Rattle.first_refusal.specs.Laws.{CannotLack, IsUnique}
pub use Rattle.first_refusal.specs.Outcomes.{refused, value}
pub use Rattle.gds_records.specs.Fields.{HasItem, IsText, item}
pub use Rattle.gds_records.specs.Profile.{IsInProfile}
pub use Rattle.gds_records.specs.Reading.{IsGivenOrLeft, IsLeft, MovesPast, Reading, entry_of, start_of}
pub use Rattle.gds_records.specs.Reals.{HasValue}
pub use Rattle.gds_records.specs.RecordSpelling.{Entry, IsEndlib, IsNoEndlib, spelling, spellings}
pub use Rattle.gds_records.specs.Split.{End, EndsWithEndlib, Splits, stops, whole}
pub use Rattle.gds_records.specs.Table.{IsPermitted, TakesSize, rule_at}
pub use Rattle.geo_core.specs.Plane.{IsClosed, IsOutline}
pub use Rattle.library_grammar.specs.ElementChecks.{ElementCheck, ElementHolds, IsElementFault, IsFaultOfFirst, Judges}
pub use Rattle.library_grammar.specs.ElementChecks.{angle_is_not_absolute, array_checks, checks_of_sort, element_checks, element_fault, has}
pub use Rattle.library_grammar.specs.ElementChecks.{has_columns_and_rows, has_right_count, has_whole_steps, is_closed, is_not_magnified}
pub use Rattle.library_grammar.specs.ElementChecks.{reference_checks, turns_by_quarters}
pub use Rattle.library_grammar.specs.ElementForms.{ElementForm, IsCount, Opens, aref_form, array, boundary_form, box_form, element_forms}
pub use Rattle.library_grammar.specs.ElementForms.{node_form, outline, own_kinds, path_form, sref_form, text_form}
pub use Rattle.library_grammar.specs.Elements.{IsKept, IsLattice, IsReference, IsShape, IsTurn, aref, boundary, box, node, path, path_kind}
pub use Rattle.library_grammar.specs.Elements.{sref, text}
pub use Rattle.library_grammar.specs.FirstFault.{AreNamesIn, BytesComeTo, EndsOwnRecords, IsFirstFault, IsNameIn, NoneShows, Shows}
pub use Rattle.library_grammar.specs.FirstFault.{are_library, at_end, at_record, have_fault, is_faulty, may_not_stand, repeats}
pub use Rattle.library_grammar.specs.Grammar.{ElementParts, IsElement, IsInGrammar, IsInShape, IsOfKind, IsProperty, IsStructure}
pub use Rattle.library_grammar.specs.Grammar.{LibraryParts, MayStand, Property, StructureParts, element_records, head_kinds, kinds_of}
pub use Rattle.library_grammar.specs.Grammar.{library_head, library_records, property_records, structure_head, structure_records}
pub use Rattle.library_grammar.specs.Libraries.{IsLibrary, SayElements, SayStructures, SaysLibrary, SaysStructure, behind}
pub use Rattle.library_grammar.specs.OwnRecords.{HasAbsoluteAngle, HasQuarters, HasSteps, Leads, body_of, columns_of, field, long_of}
pub use Rattle.library_grammar.specs.OwnRecords.{point_in, points_in, points_of, rows_of, short_of, unsigned_of}
pub use Rattle.library_grammar.specs.Places.{IsPlain, Place, among_own, before_bgnlib, before_header, before_name, before_strname}
pub use Rattle.library_grammar.specs.Places.{before_units, behind_attribute, behind_endlib, behind_property, behind_strname}
pub use Rattle.library_grammar.specs.Places.{between_elements, between_structures, form_of, has_kind, into_element, next_place}
pub use Rattle.library_grammar.specs.Places.{out_of_element, place_behind}
pub use Rattle.library_grammar.specs.Sizes.{BodiesHave}
pub use Rattle.library_model.specs.Names.{names_of}
pub use Rattle.library_model.specs.Points.{AreWellPointed, HasItsPoints, IsWellPointed}
pub use Rattle.library_model.specs.Ranges.{ArePoints, IsKind, IsPoint, IsStep}
pub use Rattle.lists.specs.ByteLists.{AreBytes, IsByte}
pub use Rattle.lists.specs.Differing.{AreDifferent}
