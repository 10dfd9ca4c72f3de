-- The words and lemmas of the standard library that proofs cite, passed on from one place. Declares nothing.
pub use Rattle.std.proofs.Math.Bool.{or-true}
pub use Rattle.std.proofs.Math.IntN.{pos-*ℤ-negsuc}
pub use Rattle.std.proofs.Math.Nat.{add-zero, le-mul_of_pos_right}
pub use Rattle.std.proofs.Math.Seq.{drop-cons, get_or-append_seam}
pub use Rattle.std.proofs.Props.{props}
pub use Rattle.std.proofs.lemmas.Bool.{cases_lt, le-leb, lt-leb, and_parts, and_right, cases_Bool, cond_both, ltb-true, eqb-true, eq-eqb, eqb-false, ne_eqb, iff_false, false≢true}
pub use Rattle.std.proofs.lemmas.Bool.Decides.{eqb_tells, leb_tells, Decides-eqb, Decides-int_eq, nat_tests}
pub use Rattle.std.proofs.lemmas.Cmp.{int_ranked, nat_eq_equiv, int_cmp_total, and_equiv, on_equiv}
pub use Rattle.std.proofs.lemmas.Fn.{always_returns_same}
pub use Rattle.std.proofs.lemmas.Grind.{common_steps, flat_map-append}
pub use Rattle.std.proofs.lemmas.Int.{ints, to_z-of_z, clamps, by_lt_z, unsigned_abs-mul}
pub use Rattle.std.proofs.lemmas.List.{take_more, drop_all, get_or_past, take-append-le, length-map, append-nil, map-append, length-replicate, get_or-map, get_or_append_left, get_or_push, take_rest, length-drop, length-take, length-take-le, take-append-drop, get_or_default, take_at, drop_at, drop-drop, get_or-take, drop_more, map_more, length_push, get_or_read}
pub use Rattle.std.proofs.lemmas.List.Elements.{Contains-get_or, Contains-append_left, Contains-push, Contains-push_cases, filter-append, All-append, All-cons, All-head, All-nil, All-tail, All-map, All-contains, All-from_get_or, Contains-append_right, Contains-append_cases, All-push, All-get_or, All-weaker, All-take, All-drop, All-more, All-same, All-from_recursion, All-filter, filter_more, filter_passes}
pub use Rattle.std.proofs.lemmas.List.Filters.{dedup_is}
pub use Rattle.std.proofs.lemmas.List.Folds.{Any-from_list_any, list_any-append}
pub use Rattle.std.proofs.lemmas.List.FromFn.{length-range_with_len, length-map-range_with_len, get_or-range_with_len, get_or-map-range_with_len, length-enumerate_from, get_or-enumerate_from}
pub use Rattle.std.proofs.lemmas.List.Kept.{AllPairs-cons, AllPairs-filter, Contains-dedup, Contains-from_dedup}
pub use Rattle.std.proofs.lemmas.List.Quantifiers.{all_pairs_push}
pub use Rattle.std.proofs.lemmas.List.Sorted.{sum_by-IsPermutation, Contains-permutation, IsPermutation-sym, ranks_by, sorted_far}
pub use Rattle.std.proofs.lemmas.List.Sums.{sum_by-set, sum_by_more, sum_by-cons, sum_by_push, sum_by-append, AllPass-from_list_all}
pub use Rattle.std.proofs.lemmas.Map.Made.{IsDistinct-from_count}
pub use Rattle.std.proofs.lemmas.Map.Views.{Contains-from_any}
pub use Rattle.std.proofs.lemmas.Nat.{shr-shr, mul-le, pow_pos, pow-add}
pub use Rattle.std.proofs.lemmas.Option.{slice_get-get_or, slice_get_within, get_or_from_slice_get, slice_get_read, IfSome_then, slice_get_past, MatchOption-at_some, same_Some, slice_get-map}
pub use Rattle.std.proofs.lemmas.Result.{IfOk-weaker, on_ok_weaker, err_from_is_err_and, IfErr-weaker}
pub use Rattle.std.proofs.lemmas.Simd.{map-map}
pub use Rattle.std.proofs.lemmas.Slice.Eq.{bytes_eq-Decides, slice_eq-Decides}
pub use Rattle.std.proofs.lemmas.Slice.Zip.{length-zip, AllZip-long, all_zipped_more}
pub use Rattle.std.proofs.lemmas.Str.{IsUtf8-from_ascii}
pub use Rattle.std.specs.BTreeMap.{BTreeMap, Updates, get, is_at, btree_map_len, keys}
pub use Rattle.std.specs.Bool.{then_some}
pub use Rattle.std.specs.Borrow.{Bor}
pub use Rattle.std.specs.Cmp.{IsEquivalence}
pub use Rattle.std.specs.Fn.{Called, ComputesKey}
pub use Rattle.std.specs.Global.{Global}
pub use Rattle.std.specs.Int.{int_max, int_min, cast_signed, cast_unsigned}
pub use Rattle.std.specs.Int.Signed.{lt_z, le_z}
pub use Rattle.std.specs.Iterator.Adapters.{zip_first, zip_second}
pub use Rattle.std.specs.List.{list_all, flat_map, list_any, AllZip, zip, enumerate_from, position_or_len, prefix_len, position, range_with_len, dedup}
pub use Rattle.std.specs.List.Sorted.{IsStrictlyIncreasing, IsPermutation, IsSortedByKey, IsSorted}
pub use Rattle.std.specs.Map.{keys_of}
pub use Rattle.std.specs.Map.Iter.{deref}
pub use Rattle.std.specs.Option.{option_map_or}
pub use Rattle.std.specs.Ordering.{int_cmp, int_eq, MatchOrdering, is_lt}
pub use Rattle.std.specs.Slice.Iter.{iter_rest}
pub use Rattle.std.specs.Str.{bytes_eq}
pub use Rattle.std.specs.Vec.Iter.{into_iter_items}
pub use Rattle.std.specs.VecDeque.{deque_len}
pub use Rattle.std.specs.declared.cmp.Ordering.{Ordering}
pub use Rattle.std.specs.declared.cmp.Ordering.TheVariants.{Less, Equal, Greater}
