-- The words of the standard library that definitions cite, passed on from one place. Declares nothing.
pub use Rattle.std.proofs.Props.{props}
pub use Rattle.std.specs.Borrow.{Bor}
pub use Rattle.std.specs.Coded.{Unit-prop}
pub use Rattle.std.specs.Fmt.{decimal}
pub use Rattle.std.specs.Global.{Global}
pub use Rattle.std.specs.Int.{w16, w32}
pub use Rattle.std.specs.List.{list_any, concat, enumerate_from, AllZip, range_with_len}
pub use Rattle.std.specs.Option.{option_map_or}
pub use Rattle.std.specs.Str.{bytes_eq}
