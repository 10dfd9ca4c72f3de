-- The profile: which records this project takes, of all that have a spelling.
use Rattle.std.specs.Prelude.{length}
use Rattle.gds_records.specs.RecordSpelling.{Entry, HasSpelling}
use Rattle.gds_records.specs.Table.{IsPermitted}

-- the record is taken: it has a spelling, and the table permits its kind with its form and its size
pub record IsInProfile (e : Entry) : Type 0 where
  pub spelled : HasSpelling e
  pub permitted : IsPermitted e.kind e.form (length e.body)
