-- what is due, and a run
pub mod Outputs
-- what the laws of sides alone cite
pub mod WholeCells
-- the rows on the bytes of a layout
pub mod Analysis
pub mod Run
-- what files contain, what a layout covers, and what words and contents come to
pub use Rattle.run_inputs.specs.Contents
pub use Rattle.run_inputs.specs.Coverage
pub use Rattle.run_inputs.specs.Layout
pub use Rattle.run_inputs.specs.Refusals
pub use Rattle.run_inputs.specs.Inquiries
pub use Rattle.run_inputs.specs.Verdict
-- what the words ask for
pub use Rattle.command_line.specs.OptionNames
pub use Rattle.command_line.specs.Spelling
pub use Rattle.command_line.specs.Numbers
pub use Rattle.command_line.specs.Requests
pub use Rattle.command_line.specs.WordsFaults
-- what only this crate's proofs and private contracts cite
pub mod inside
