pub mod CsvText
