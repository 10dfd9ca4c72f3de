use Rattle.run_laws.proofs.region_files.FileLaws.{file_covers, file_fits, file_reads, row_counts}
use Rattle.run_laws.proofs.region_files.region_files_have_their_cells.Goals as goal

pub returns-clause-reads : goal.returns-clause-reads
returns-clause-reads c = file_reads

pub returns-clause-covers : goal.returns-clause-covers
returns-clause-covers c subject kind number size due read window cell is comes is_window =
    file_covers subject kind number size due is read comes window is_window cell

pub returns-clause-count : goal.returns-clause-count
returns-clause-count c subject rows k question row due read window answered =
    row_counts subject rows answered k question row due read window

pub returns-clause-fits : goal.returns-clause-fits
returns-clause-fits c = file_fits
