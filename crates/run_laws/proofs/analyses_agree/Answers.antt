use Rattle.run_laws.proofs.SameLaws.{analysed_faults_agree, analysed_rows_agree, rows_or_fault}
use Rattle.run_laws.proofs.analyses_agree.Goals as goal

pub returns-clause-rows : goal.returns-clause-rows
returns-clause-rows c = analysed_rows_agree

pub returns-clause-fault : goal.returns-clause-fault
returns-clause-fault c = analysed_faults_agree

pub returns-clause-apart : goal.returns-clause-apart
returns-clause-apart c = rows_or_fault
