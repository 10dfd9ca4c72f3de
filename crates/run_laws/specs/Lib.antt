-- what the laws of runs say of refusals, files, tasks, sizes, layers, faults and what is due
pub mod RefusalStages
pub mod NamedFiles
pub mod TaskRows
pub mod ListedSizes
pub mod AlikeDues
pub mod SubjectFaults
