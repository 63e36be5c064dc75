pub mod ByteLaws
pub mod ByteLogs
pub mod EntryLogs
pub mod Faults
pub mod Logs
pub mod RecordRuns
pub mod Scans
