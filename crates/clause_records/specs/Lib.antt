pub mod ClauseRecords
pub mod ClauseRecordsLaws
