pub mod StartKeys
pub mod Reports
pub mod KeptReports
pub mod ReportLaws
