pub mod Export
pub mod RunExport
