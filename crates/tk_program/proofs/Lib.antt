pub mod Forms
pub mod Rendered
pub mod Saying
pub mod Statuses
