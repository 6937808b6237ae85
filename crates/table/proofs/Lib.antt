pub mod Counting
pub mod Occurrences
pub mod Placing
pub mod Meetings
pub mod Heights
pub mod Listing
