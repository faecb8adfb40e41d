pub mod History
pub mod Copies
pub mod Listing
pub mod Lists
pub mod Book
pub mod Admission
