pub mod Events
pub mod Numbers
pub mod ReadBack
pub mod Replies
pub mod Requests
