-- The files of this crate's definitions.
pub mod Seen
pub mod Within
pub mod Plan
pub mod Runs
pub mod Lists
pub mod First
pub mod Found
pub mod Displaced
pub mod FollowingOn
pub mod Laws
pub mod Internal
