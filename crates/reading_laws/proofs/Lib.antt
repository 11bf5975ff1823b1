pub mod Later
pub mod Acceptance
pub mod Inside
pub mod Shown
pub mod Handed
pub mod StarredSet
pub mod Aside
pub mod Refusals
