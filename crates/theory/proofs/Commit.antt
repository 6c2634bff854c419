-- A commit that is accepted, stopped; an accepted verdict is one.
pub mod Acceptance
pub mod AcceptedVerdict
