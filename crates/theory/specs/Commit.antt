-- A commit: what the tests give; the forward check, one entry more; its acceptance as one record; accepted tests are
-- one; the machine after it.
pub mod Tested
pub mod ForwardCheck
pub mod Acceptance
pub mod AcceptedVerdict
pub mod MachineAfter
