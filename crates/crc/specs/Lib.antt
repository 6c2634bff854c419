pub mod Rtable
