pub mod RuleTests
pub mod Entries
pub mod OptionReads
pub mod Naming
pub mod Cases
pub mod Matching
