pub mod Forced
pub mod Conflicts
pub mod Growing
pub mod Verdicts
pub mod WalkSteps
pub mod Missing
pub mod Outcomes
