pub mod Carrying
pub mod OneOutcome
pub mod More
pub mod Walks
pub mod Cuts
pub mod FullParts
pub mod Opening
pub mod Runs
