pub mod SetupLaws
pub mod LendingLaws
pub mod FlipLaws
pub mod StoredLaws
pub mod InTurnLaws
