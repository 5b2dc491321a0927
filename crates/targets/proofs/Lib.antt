pub mod LendingLaws
pub mod CarryLaws
pub mod CallLaws
pub mod ByteLaws
