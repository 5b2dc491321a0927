pub mod CodeTargets
