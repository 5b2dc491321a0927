pub mod TwoBanks
pub mod OneBank
