pub mod CodeAccess
