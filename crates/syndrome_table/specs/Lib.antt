pub mod CodeTable
