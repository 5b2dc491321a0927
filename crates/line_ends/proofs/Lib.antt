pub mod LineEndLaws
