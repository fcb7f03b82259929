pub mod KeyPaths
pub mod SpelledViews
