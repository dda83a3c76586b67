pub mod File730
