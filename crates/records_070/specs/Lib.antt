pub mod File070
