pub mod Ranged
