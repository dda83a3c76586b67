pub mod Lists
pub mod OneMore
pub mod EachDemands
