-- An actor that ends, whoever it is: the steps of its end, the law of each, and all of it.
pub mod Departs
pub mod Laws
pub mod Leaving
pub mod Steps
pub mod Stepwise
