pub mod Alike
pub mod Products
pub mod Says
pub mod First
pub mod Exact
pub mod GoodCuts
