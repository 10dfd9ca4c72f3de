pub mod Centres
