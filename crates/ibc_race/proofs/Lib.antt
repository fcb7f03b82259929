pub mod Booked
mod Gathering
