-- What a chain proves, and how it judges what others prove (ICS 24).
pub mod Values
pub mod Image
pub mod Evidence
