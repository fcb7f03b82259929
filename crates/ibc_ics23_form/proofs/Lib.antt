pub mod SameForms
pub mod ReadForms
pub mod Varints
