-- The laws that the proofs cite. Read in this order.
pub mod Signs
pub mod Values
pub mod Texts
pub mod Numbers
pub mod Encodings
pub mod Kept
