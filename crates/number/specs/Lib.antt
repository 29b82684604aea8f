-- What the contracts cite beside layout's definitions.
pub mod Encoded
pub mod Kinds
pub mod Shorter
