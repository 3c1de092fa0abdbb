-- Laws that the proofs cite.
pub mod CodeLaws
pub mod SizeLaws
