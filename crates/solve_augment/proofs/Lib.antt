-- Laws of the augmentation along arcs.
pub mod Augments
