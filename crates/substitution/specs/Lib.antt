pub mod Sweep
pub mod LowerLaws
pub mod SweepLaws
pub mod EndLaws
