pub mod RootsAgree
pub mod StepOutcome
