pub mod WeightedStepSound
