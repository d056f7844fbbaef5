pub mod AdjointRunSound
