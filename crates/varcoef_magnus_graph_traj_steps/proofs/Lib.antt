pub mod ByLaw
