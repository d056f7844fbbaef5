pub mod LookupSound
pub mod Rising
