pub mod Times
pub mod SegmentValue
