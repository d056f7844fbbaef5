pub mod SegmentsRadius
