pub mod WorkSlice
