-- A controller in lent bytes.
pub mod Numbers
pub mod RecordBytes
pub mod Calls
pub mod ReadBack
