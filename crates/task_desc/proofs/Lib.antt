pub mod RecordBytes
pub mod Proved
