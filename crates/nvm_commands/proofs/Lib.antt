pub mod Generated
pub mod Held
pub mod HostFiles
mod NumberReading
pub mod Reading
