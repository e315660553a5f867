pub mod PoolText
pub mod PoolReading
pub mod FirstFault
pub mod WorkedPoolTexts
pub mod Ranges
pub mod BundleText
pub mod BundleReading
pub mod WorkedExamples
