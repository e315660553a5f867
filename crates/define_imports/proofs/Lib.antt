pub mod OneReading
pub mod RecordByRecord
pub mod RightRules
