pub mod CheckSearch
pub mod CheckClasses
pub mod StageRows
pub mod PassedCaps
pub mod Repeated
pub mod ReasonsStand
pub mod Budget
pub mod GoesOn
