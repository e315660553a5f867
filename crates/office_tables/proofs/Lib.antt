mod ChangedPlaces
mod Different
mod DrawnPanels
mod FactsOfTables
mod KeptParts
mod KeptRounds
mod TakenRounds
