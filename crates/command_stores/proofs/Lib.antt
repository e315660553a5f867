mod Answering
mod Once
mod Importing
mod RoundProofs
mod KeptRounds
