mod Kept
mod Taking
mod Waving
mod Answered
mod Ended
mod Whole
mod SharedPieces
mod SharedWaves
