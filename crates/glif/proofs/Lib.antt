mod Alone
mod Hexadecimal
mod Gathering
mod Keeping
mod Opening
mod Outside
mod Passing
mod PrintedDrawings
mod PrintedNumbers
mod PrintedPoints
mod PrintedTexts
pub mod ReadLimits
