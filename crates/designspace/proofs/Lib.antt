mod Names
mod SetCounts
