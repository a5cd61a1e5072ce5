mod CompleteAsides
pub mod Attributes
mod CompleteTrees
pub mod Contents
pub mod CompleteItems
pub mod FaultLaw
pub mod SoundTexts
pub mod CompleteNames
pub mod Fuel
mod ContentJoins
mod Lengths
pub mod Numbers
pub mod SoundContent
pub mod Searches
pub mod Shorter
mod SoundTrees
pub mod Steps
pub mod SoundTags
pub mod SoundItems
pub mod Utf8
pub mod CompleteTags
pub mod CompleteTexts
