mod Worked
mod WorkedMatches
pub mod Begun
pub mod Calendar
pub mod Class
pub mod Combining
pub mod Days
pub mod Existing
pub mod Fields
pub mod Joining
pub mod KeyWalks
pub mod LanePlaces
pub mod Lengths
pub mod Offsets
pub mod PatternRuns
pub mod Places
pub mod PreparedWalks
pub mod ShortPatterns
pub mod UidSets
pub mod ReadingBack
