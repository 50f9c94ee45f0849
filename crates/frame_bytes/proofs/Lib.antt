pub mod ReadJudging
pub mod ReadFilling
pub mod ReadChecks
pub mod WriteMap
pub mod WriteNumbers
pub mod WriteFrame
