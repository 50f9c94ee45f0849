pub mod CallOpen
pub mod CallWithdraw
pub mod CallShow
pub mod CallTake
