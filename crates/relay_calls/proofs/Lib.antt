pub mod CallRelay
pub mod RelayRow
