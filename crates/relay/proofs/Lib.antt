pub mod Order
pub mod RelayLaws
pub mod RelayCall
pub mod SameFrames
pub mod Office
pub mod AfterCalls
pub mod KnownRows
pub mod HonestBox
