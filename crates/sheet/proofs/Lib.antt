mod Streams
mod FrameTexts
mod Steps
mod Loop
mod Printed
mod Whole
pub mod Opened
