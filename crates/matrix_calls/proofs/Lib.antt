pub mod SizesJudged
