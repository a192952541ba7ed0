-- Laws of decimal text, of the lines made of it, and of text that is written piece by piece.
pub mod DecimalLaws
pub mod LinesLaws
pub mod PutLaws
