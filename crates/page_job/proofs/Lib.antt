-- Why the text is the sheet's: what a played result's bytes say, the two cases of the text, an input that is too long, and
-- what is known of one that was read.
pub mod PageTextLaws
pub mod LongInputLaws
pub mod InputLaws
pub mod PrintedTexts
