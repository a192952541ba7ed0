-- What the comparisons of buffers say.
pub mod BytesLaws
