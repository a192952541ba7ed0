-- Laws of the downward test: what it says of a list, that the test over the sets of listed slots is the test over the list, how the sets
-- are entered, and the cases of the call.
pub mod DownwardLaws
pub mod CallLaws
pub mod ListedLaws
