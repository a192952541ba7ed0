-- What the quick passes over the constraints rest on: 10 to 13 of one read as a number, and 28 of two.
pub mod FaultLaws
pub mod RisingLaws
