-- Laws on lists, rows, tests and bytes that are not about auctions.
pub mod BitLaws
pub mod CountLaws
pub mod FirstLaws
pub mod NumberLaws
pub mod RowLaws
pub mod TestLaws
pub mod BytesLaws
pub mod SliceLaws
pub mod RisingLaws
pub mod SumLaws
