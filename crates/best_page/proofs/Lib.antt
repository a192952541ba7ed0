-- There is one best page, and trying every page finds it; how searches through sets of pages join.
pub mod BestLaws
pub mod SearchLaws
pub mod TriedLaws
pub mod BestPageLaws
