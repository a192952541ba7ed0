-- Which bidders at which slots break a constraint together, and how the table tells it.
pub mod ClashLaws
pub mod MarkLaws
pub mod TableLaws
pub mod RowLaws
pub mod ShutLaws
pub mod Sets
