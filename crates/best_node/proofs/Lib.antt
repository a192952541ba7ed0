-- What a node of the search can become, what is free there, and what a choice leads to.
pub mod NodeLaws
pub mod FreeLaws
pub mod TotalLaws
pub mod LeadLaws
