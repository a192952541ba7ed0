-- How far the greedy page is below any other: rows of bidders, who stays eligible, and the theorem.
pub mod ExchangeLaws
pub mod FromAboveLaws
pub mod FarBelowLaws
