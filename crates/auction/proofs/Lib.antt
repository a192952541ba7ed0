-- Laws of the page, of broken constraints, of the greedy page and of the price.
pub mod PageLaws
pub mod BrokenLaws
pub mod GreedyLaws
pub mod FilledLaws
pub mod ExceptLaws
pub mod PriceLaws
pub mod WriteLaws
