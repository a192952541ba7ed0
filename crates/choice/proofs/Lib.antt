pub mod WinnerLaws
pub mod CriticalLaws
pub mod PlacingLaws
pub mod RankingLaws
