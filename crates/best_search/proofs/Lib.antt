-- How the two searches join what they find, where they start, and the cases of the call.
pub mod RaiseLaws
pub mod SeekLaws
pub mod StartLaws
pub mod CallLaws
pub mod NextLaws
