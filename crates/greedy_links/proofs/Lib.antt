-- Why the links of one chain are enough for a candidate and for a winner, and why a constraint is broken exactly when both its keys are true.
pub mod LinkLaws
pub mod KeyLaws
