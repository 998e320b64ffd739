pub mod MergeChains
pub mod MergeConflicts
pub mod MergeLaws
pub mod MergeOutcomes
pub mod ResolveParts
pub mod SplitPieces
