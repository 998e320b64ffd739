pub mod SeenLists
pub mod SeenKeeping
pub mod SeenContents
pub mod SeenPieces
pub mod SeenJobs
pub mod SeenSteps
pub mod SeenMergedSides
pub mod SeenMergedKeys
pub mod SeenMerging
pub mod KeptAnswers
pub mod KeptConfirming
pub mod KeptJobs
pub mod KeptJoins
pub mod KeptMerges
pub mod KeptOwns
pub mod KeptShapes
pub mod KeptRuns
pub mod KeptSending
pub mod TextTags
pub mod TextContents
pub mod TextEntries
pub mod TextMerging
pub mod TextJobs
pub mod TextSteps
pub mod TextReadable
pub mod TextFiles
pub mod TextResuming
pub mod TextConfirming
pub mod TextCity
pub mod HeardJoins
pub mod HeardMerges
pub mod HeardSteps
pub mod Invented
mod SeenExamples
mod KeptExamples
mod HeardExamples
mod Turned
mod Refused
mod TextExamples
