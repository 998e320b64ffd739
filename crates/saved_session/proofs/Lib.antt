pub mod ByKey
pub mod KeyedTable
pub mod Pieces
pub mod Onto
pub mod Drafted
pub mod Within
pub mod LinesBack
pub mod ReadBack
pub mod SoundTested
pub mod Read
pub mod Plain
pub mod WordsAgain
pub mod Writable
pub mod ObjectAgain
pub mod EntryAgain
pub mod TableAgain
pub mod HasLines
pub mod HeadRead
pub mod Fitting
pub mod Ahead
pub mod Stopping
pub mod Standing
pub mod LeastUnsound
pub mod ToldExactly
mod EntryTold
mod SavedTold
mod Examples
