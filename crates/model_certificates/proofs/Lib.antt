pub mod Words
pub mod Exact
pub mod Leaves
pub mod TermReaders
pub mod FormulaReaders
pub mod CommandReaders
pub mod HeadReaders
pub mod ItemReaders
pub mod AnswerLaws
pub mod Streams
pub mod OneCertificate
pub mod Small
pub mod Gathering
mod WorkedBytes
