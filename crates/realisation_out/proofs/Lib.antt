pub mod RowsLemmas
pub mod PiecesLemmas
mod ReportLemmas
