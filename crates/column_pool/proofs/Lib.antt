pub mod AddedColumns
mod RowSets
