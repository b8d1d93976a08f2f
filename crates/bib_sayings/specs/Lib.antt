pub mod FieldTables
