pub mod shape_faults
pub mod entity_documents
pub mod table_documents
pub mod change_documents
pub mod printed
