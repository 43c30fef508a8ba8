pub mod LawfulStatements
pub mod LawfulValues
pub mod PassedForms
pub mod PassedStatements
pub mod PassedValues
