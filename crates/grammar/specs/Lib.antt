pub mod Documents
pub mod Declarations
pub mod Chains
pub mod Items
pub mod Manifests
pub mod Grammar
