pub mod LoaderRules
pub mod Loadable
pub mod Named
