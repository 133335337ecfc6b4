pub mod Adapters
