pub mod Storages
