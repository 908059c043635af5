mod Fresh
mod Linking
mod Relinking
mod Splicing
mod Changed
