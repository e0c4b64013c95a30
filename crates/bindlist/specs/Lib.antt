pub mod Printed
pub mod Shelves
