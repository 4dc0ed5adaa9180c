pub mod Report
pub mod Mode
pub mod Refused
pub mod Build
pub mod Print
pub mod Printed
