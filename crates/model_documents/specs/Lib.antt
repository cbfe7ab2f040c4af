pub mod Grammar
pub mod Numbers
pub mod Roots
pub mod Printed
