pub mod SameCommands
