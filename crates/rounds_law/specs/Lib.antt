pub mod GettingOn
