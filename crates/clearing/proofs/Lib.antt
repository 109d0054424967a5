-- One file: two numbers by their order.
pub mod Orders
