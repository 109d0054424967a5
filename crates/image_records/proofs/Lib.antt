-- One file: laws on the fields of a line: printable bytes, numbers of several bytes, and the widths of payloads.
pub mod Fields
