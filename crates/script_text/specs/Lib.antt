-- In reading order.
pub mod Lines
pub mod Numbers
pub mod FieldWords
pub mod Form
pub mod Walk
pub mod LegalReport
pub mod Text
pub mod Printable
pub mod Reading
