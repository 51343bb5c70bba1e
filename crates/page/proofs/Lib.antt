-- the first bytes of an input, and a text in the buffer
pub mod Pages
