mod Exactly
mod Patterns
