-- The lists of one bench as slices, and what writing them on the other ends with.
pub mod Lists
