-- the lists, the header before them, and the first refusal of all
pub mod Lists
pub mod Header
pub mod Picks
