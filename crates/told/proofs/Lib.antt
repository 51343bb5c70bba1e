mod Directions
mod Saying
