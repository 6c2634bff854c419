-- Why the shifts count what they count.
mod Stairs
mod Lowest
mod Fields
