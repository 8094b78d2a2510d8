mod Numbers
mod Keeping
mod Limiting
mod Parts
mod Taking
mod Adding
mod Shaping
mod Starting
