mod Benches
mod Ends
mod Numbers
