mod Written
mod Bodies
mod Faults
mod Meaning
mod Itself
