mod Aliased
mod Ending
mod Faults
mod Joining
mod Lists
mod Mapped
mod Refusals
