mod Ending
mod Joining
mod Keymaps
mod Mapped
mod Refusals
mod Standing
