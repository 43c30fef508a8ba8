mod Given
mod Joining
mod Same
mod Showing
