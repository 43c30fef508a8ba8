pub mod Few
mod Given
mod Laws
mod Loops
mod NamesShown
