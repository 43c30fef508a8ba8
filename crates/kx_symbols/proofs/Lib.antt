mod Contents
mod Given
mod Statements
mod Unsaid
