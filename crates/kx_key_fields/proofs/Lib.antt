mod Cellwise
mod Going
mod Moving
mod Virtual
mod Usual
