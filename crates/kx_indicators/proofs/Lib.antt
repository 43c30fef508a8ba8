mod Behind
mod Bits
mod Going
mod Lasting
mod Longest
mod Offering
mod Single
