mod Fields
mod Texts
