mod Texts
mod Names
mod Meanings
mod Replies
mod Faulty
