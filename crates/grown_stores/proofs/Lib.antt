mod Moved
mod Grown
mod Copied
mod Laid
mod Finished
mod Filed
