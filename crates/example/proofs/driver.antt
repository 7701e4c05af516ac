mod Copies
mod FirstBlock
mod Unknown
