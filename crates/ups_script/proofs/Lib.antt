mod Answering
mod Lasting
mod Taking
mod Told
