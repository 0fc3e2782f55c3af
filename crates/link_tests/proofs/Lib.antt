mod Keys
mod Startable
